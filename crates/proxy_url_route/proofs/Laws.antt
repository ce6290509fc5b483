-- F-9: the lines of a route checked and written in turn, and what the call then answers.
use Prim.Native.Nat.{ℕ, suc, ◌+◌, ◌-◌, ◌*◌, ◌≤◌, ◌<◌}
use native.Mathlib.Omega.{arith}
use native.Mathlib.Numerals.{add-one}
use mathlib.Core.Path.{◌≡◌, refl, sym, ap, ◌∙◌}
use mathlib.Core.Bool.{true, false}
use mathlib.Core.List.{List, [], ◌∷◌, ◌++◌, append_assoc}
use lib.ListN.{length, take, drop, get_or, set, replicate}
use lib.Seq.{drop-cons, drop-length, take-suc, take-length, length-take-le, set_at}
use borrow.Author.Tests.{eq-eqb, ne_eqb, le-ltb, lt-ltb}
use Rattle.protocol.specs.declared.SocksError.TheVariants.{RouteLength, BadLine}
use Rattle.protocol.specs.Answers.{Accepted}
use Rattle.route_session.specs.declared.plan.Proxy.{Proxy}
use Rattle.route_session.specs.plan.Plan.{no_proxy}
use Rattle.proxy_url.specs.declared.ProxyLine.{ProxyLine}
use Rattle.proxy_url.specs.Calls.{read_of}
use Rattle.proxy_url_route.specs.declared.RefusedLine.{RefusedLine}
use Rattle.proxy_url_route.specs.declared.RouteLines.{RouteLines}
use Rattle.proxy_url_route.specs.Lines.{split, lines_of, marks}
use Rattle.proxy_url_route.proofs.lines.Laws.{split_many}
use Rattle.proxy_url_route.proofs.fields.Laws.{length_line}
use Rattle.proxy_url_route.specs.Calls.{accepts, none_refused, first_refused, line_written, written_by, proxy_at, proxies_from, proxies_by, refused_with, unwritten, written, read_by, read_lines, RouteResult}

-- ---- checked in turn

module _ (ls : List (List ℕ)) (i : ℕ) (x : RefusedLine) (e : first_refused i (drop i ls) ≡ x) where
  module _ (inside : i < length ls) (r : ProxyLine) (is : r ≡ read_of (get_or ls i [])) where
    passes : accepts (read_of (get_or ls i [])).answer ≡ true → first_refused i (drop i ls) ≡ first_refused (suc i) (drop (suc i) ls)
    unfolding first_refused
    passes h = rw (drop-cons ls i [] inside, h)

    stops : accepts (read_of (get_or ls i [])).answer ≡ false → first_refused i (drop i ls) ≡ record { line = suc i; place = (read_of (get_or ls i [])).place }
    unfolding first_refused
    stops h = rw (drop-cons ls i [] inside, h)

    pub goes_on : accepts r.answer ≡ true → first_refused (i + 1) (drop (i + 1) ls) ≡ x
    goes_on a = rw add-one (sym (passes (rw is at a)) ∙ e)

    pub ends : accepts r.answer ≡ false → record { line = i + 1; place = r.place } ≡ x
    ends a = rw (add-one, is) (sym (stops (rw is at a)) ∙ e)

  pub none_refused_lem : i ≡ length ls → none_refused ≡ x
  unfolding first_refused
  none_refused_lem q = rw (q, drop-length ls) at e

-- ---- written in turn

written_step : (ls : List (List ℕ)) (i : ℕ) (b : List ℕ) → i < length ls
    → written_by i (drop i ls) b ≡ written_by (suc i) (drop (suc i) ls) (line_written (i * 765) (get_or ls i []) b)
unfolding written_by
written_step ls i b h = rw (drop-cons ls i [] h)

pub written_turn : (ls : List (List ℕ)) (i : ℕ) (b b' w : List ℕ) → i < length ls → written_by i (drop i ls) b ≡ w → b' ≡ line_written (i * 765) (get_or ls i []) b
    → written_by (i + 1) (drop (i + 1) ls) b' ≡ w
written_turn ls i b b' w h e q = rw (add-one, q) (sym (written_step ls i b h) ∙ e)

pub written_end : (ls : List (List ℕ)) (i : ℕ) (b w : List ℕ) → i ≡ length ls → written_by i (drop i ls) b ≡ w → b ≡ w
unfolding written_by
written_end ls i b w q e = rw (q, drop-length ls) at e

-- ---- and the proxies

pub proxies_snoc : (n : ℕ) (ls : List (List ℕ)) (l : List ℕ) → proxies_from n (ls ++ (l ∷ [])) ≡ proxies_from n ls ++ (proxy_at ((n + length ls) * 765) (read_of l) ∷ [])
unfolding proxies_from
proxies_snoc n [] l = let z : n + 0 ≡ n = omega arith in rw z
proxies_snoc n (k ∷ ls) l =
    let z : suc n + length ls ≡ n + suc (length ls) = omega arith in
    ap (λ (ps : List Proxy). proxy_at (n * 765) (read_of k) ∷ ps) (rw z at (proxies_snoc (suc n) ls l))

pub length_proxies : (n : ℕ) (ls : List (List ℕ)) → length (proxies_from n ls) ≡ length ls
unfolding proxies_from
length_proxies n [] = refl
length_proxies n (l ∷ ls) = ap suc (length_proxies (suc n) ls)

pub proxies_turn : (ls : List (List ℕ)) (i : ℕ) (ps : List Proxy) (p : Proxy) → i < length ls → length ls ≤ 8
    → ps ≡ proxies_from 0 (take i ls) ++ replicate (8 - i) no_proxy → p ≡ proxy_at (i * 765) (read_of (get_or ls i []))
    → set ps i p ≡ proxies_from 0 (take (i + 1) ls) ++ replicate (8 - (i + 1)) no_proxy
proxies_turn ls i ps p h l e q =
    let n : 8 - i ≡ suc (8 - (i + 1)) = omega arith in
    let k : length (take i ls) ≡ i = length-take-le i ls (omega arith) in
    let f : List Proxy = proxies_from 0 (take i ls) in
    let z : List Proxy = replicate (8 - (i + 1)) no_proxy in
    let m : length f ≡ i = length_proxies 0 (take i ls) ∙ k in
    let a : ps ≡ f ++ (no_proxy ∷ z) = e ∙ ap (λ (j : ℕ). f ++ replicate j no_proxy) n in
    let o : 0 + length (take i ls) ≡ i = omega arith in
    let s : proxies_from 0 (take (i + 1) ls) ≡ f ++ (p ∷ []) =
    rw (add-one, take-suc ls i [] h, q) (proxies_snoc 0 (take i ls) (get_or ls i []) ∙ ap (λ (j : ℕ). f ++ (proxy_at (j * 765) (read_of (get_or ls i [])) ∷ [])) o) in
    ap (λ (t : List Proxy). set t i p) a ∙ set_at f no_proxy z p i m ∙ sym (rw s (append_assoc f (p ∷ []) z))

pub proxies_end : (ls : List (List ℕ)) (i : ℕ) (ps : List Proxy) → i ≡ length ls → ps ≡ proxies_from 0 (take i ls) ++ replicate (8 - i) no_proxy → ps ≡ proxies_by ls
proxies_end ls i ps q e = e ∙ rw (q, take-length ls)

-- ---- both, behind so many lines

pub record Filled (ls : List (List ℕ)) (buffer₀ buffer : List ℕ) (ps : List Proxy) (i : ℕ) : Type 0 where
  pub within : i ≤ length ls
  pub long : length buffer ≡ 6120
  pub written : written_by i (drop i ls) buffer ≡ written_by 0 ls buffer₀
  pub proxies : ps ≡ proxies_from 0 (take i ls) ++ replicate (8 - i) no_proxy

pub filled_none : (ls : List (List ℕ)) (buffer : List ℕ) (ps : List Proxy) → length buffer ≡ 6120 → ps ≡ replicate 8 no_proxy → Filled ls buffer buffer ps 0
unfolding proxies_from
filled_none ls buffer ps h e = record { within = omega arith; long = h; written = refl; proxies = e }

pub filled_more : {ls : List (List ℕ)} {b₀ b : List ℕ} {ps : List Proxy} {i : ℕ} → Filled ls b₀ b ps i → i < length ls → length ls ≤ 8
    → (line b' : List ℕ) (p : Proxy) → line ≡ get_or ls i [] → p ≡ proxy_at (i * 765) (read_of line) → b' ≡ line_written (i * 765) line b
    → Filled ls b₀ b' (set ps i p) (i + 1)
filled_more {ls} {b₀} {b} {ps} {i} f h l line b' p e q w =
    let k : length b ≡ 6120 = f.long in
    record {
      within = omega arith;
      long = ap length w ∙ length_line (i * 765) line b (omega arith) ∙ k;
      written = written_turn ls i b b' (written_by 0 ls b₀) h f.written (rw e at w);
      proxies = proxies_turn ls i ps p h l f.proxies (rw e at q);
    }

pub filled_all : {ls : List (List ℕ)} {b₀ b : List ℕ} {ps : List Proxy} {i : ℕ} → Filled ls b₀ b ps i → length ls ≤ i
    → (ps ≡ proxies_by ls) × (b ≡ written_by 0 ls b₀)
filled_all {ls} {b₀} {b} {ps} {i} f h =
    let l : i ≤ length ls = f.within in
    let q : i ≡ length ls = omega arith in
    (proxies_end ls i ps q f.proxies, written_end ls i b (written_by 0 ls b₀) q f.written)

-- ---- the call

module _ (ls : List (List ℕ)) (buffer : List ℕ) where
  pub by_none : length ls ≡ 0 → read_by ls buffer ≡ unwritten RouteLength none_refused buffer
  by_none h = rw (eq-eqb (length ls) 0 h)

  pub by_many : 8 < length ls → read_by ls buffer ≡ unwritten RouteLength none_refused buffer
  by_many h = rw (ne_eqb (length ls) 0 (λ q. omega arith), lt-ltb 8 (length ls) h)

  module _ (some : 0 < length ls) (few : length ls ≤ 8) where
    pub by_refused : 0 < (first_refused 0 ls).line → read_by ls buffer ≡ unwritten BadLine (first_refused 0 ls) buffer
    by_refused h = rw (ne_eqb (length ls) 0 (λ q. omega arith), le-ltb 8 (length ls) few, ne_eqb (first_refused 0 ls).line 0 (λ q. omega arith))

    pub by_lawful : (first_refused 0 ls).line ≡ 0 → read_by ls buffer ≡ written ls buffer
    by_lawful h = rw (ne_eqb (length ls) 0 (λ q. omega arith), le-ltb 8 (length ls) few, eq-eqb (first_refused 0 ls).line 0 h)

lines_split : (text : List ℕ) → (length text ≡ 0 → ⊥) → lines_of text ≡ split text
lines_split [] n = absurd (n refl)
lines_split (b ∷ s) n = refl

lines_none : (text : List ℕ) → length text ≡ 0 → length (lines_of text) ≡ 0
lines_none [] e = refl
lines_none (b ∷ s) e = absurd (omega arith)

module _ (text buffer : List ℕ) where
  pub read_none : (r : RouteLines) → length text ≡ 0 → r ≡ refused_with RouteLength 0 0 → RouteResult (read_lines text buffer) r buffer
  unfolding read_lines
  read_none r h e = rw (by_none (lines_of text) buffer (lines_none text h)) (record { returned = e; left = refl })

  module _ (nonempty : length text ≡ 0 → ⊥) (n : ℕ) (counted : n ≡ marks text) where
    long : length (lines_of text) ≡ n + 1
    long = ap length (lines_split text nonempty) ∙ split_many text ∙ ap (λ (k : ℕ). k + 1) (sym counted)

    pub read_many : (r : RouteLines) → 8 ≤ n → r ≡ refused_with RouteLength 0 0 → RouteResult (read_lines text buffer) r buffer
    unfolding read_lines
    read_many r h e = rw (by_many (lines_of text) buffer (omega (arith, long))) (record { returned = e; left = refl })

    module _ (few : n < 8) (x : RefusedLine) (first : x ≡ first_refused 0 (split text)) where
      same : first_refused 0 (lines_of text) ≡ x
      same = ap (first_refused 0) (lines_split text nonempty) ∙ sym first

      pub read_refused : (r : RouteLines) → 0 < x.line → r ≡ refused_with BadLine x.line x.place → RouteResult (read_lines text buffer) r buffer
      unfolding read_lines
      read_refused r h e =
          rw (by_refused (lines_of text) buffer (omega (arith, long)) (omega (arith, long)) (rw same h)) (record { returned = rw same e; left = refl })

      pub read_lawful : x.line ≤ 0 → (ps : List Proxy) (buffer' : List ℕ) → ps ≡ proxies_by (split text) → buffer' ≡ written_by 0 (split text) buffer
          → RouteResult (read_lines text buffer) (record { answer = Accepted; line = 0; place = 0; count = n + 1; proxies = ps }) buffer'
      unfolding read_lines
      read_lawful h ps buffer' p w =
          let z : x.line ≡ 0 = omega arith in
          let c : n + 1 ≡ length (lines_of text) = sym long in
          let q : ps ≡ proxies_by (lines_of text) = p ∙ ap proxies_by (sym (lines_split text nonempty)) in
          rw (by_lawful (lines_of text) buffer (omega (arith, long)) (omega (arith, long)) (rw same z))
          (record { returned = λ i. record { answer = Accepted; line = 0; place = 0; count = c i; proxies = q i }; left = rw (lines_split text nonempty) w })
