-- What F-9's promise of a route from lines comes to. Each of its fields is used here.
use Prim.Native.Nat.{ℕ, zero, suc, ◌+◌, ◌-◌, ◌≤◌, ◌<◌}
use native.Mathlib.Omega.{arith}
use mathlib.Core.Path.{◌≡◌, refl, sym, ap, ◌∙◌}
use mathlib.Core.Logic.{◌⊎◌, inl, inr}
use mathlib.Core.Bool.{Bool, true, false}
use mathlib.Core.List.Memᴰ
use mathlib.Core.List.{List, [], ◌∷◌, ◌++◌, map, Memᴰ}
use lib.Dec.{eqb, lit<}
use lib.ListN.{length, take, drop, get_or, replicate}
use borrow.Author.Tests.{eqb-true, eqb-false, ne_eqb}
use Rattle.protocol.specs.declared.SocksError.{SocksError}
use Rattle.protocol.specs.Answers.{Answer, Accepted, Refused, Port}
use Rattle.protocol.specs.Numbers.{answer_number}
use Rattle.protocol.proofs.Limits.{number_is}
use Rattle.route_spec.specs.Route as route
use Rattle.route_session.specs.plan.Plan.{no_proxy, route_of}
use Rattle.route_session.specs.calls.Calls as routes
use Rattle.proxy_url_spec.specs.Grammar.{Value, Line}
use Rattle.proxy_url_spec.specs.Place.{Place}
use Rattle.proxy_url_spec.proofs.Places.{line_once, place_once}
use Rattle.proxy_url.specs.Reads.{Unlawful}
use Rattle.proxy_url_route.specs.Lines.{onto, split, lines_of}
use Rattle.proxy_url_route.specs.Calls.{Call, read_lines}
use Rattle.proxy_url_route.specs.RoutesRead.{proxy_for, Values, end, line, SomeUnlawful, FirstUnlawful, here, later, Placed, OutsideAll, ReadsRoute}
use Rattle.proxy_url_route.proofs.Promise.{some_unlawful, none_unlawful, reads_routes}

-- ---- the lines of a text are the one row of lines without 0A that has this text with a 0A between them

abbrev Free : List ℕ → Type 0
Free l = Memᴰ 0x0A l → ⊥

abbrev AllFree : List (List ℕ) → Type 0
AllFree [] = Unit {0}
AllFree (l ∷ ls) = Free l × AllFree ls

abbrev joined : List ℕ → List (List ℕ) → List ℕ
joined l [] = l
joined l (k ∷ ls) = l ++ (0x0A ∷ joined k ls)

abbrev Joins : List (List ℕ) → List ℕ → Type 0
Joins [] s = ⊥
Joins (l ∷ ls) s = joined l ls ≡ s

join_mark : (ls : List (List ℕ)) (s : List ℕ) → Joins ls s → Joins ([] ∷ ls) (0x0A ∷ s)
join_mark [] s e = absurd e
join_mark (l ∷ ls) s e = ap (λ (t : List ℕ). 0x0A ∷ t) e

join_onto : (b : ℕ) (ls : List (List ℕ)) (s : List ℕ) → Joins ls s → Joins (onto b ls) (b ∷ s)
join_onto b [] s e = absurd e
join_onto b (l ∷ []) s e = ap (λ (t : List ℕ). b ∷ t) e
join_onto b (l ∷ k ∷ ls) s e = ap (λ (t : List ℕ). b ∷ t) e

pub lines_join : (s : List ℕ) → Joins (split s) s
unfolding split
lines_join [] = refl
lines_join (b ∷ s) = go (eqb b 0x0A) refl (lines_join s)
  where
    go : (t : Bool) → eqb b 0x0A ≡ t → Joins (split s) s → Joins (split (b ∷ s)) (b ∷ s)
    go true e x = rw e (rw (eqb-true b 0x0A e) (join_mark (split s) s x))
    go false e x = rw e (join_onto b (split s) s x)

free_onto : (b : ℕ) (ls : List (List ℕ)) → (b ≡ 0x0A → ⊥) → AllFree ls → AllFree (onto b ls)
free_onto b [] n x = (go, tt)
  where
    go : Free (b ∷ [])
    go m = by (Memᴰ.cases_cons m)
      where
        by : (0x0A ≡ b) ⊎ Memᴰ {A = ℕ} 0x0A [] → ⊥
        by (inl e) = n (sym e)
        by (inr t) = Memᴰ.not-nil t
free_onto b (l ∷ ls) n x = (go, x.1)
  where
    go : Free (b ∷ l)
    go m = by (Memᴰ.cases_cons m)
      where
        by : (0x0A ≡ b) ⊎ Memᴰ 0x0A l → ⊥
        by (inl e) = n (sym e)
        by (inr t) = x.0 t

pub lines_free : (s : List ℕ) → AllFree (split s)
unfolding split
lines_free [] = (Memᴰ.not-nil, tt)
lines_free (b ∷ s) = go (eqb b 0x0A) refl (lines_free s)
  where
    go : (t : Bool) → eqb b 0x0A ≡ t → AllFree (split s) → AllFree (split (b ∷ s))
    go true e x = rw e (Memᴰ.not-nil, x)
    go false e x = rw e (free_onto b (split s) (eqb-false b 0x0A e) x)

split_last : (l : List ℕ) → Free l → split l ≡ l ∷ []
unfolding split
split_last [] f = refl
split_last (a ∷ l) f = rw (ne_eqb a 0x0A (λ e. f (Memᴰ.head (sym e))), split_last l (λ m. f (Memᴰ.tail m)))

split_first : (l s : List ℕ) → Free l → split (l ++ (0x0A ∷ s)) ≡ l ∷ split s
unfolding split
split_first [] s f = refl
split_first (a ∷ l) s f = rw (ne_eqb a 0x0A (λ e. f (Memᴰ.head (sym e))), split_first l s (λ m. f (Memᴰ.tail m)))

pub joined_lines : (l : List ℕ) (ls : List (List ℕ)) → AllFree (l ∷ ls) → split (joined l ls) ≡ l ∷ ls
joined_lines l [] f = split_last l f.0
joined_lines l (k ∷ ls) f = split_first l (joined k ls) f.0 ∙ ap (λ (t : List (List ℕ)). l ∷ t) (joined_lines k ls f.1)

-- ---- values, and the first line that is not lawful, are one

abbrev ValuesBy : List (List ℕ) → List Value → Type 0
ValuesBy [] vs = vs ≡ []
ValuesBy (l ∷ ls) vs = (w : Value) × (ws : List Value) × (vs ≡ w ∷ ws) × Line l w × Values ls ws

values_by : {ls : List (List ℕ)} {vs : List Value} → Values ls vs → ValuesBy ls vs
values_by end = refl
values_by (line {v} {vs} x xs) = (v, vs, refl, x, xs)

pub values_once : {ls : List (List ℕ)} {us vs : List Value} → Values ls us → Values ls vs → us ≡ vs
values_once end y = sym (values_by y)
values_once (line x xs) y =
    let (w, ws, e, z, zs) = values_by y in
    let p = line_once x z in
    let q = values_once xs zs in
    (λ i. p i ∷ q i) ∙ sym e

abbrev FirstBy : List (List ℕ) → ℕ → ℕ → Type 0
FirstBy [] n place = ⊥
FirstBy (l ∷ ls) n place = (Unlawful l × (n ≡ 1) × Place l place) ⊎ ((v : Value) × (m : ℕ) × (n ≡ suc m) × Line l v × FirstUnlawful ls m place)

first_by : {ls : List (List ℕ)} {n place : ℕ} → FirstUnlawful ls n place → FirstBy ls n place
first_by (here u x) = inl (u, refl, x)
first_by (later {v} {n} x f) = inr (v, n, refl, x, f)

pub first_once : {ls : List (List ℕ)} {m k p q : ℕ} → FirstUnlawful ls m p → FirstUnlawful ls k q → (m ≡ k) × (p ≡ q)
first_once {k} {q} (here {l} {ls} {place} u x) y = go (first_by y)
  where
    go : FirstBy (l ∷ ls) k q → (1 ≡ k) × (place ≡ q)
    go (inl (w, e, z)) = (sym e, place_once x z)
    go (inr (v, j, e, z, f)) = absurd (u v z)
first_once {k} {q} (later {l} {ls} {v} {n} {place} x f) y = go (first_by y) (λ j g. first_once f g)
  where
    go : FirstBy (l ∷ ls) k q → ((j : ℕ) → FirstUnlawful ls j q → (n ≡ j) × (place ≡ q)) → (suc n ≡ k) × (place ≡ q)
    go (inl (w, e, z)) h = absurd (w v x)
    go (inr (w, j, e, z, g)) h = (ap suc (h j g).0 ∙ sym e, (h j g).1)

-- the line of that number is not lawful, with that place, and each before it is
pub record Numbered (ls : List (List ℕ)) (n place : ℕ) : Type 0 where
  pub index : ℕ
  pub counted : n ≡ suc index
  pub inside : index < length ls
  pub unlawful : Unlawful (get_or ls index [])
  pub is : Place (get_or ls index []) place
  pub before : (j : ℕ) → j < index → (v : Value) × Line (get_or ls j []) v

pub numbered : {ls : List (List ℕ)} {n place : ℕ} → FirstUnlawful ls n place → Numbered ls n place
numbered (here u x) = record { index = 0; counted = refl; inside = omega arith; unlawful = u; is = x; before = λ j h. absurd (omega arith) }
numbered (later {l} {ls} {v} x f) =
    let r = numbered f in
    let h = r.inside in
    record { index = suc r.index; counted = ap suc r.counted; inside = omega arith; unlawful = r.unlawful; is = r.is; before = go r.index r.before }
  where
    go : (i : ℕ) → ((j : ℕ) → j < i → (w : Value) × Line (get_or ls j []) w) → (j : ℕ) → j < suc i → (w : Value) × Line (get_or (l ∷ ls) j []) w
    go i b zero h = (v, x)
    go i b (suc j) h = b j (omega arith)

-- ---- the promise's fields

module _ (ls : List (List ℕ)) (buffer : List ℕ) (c : Call) (p : ReadsRoute ls buffer c) where
  -- no line, or nine
  pub answers_21 : (length ls ≡ 0) ⊎ (8 < length ls) → answer_number c.lines.answer ≡ 21
  answers_21 x = (p.answers.refuses 21 (lit< tt)).1 (inl (x, refl))

  accepted_by : (a : Answer) → answer_number a ≡ 0 → a ≡ Accepted
  accepted_by Accepted e = refl
  accepted_by (Refused x) e = absurd (omega (arith, (number_is x).0, e))

  module _ (some : 0 < length ls) (few : length ls ≤ 8) where
    right : (length ls ≡ 0) ⊎ (8 < length ls) → ⊥
    right (inl e) = omega arith
    right (inr h) = omega arith

    -- one that is not lawful
    pub answers_24 : SomeUnlawful ls → answer_number c.lines.answer ≡ 24
    answers_24 x = (p.answers.refuses 24 (lit< tt)).1 (inr (right, inl (x, refl)))

    pub first_is : SomeUnlawful ls → FirstUnlawful ls c.lines.line c.lines.place
    first_is x = p.first_told (answers_24 x)

    pub first_told_once : {n place : ℕ} → FirstUnlawful ls n place → (c.lines.line ≡ n) × (c.lines.place ≡ place)
    first_told_once f = first_once (first_is (some_unlawful f)) f

    -- lawful lines are accepted
    pub lawful_accepted : (vs : List Value) → Values ls vs → c.lines.answer ≡ Accepted
    lawful_accepted vs x = accepted_by c.lines.answer (p.answers.accepts.1 (right, (none_unlawful x, tt)))

  -- what is accepted is the route of the lines' values, whichever way these are found
  pub route_told : c.lines.answer ≡ Accepted → (vs : List Value) → Values ls vs → (host : List ℕ) (port : Port)
      → route_of c.buffer c.lines.proxies c.lines.count host port ≡ record { proxies = map proxy_for vs; host = host; port = port }
  route_told q vs x host port =
      let r = p.accepted q in
      let e = values_once r.have x in
      r.route_is host port ∙ (λ i. record { proxies = map proxy_for (e i); host = host; port = port })

  -- and is opened as it is
  pub opened_as : c.lines.answer ≡ Accepted → (vs : List Value) → Values ls vs → (host : List ℕ) (port : Port) (out : List ℕ)
      → routes.opening (route_of c.buffer c.lines.proxies c.lines.count host port) out ≡ routes.opening (record { proxies = map proxy_for vs; host = host; port = port }) out
  opened_as q vs x host port out = ap (λ (r : route.Route). routes.opening r out) (route_told q vs x host port)

  -- none is given behind the count, and bytes of no field stay
  pub none_given : c.lines.answer ≡ Accepted → drop (length ls) c.lines.proxies ≡ replicate (8 - length ls) no_proxy
  none_given q = let r = p.accepted q in rw r.count_is at r.none_behind

  pub others_stay : c.lines.answer ≡ Accepted → (j : ℕ) → OutsideAll j (take (length ls) c.lines.proxies) → get_or c.buffer j 0 ≡ get_or buffer j 0
  others_stay q j o = let r = p.accepted q in r.others_stay j (rw r.count_is o)

  pub placed_so : c.lines.answer ≡ Accepted → Placed 0 (take (length ls) c.lines.proxies)
  placed_so q = let r = p.accepted q in rw r.count_is at r.placed

  -- a refusal gives no proxy, and leaves the buffer; only 24 has a line
  pub refused_leaves : (e : SocksError) → c.lines.answer ≡ Refused e → (c.buffer ≡ buffer) × (c.lines.count ≡ 0) × (c.lines.proxies ≡ replicate 8 no_proxy)
  refused_leaves e q =
      let n : c.lines.answer ≡ Accepted → ⊥ = λ a. let z : ◌≡◌ {A = ℕ} 0 1 = cc in omega arith in
      (p.unwritten n, (p.none_given n).0, (p.none_given n).1)

  pub no_line : c.lines.answer ≡ Accepted → (c.lines.line ≡ 0) × (c.lines.place ≡ 0)
  no_line q = p.none_told (λ e. let z : ◌≡◌ {A = ℕ} 0 24 = sym (ap answer_number q) ∙ e in omega arith)

  pub keeps_length : length c.buffer ≡ length buffer
  keeps_length = p.long

-- ---- for every text: eight lawful lines at most are the route that they stand for

pub lines_route : (text buffer : List ℕ) → length buffer ≡ 6120 → 0 < length (lines_of text) → length (lines_of text) ≤ 8
    → (vs : List Value) → Values (lines_of text) vs → (host : List ℕ) (port : Port)
    → route_of (read_lines text buffer).buffer (read_lines text buffer).lines.proxies (read_lines text buffer).lines.count host port
    ≡ record { proxies = map proxy_for vs; host = host; port = port }
lines_route text buffer size some few vs x host port =
    let p = reads_routes text buffer size in
    route_told (lines_of text) buffer (read_lines text buffer) p (lawful_accepted (lines_of text) buffer (read_lines text buffer) p some few vs x) vs x host port
