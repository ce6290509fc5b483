-- The stream at a proxy of a route: the open streams of those before it, then its own; by the openings as by the proxies.
use Prim.Native.Nat.{ℕ, zero, suc, ◌+◌, ◌-◌, ◌<◌}
use native.Mathlib.Numerals.{add-one}
use native.Mathlib.Omega.{arith}
use mathlib.Core.Path.{◌≡◌, refl, ap, sym, ◌∙◌}
use mathlib.Core.Bool.{cond}
use Rattle.std.specs.Prelude.{Option, None, Some}
use mathlib.Core.List.{List, [], ◌∷◌, ◌++◌, map, append-nil, append_assoc}
use lib.ListN.{length, get_or, take}
use lib.Seq.{take-suc}
use lib.Dec.{eqb}
use Rattle.protocol.specs.Answers.{Port}
use Rattle.protocol.specs.declared.Version as version
use Rattle.protocol.specs.declared.Version.TheVariants.{V5, V4}
use Rattle.protocol.specs.Opening.{Opening}
use Rattle.route_spec.specs.Route as routing
use Rattle.route_spec.specs.Route.{asked_by, asked_of, opening_for, host_of, port_of}
use Rattle.route_session.specs.declared.plan.Proxy.{Proxy}
use Rattle.route_session.specs.plan.Plan.{proxy_of, proxies_of}
use Rattle.endings_spec.specs.declared.Kind.{Kind}
use Rattle.endings_spec.specs.declared.OutcomeStatus.{OutcomeStatus}
use Rattle.endings_spec.specs.Streams.{kind_of, open_stream, stream_of, joined, stream_at}
use Rattle.endings.specs.Coded.{kind_by, kind_for, opens, end_for, row_at}
use Rattle.endings.proofs.Prepared.{kind5, kind4}

-- ---- by the openings

kind_asked : (v : version.Version) (p : routing.Proxy) (host : List ℕ) (port : Port) → kind_of (opening_for (asked_by v p host port)) ≡ kind_by v p.authenticates
kind_asked V5 p host port = sym (kind5 _)
kind_asked V4 p host port = sym (kind4 _)

module _ (text host : List ℕ) (port : Port) (w : OutcomeStatus) where
  abbrev asks : List Proxy → List Opening
  asks ps = map opening_for (asked_of (proxies_of text ps) host port)

  kind_here : (p : Proxy) (ps : List Proxy) → kind_of (opening_for (asked_by p.version (proxy_of text p) (host_of (proxies_of text ps) host) (port_of (proxies_of text ps) port))) ≡ kind_for p
  kind_here p ps = kind_asked p.version (proxy_of text p) _ _

  later_row : (ps : List Proxy) (n : ℕ) → stream_at (asks ps) (suc n) w ≡ row_at ps (suc n) w
  unfolding stream_at row_at asked_of
  later_row [] n = refl
  later_row (p ∷ []) zero = ap (λ (k : Kind). stream_of k w) (kind_here p [])
  later_row (p ∷ q ∷ ps) zero = ap (λ (k : Kind). cond (eqb w.number 0) None (stream_of k w)) (kind_here p (q ∷ ps))
  later_row (p ∷ ps) (suc n) = let k = kind_here p ps in let r = later_row ps n in λ i. joined (open_stream (k i)) (r i)

  pub stream_row : (ps : List Proxy) → 0 < length ps → (n : ℕ) → stream_at (asks ps) n w ≡ row_at ps n w
  unfolding stream_at row_at asked_of
  stream_row [] h n = absurd (omega arith)
  stream_row (p ∷ ps) h zero = refl
  stream_row (p ∷ ps) h (suc n) = later_row (p ∷ ps) n

-- ---- by the proxies

joined_none : (x : Option (List ℕ)) → x ≡ joined [] x
joined_none None = refl
joined_none (Some b) = refl

joined_both : (a b : List ℕ) (x : Option (List ℕ)) → joined a (joined b x) ≡ joined (a ++ b) x
joined_both a b None = refl
joined_both a b (Some c) = ap Some (sym (append_assoc a b c))

opens_end : (a : List Proxy) (p : Proxy) → opens (a ++ (p ∷ [])) ≡ opens a ++ open_stream (kind_for p)
unfolding opens
opens_end [] p = append-nil (open_stream (kind_for p))
opens_end (q ∷ a) p = ap (λ (l : List ℕ). open_stream (kind_for q) ++ l) (opens_end a p) ∙ sym (append_assoc (open_stream (kind_for q)) (opens a) (open_stream (kind_for p)))

pub opens_more : (ps : List Proxy) (i : ℕ) (d : Proxy) → i < length ps → opens (take (i + 1) ps) ≡ opens (take i ps) ++ open_stream (kind_for (get_or ps i d))
opens_more ps i d h = ap (λ (k : ℕ). opens (take k ps)) (add-one i) ∙ ap opens (take-suc ps i d h) ∙ opens_end (take i ps) (get_or ps i d)

pub row_none : (ps : List Proxy) (w : OutcomeStatus) → row_at ps 0 w ≡ None
unfolding row_at
row_none [] w = refl
row_none (p ∷ ps) w = refl

pub row_past : (ps : List Proxy) (n : ℕ) (w : OutcomeStatus) → length ps < n → row_at ps n w ≡ None
unfolding row_at
row_past [] n w h = refl
row_past (p ∷ ps) zero w h = absurd (omega arith)
row_past (p ∷ ps) (suc zero) w h = absurd (omega arith)
row_past (p ∷ ps) (suc (suc n)) w h = ap (joined (open_stream (kind_for p))) (row_past ps (suc n) w (omega arith))

pub row_at_lem : (ps : List Proxy) (n : ℕ) (w : OutcomeStatus) (d : Proxy) → n < length ps → row_at ps (suc n) w ≡ joined (opens (take n ps)) (end_for (length ps - suc n) (kind_for (get_or ps n d)) w)
unfolding row_at opens
row_at_lem [] n w d h = absurd (omega arith)
row_at_lem (p ∷ ps) zero w d h =
    let z : length ps ≡ suc (length ps) - 1 = omega arith in
    ap (λ (b : ℕ). end_for b (kind_for p) w) z ∙ joined_none (end_for (suc (length ps) - 1) (kind_for p) w)
row_at_lem (p ∷ ps) (suc n) w d h =
    let z : length ps - suc n ≡ suc (length ps) - suc (suc n) = omega arith in
    ap (joined (open_stream (kind_for p))) (row_at_lem ps n w d (omega arith)) ∙ joined_both (open_stream (kind_for p)) (opens (take n ps)) (end_for (length ps - suc n) (kind_for (get_or ps n d)) w)
    ∙ ap (λ (b : ℕ). joined (open_stream (kind_for p) ++ opens (take n ps)) (end_for b (kind_for (get_or ps n d)) w)) z
