-- The checks of a route but its output are those of its opening with output enough.
use Prim.Native.Nat.{ℕ, ◌-◌, ◌≤◌, ◌<◌}
use native.Mathlib.Omega.{arith}
use mathlib.Core.Path.{◌≡◌, refl, sym, ◌∙◌}
use mathlib.Core.Logic.{inl, inr}
use mathlib.Core.Bool.{Bool, true, false, ◌||◌, true≢false}
use mathlib.Core.List.{List, ◌∷◌, append-nil}
use lib.ListN.{length, take, replicate, length-take, length-append, length-replicate, length-map}
use lib.Dec.{ltb, eqb}
use borrow.Author.Tests.{eq-eqb, le-ltb, ltb-false}
use Rattle.protocol.specs.Answers as code
use Rattle.protocol.specs.declared.SocksError.TheVariants.{ShortOutput, RouteLength}
use Rattle.protocol.specs.Numbers.{answer_number}
use Rattle.protocol.specs.Opening.{Condition, First, Answers, refuse}
use Rattle.protocol.proofs.Openings.{clash}
use Rattle.route_spec.specs.Route as routing
use Rattle.route_spec.specs.Route.{asked, room_for, check_in_turn, check}
use Rattle.route_spec.proofs.Checks.{check_just}
use Rattle.route_session.specs.declared.plan.Proxy.{Proxy}
use Rattle.route_session.specs.plan.Plan.{proxy_of, no_proxy, counted, route_of}
use Rattle.route_session.specs.calls.Calls.{opening}
use Rattle.route.proofs.Refusals.{opening_answers}
use Rattle.endings.specs.Calls.{check_route}
use Rattle.endings.specs.Produces.{route_conditions}

-- ---- a size that is accepted

not_zero : (n : ℕ) → eqb n 0 ≡ false → 0 < n
not_zero n q = let f : n ≡ 0 → ⊥ = λ e. true≢false (sym (eq-eqb n 0 e) ∙ q) in omega arith

size_has : (n : ℕ) (b c : Bool) → eqb n 0 ≡ b → ltb 8 n ≡ c → (x : code.Answer) → refuse (b || c) RouteLength x ≡ code.Accepted → (0 < n) × (n ≤ 8)
size_has n true c p q x z = absurd (clash (sym z))
size_has n false true p q x z = absurd (clash (sym z))
size_has n false false p q x z = (not_zero n p, ltb-false 8 n q)

pub accepted_size : (r : routing.Route) → check_route r ≡ code.Accepted → (0 < length r.proxies) × (length r.proxies ≤ 8)
unfolding check_route
accepted_size r q = size_has (length r.proxies) _ _ refl refl (check_in_turn (asked r)) q

-- ---- output enough for eight proxies, or for as many as there are, is not refused

unless_short : (n out : ℕ) (x : code.Answer) (b c : Bool) → ltb 8 n ≡ c → (n ≤ 8 → room_for n ≤ out) → refuse (b || c) RouteLength (refuse (ltb out (room_for n)) ShortOutput x) ≡ refuse (b || c) RouteLength x
unless_short n out x true c q h = refl
unless_short n out x false true q h = refl
unless_short n out x false false q h = rw (le-ltb out (room_for n) (h (ltb-false 8 n q)))

pub check_is : (r : routing.Route) (out : ℕ) → (length r.proxies ≤ 8 → room_for (length r.proxies) ≤ out) → check r out ≡ check_route r
unfolding check check_route
check_is r out h = unless_short (length r.proxies) out (check_in_turn (asked r)) (eqb (length r.proxies) 0) _ refl h

eight_room : (n : ℕ) → n ≤ 8 → room_for n ≤ 8192
eight_room n h = omega arith

pub opened_check : (r : routing.Route) (out : List ℕ) → length out ≡ 8192 → (opening r out).answer ≡ check_route r
opened_check r out l = opening_answers r out ∙ check_is r (length out) (λ h. rw l (eight_room (length r.proxies) h))

-- a condition that does not hold may be left out
skips : {n : ℕ} (c d : Condition) (cs : List Condition) → (d.Holds → ⊥) → Answers n (c ∷ d ∷ cs) → Answers n (c ∷ cs)
skips {n} c d cs f a =
    record {
      accepts = (λ q. let (x, (y, z)) = a.accepts.0 q in (x, z), λ (x, z). a.accepts.1 (x, (f, z)));
      refuses = λ k h. (λ q. go k ((a.refuses k h).0 q), λ q. (a.refuses k h).1 (back k q));
    }
  where
    go : (k : ℕ) → First k (c ∷ d ∷ cs) → First k (c ∷ cs)
    go k (inl x) = inl x
    go k (inr (x, inl (y, z))) = absurd (f y)
    go k (inr (x, inr (y, z))) = inr (x, z)

    back : (k : ℕ) → First k (c ∷ cs) → First k (c ∷ d ∷ cs)
    back k (inl x) = inl x
    back k (inr (x, z)) = inr (x, inr (f, z))

pub route_just : (r : routing.Route) → Answers (answer_number (check_route r)) (route_conditions r)
route_just r =
    let n = room_for (length r.proxies) in
    skips _ _ _ (λ l. omega arith) (rw (check_is r n (λ h. omega arith)) at (check_just r n))

-- ---- the route that is meant

pub counted_few : (ps : List Proxy) (count : ℕ) → count ≤ 8 → counted ps count ≡ take count ps
counted_few ps count m = let z : count - 8 ≡ 0 = omega arith in rw z (append-nil (take count ps))

pub route_long : (text : List ℕ) (ps : List Proxy) (count : ℕ) (host : List ℕ) (port : code.Port) → length ps ≡ 8 → length (route_of text ps count host port).proxies ≡ count
route_long text ps count host port l =
    length-map (counted ps count) (proxy_of text) ∙ omega (arith, length-append (take count ps) (replicate (count - 8) no_proxy), length-take count ps, length-replicate (count - 8) no_proxy, l)
