-- A route is accepted exactly when none of its conditions holds, and each number comes exactly when its condition is the first to hold; what an accepted one has.
use Prim.Native.Nat.{ℕ, zero, suc, ◌≤◌, ◌<◌}
use native.Mathlib.Omega.{arith}
use mathlib.Core.Path.{◌≡◌, refl, ap}
use mathlib.Core.Logic.{◌↔◌, ◌⊎◌, inl, inr}
use mathlib.Core.Bool.{true, ◌||◌}
use mathlib.Core.List.{List, [], ◌∷◌, ◌++◌}
use lib.ListN.{length}
use lib.Dec.{ltb, eqb, lit<}
use borrow.Author.Tests.{lt-ltb, ltb-true, ne_eqb}
use Rattle.protocol.specs.Answers.{Answer, Accepted, Refused}
use Rattle.protocol.specs.Numbers.{number, answer_number}
use Rattle.protocol.specs.Opening.{Condition, Answers}
use Rattle.protocol.proofs.Claims.{answers_behind, answers_before}
use Rattle.protocol.proofs.Openings.{all_passed, checked, less_just, check5_just, check4_just}
use Rattle.protocol.proofs.Limits.{number_accepted, number_is}
use Rattle.route_spec.specs.Route.{Route, Asked, over5, over4, asked, room_for, conditions_for, conditions_in_turn, conditions, check_for, unless_refused, check_in_turn, check}

-- ---- the answer is that of the conditions

for_just : (a : Asked) → Answers (answer_number (check_for a)) (conditions_for a)
for_just (over5 a) = check5_just a
for_just (over4 a) = check4_just a

unless_just : (x y : Answer) (cs ds : List Condition) → Answers (answer_number x) cs → Answers (answer_number y) ds → Answers (answer_number (unless_refused x y)) (cs ++ ds)
unless_just Accepted y cs ds a b = answers_behind (answer_number y) cs ds a b
unless_just (Refused e) y cs ds a b = answers_before (number e) cs ds (number_is e).0 a

in_turn_answers : (ones : List Asked) → Answers (answer_number (check_in_turn ones)) (conditions_in_turn ones)
unfolding check_in_turn conditions_in_turn
in_turn_answers [] = all_passed
in_turn_answers (a ∷ later) = unless_just (check_for a) (check_in_turn later) (conditions_for a) (conditions_in_turn later) (for_just a) (in_turn_answers later)

length_just : (most n : ℕ) → (eqb n 0 || ltb most n) ≡ true ↔ ((n ≡ 0) ⊎ (most < n))
length_just most zero = (λ q. inl refl, λ q. refl)
length_just most (suc n) = rw (ne_eqb (suc n) 0 (λ e. omega arith)) (λ q. inr (ltb-true most (suc n) q), back)
  where
    back : (suc n ≡ 0) ⊎ (most < suc n) → ltb most (suc n) ≡ true
    back (inl e) = absurd (omega arith)
    back (inr l) = lt-ltb most (suc n) l

pub check_just : (r : Route) (n : ℕ) → Answers (answer_number (check r n)) (conditions r n)
unfolding check
check_just r n =
    checked _ _ _ _ _ _ refl (lit< tt) (length_just _ (length r.proxies))
    (checked _ _ _ _ _ _ refl (lit< tt) (less_just n (room_for (length r.proxies))) (in_turn_answers (asked r)))

-- ---- what an accepted one has

-- each of them is accepted
abbrev pub EachAccepted : List Asked → Type 0
EachAccepted [] = Unit {0}
EachAccepted (a ∷ later) = (check_for a ≡ Accepted) × EachAccepted later

unless_accepted : (x y : Answer) → unless_refused x y ≡ Accepted ↔ ((x ≡ Accepted) × (y ≡ Accepted))
unless_accepted Accepted y = (λ q. (refl, q), λ q. q.1)
unless_accepted (Refused e) y = (λ q. let z : ◌≡◌ {A = ℕ} 0 1 = cc in absurd (omega arith), λ q. q.0)

pub refused_or : (ones : List Asked) → check_in_turn ones ≡ Accepted ↔ EachAccepted ones
unfolding check_in_turn
refused_or [] = (λ q. tt, λ q. refl)
refused_or (a ∷ later) =
    let u = unless_accepted (check_for a) (check_in_turn later) in
    let v = refused_or later in
    (λ q. ((u.0 q).0, v.0 (u.0 q).1), λ q. u.1 (q.0, v.1 q.1))

pub record Acceptable (r : Route) (n : ℕ) : Type 0 where
  pub some : 0 < length r.proxies
  pub eight : length r.proxies ≤ 8
  pub room : room_for (length r.proxies) ≤ n
  pub each : EachAccepted (asked r)

pub accepted_has : (r : Route) (n : ℕ) → check r n ≡ Accepted → Acceptable r n
accepted_has r n q =
    let w = (check_just r n).accepts.0 (ap answer_number q) in
    let none : length r.proxies ≡ 0 → ⊥ = λ e. w.0 (inl e) in
    let nine : 8 < length r.proxies → ⊥ = λ l. w.0 (inr l) in
    let short : n < room_for (length r.proxies) → ⊥ = w.1.0 in
    record {
      some = omega arith;
      eight = omega arith;
      room = omega arith;
      each = (refused_or (asked r)).0 (number_accepted (check_in_turn (asked r)) ((in_turn_answers (asked r)).accepts.1 w.1.1));
    }
