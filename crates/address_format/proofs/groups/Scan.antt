-- The groups of an address one by one, and their longest run of zeros from the last group down.
use Prim.Native.Nat.{ℕ, suc, ◌+◌, ◌*◌, ◌-◌, ◌≤◌, ◌<◌}
use native.Mathlib.Omega.{arith}
use native.Mathlib.Numerals.{add-one}
use mathlib.Core.Path.{◌≡◌, refl, ap, ◌∙◌}
use mathlib.Core.Bool.{Bool, true, false, cond}
use mathlib.Core.List.{List, ◌∷◌, ◌++◌, append_assoc, append-nil}
use lib.Dec.{eqb, leb}
use lib.ListN.{length, get_or, take, drop, set, length-drop, drop_of_length-le}
use lib.Seq.{take_all, take-suc-set, drop-cons}
use borrow.Author.Tests.{le-leb, lt-leb}
use Rattle.address_format.specs.groups.Groups.{groups_of, run, zeros_ahead, longest}
use Rattle.address_format.proofs.groups.Runs.{ahead_zeros}

-- ---- groups

two_first : (s : List ℕ) (j : ℕ) → j + 1 < length s → drop j s ≡ get_or s j 0 ∷ get_or s (j + 1) 0 ∷ drop (j + 2) s
two_first s j h =
    let e : j + 1 ≡ suc j = add-one j in
    let f : j + 2 ≡ suc (suc j) = omega arith in
    rw (e, f) (drop-cons s j 0 (omega arith) ∙ ap (λ (l : List ℕ). get_or s j 0 ∷ l) (drop-cons s (suc j) 0 (omega arith)))

-- one group more
next_group : (a b : ℕ) (t : List ℕ) → groups_of (a ∷ b ∷ t) ≡ (a * 256 + b) ∷ groups_of t
unfolding groups_of
next_group a b t = refl

pub groups_more : (s gs : List ℕ) (i a b : ℕ) → 2 * i + 1 < length s → i < length gs → a ≡ get_or s (2 * i) 0 → b ≡ get_or s (2 * i + 1) 0
    → take i gs ++ groups_of (drop (2 * i) s) ≡ groups_of s → take (i + 1) (set gs i (a * 256 + b)) ++ groups_of (drop (2 * (i + 1)) s) ≡ groups_of s
groups_more s gs i a b h l p q v =
    let j : 2 * (i + 1) ≡ 2 * i + 2 = omega arith in
    let d : groups_of (drop (2 * i) s) ≡ (a * 256 + b) ∷ groups_of (drop (2 * i + 2) s) =
    ap groups_of (two_first s (2 * i) h) ∙ rw (← p, ← q) (next_group a b (drop (2 * i + 2) s)) in
    rw (j, add-one i, take-suc-set gs i (a * 256 + b) l, append_assoc, ← d) v

pub groups_all : (s gs : List ℕ) (i : ℕ) → length s ≡ 2 * i → length gs ≡ i → take i gs ++ groups_of (drop (2 * i) s) ≡ groups_of s → gs ≡ groups_of s
unfolding groups_of
groups_all s gs i h l v = rw (take_all i gs (omega arith), drop_of_length-le s {i = 2 * i} (omega arith), append-nil gs) at v

-- ---- the longest run

-- of the groups from a place on: the zeros they begin with, and their longest run
pub record Best (gs : List ℕ) (i zeros start count : ℕ) : Type 0 where
  pub ahead : zeros ≡ zeros_ahead (drop i gs)
  pub begins : start ≡ i + (longest (drop i gs)).start
  pub counts : count ≡ (longest (drop i gs)).count

pub best_none : (gs : List ℕ) (n : ℕ) → length gs ≡ n → Best gs n 0 n 0
unfolding zeros_ahead longest
best_none gs n h =
    let e = drop_of_length-le gs {i = n} (omega arith) in
    record { ahead = rw e; begins = rw e (omega arith); counts = rw e }

module _ (gs : List ℕ) (i : ℕ) (l : i < length gs) {z zeros start count : ℕ} (v : Best gs (suc i) z start count) (e : zeros ≡ cond (eqb (get_or gs i 0) 0) (suc z) 0) where
  from : drop i gs ≡ get_or gs i 0 ∷ drop (suc i) gs
  from = drop-cons gs i 0 l

  more_zeros : zeros ≡ zeros_ahead (get_or gs i 0 ∷ drop (suc i) gs)
  unfolding zeros_ahead
  more_zeros = e ∙ rw v.ahead

  -- the longest run from here, if the zeros ahead are as many as the best behind them, and if they are fewer
  best : (b : Bool) → leb count zeros ≡ b → longest (drop i gs) ≡ cond b (run 0 zeros) (run (suc (longest (drop (suc i) gs)).start) count)
  unfolding longest
  best b t = rw (from, ← more_zeros, ← v.counts, t)

  best_here : count ≤ zeros → Best gs i zeros i zeros
  best_here h =
      let w = best true (le-leb count zeros h) in
      record { ahead = rw from more_zeros; begins = rw w (omega arith); counts = rw w }

  best_behind : zeros < count → Best gs i zeros start count
  best_behind h =
      let w = best false (lt-leb count zeros h) in
      record { ahead = rw from more_zeros; begins = rw w (omega (arith, v.begins)); counts = rw w }

-- the same one group down from a place
module _ (gs : List ℕ) (i : ℕ) (p : 0 < i) (l : i ≤ length gs) {z zeros start count : ℕ} (v : Best gs i z start count)
    (e : zeros ≡ cond (eqb (get_or gs (i - 1) 0) 0) (suc z) 0) where
  at_next : Best gs (suc (i - 1)) z start count
  at_next = let q : suc (i - 1) ≡ i = omega arith in rw q v

  pub here : count ≤ zeros → Best gs (i - 1) zeros (i - 1) zeros
  here h = best_here gs (i - 1) (omega arith) at_next e h

  pub behind : zeros < count → Best gs (i - 1) zeros start count
  behind h = best_behind gs (i - 1) (omega arith) at_next e h

pub ahead_most : {gs : List ℕ} {i z start count : ℕ} → Best gs i z start count → z ≤ length gs - i
ahead_most {gs} {i} v = omega (arith, v.ahead, (ahead_zeros (drop i gs)).inside, length-drop i gs)
