-- The record chosen is the one that document 01 says: over v5 the first, over v4 the first of family four.
use mathlib.Core.Path.{◌≡◌, refl}
use mathlib.Core.Bool.{Bool, true, false}
use mathlib.Core.List.{List, [], ◌∷◌}
use Prim.Native.Nat.{ℕ}
use lib.ListN.{take}
use Rattle.std.specs.Prelude.{Some, None}
use Rattle.protocol.specs.declared.Family.{Family}
use Rattle.protocol.specs.declared.Family.TheVariants.{Four, Six}
use Rattle.protocol.specs.declared.Record.{Record}
use Rattle.protocol.specs.Opening.{first_record, first_four}
use Rattle.lookup.specs.Chosen.{chosen_of, stepped, records_of}

pub first_chosen : (rs : List Record) → first_record (records_of (chosen_of false rs)) ≡ first_record rs
first_chosen [] = refl
first_chosen (r ∷ rs) = go r.family r.address
  where
    go : (f : Family) (bs : List ℕ)
        → first_record (records_of (chosen_of false (record { family = f; address = bs } ∷ rs))) ≡ first_record (record { family = f; address = bs } ∷ rs)
    go Four bs = refl
    go Six bs = refl

-- it is the first of the first as well
pub first_alone : (rs : List Record) → first_record (take 1 rs) ≡ first_record rs
first_alone [] = refl
first_alone (r ∷ rs) = refl

pub four_chosen : (rs : List Record) → first_four (records_of (chosen_of true rs)) ≡ first_four rs
unfolding first_four
four_chosen [] = refl
four_chosen (r ∷ rs) = go r.family r.address (four_chosen rs)
  where
    go : (f : Family) (bs : List ℕ) → first_four (records_of (chosen_of true rs)) ≡ first_four rs
        → first_four (records_of (chosen_of true (record { family = f; address = bs } ∷ rs))) ≡ first_four (record { family = f; address = bs } ∷ rs)
    go Four bs ih = refl
    go Six bs ih = ih

-- ---- one record at a time is the first that serves

pub found_stays : (four : Bool) (q : Record) (rs : List Record) → stepped four (Some q) rs ≡ Some q
unfolding stepped
found_stays four q [] = refl
found_stays four q (r ∷ rs) = found_stays four q rs

pub stepwise : (four : Bool) (rs : List Record) → stepped four None rs ≡ chosen_of four rs
unfolding stepped
stepwise four [] = refl
stepwise four (r ∷ rs) = go r.family r.address four (stepwise four rs)
  where
    go : (f : Family) (bs : List ℕ) (four : Bool) → stepped four None rs ≡ chosen_of four rs
        → stepped four None (record { family = f; address = bs } ∷ rs) ≡ chosen_of four (record { family = f; address = bs } ∷ rs)
    go Four bs four ih = found_stays four (record { family = Four; address = bs }) rs
    go Six bs false ih = found_stays false (record { family = Six; address = bs }) rs
    go Six bs true ih = ih
