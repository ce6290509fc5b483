-- A lookup's answers as bytes: an array of C's structs of 17 bytes, each its kind's number and 16 bytes of address.
use Rattle.std.specs.Prelude.{ℕ, zero, suc, ◌+◌, ◌/◌, ◌≤◌, ◌≡◌, Bool, true, cond, not, ◌||◌, List, [], ◌∷◌, ◌++◌, length, take, drop, eqb, Option}
use Rattle.protocol.specs.declared.Record.{Record}
use Rattle.protocol.specs.Bytes.{byte}
use Rattle.lookup.specs.Chosen.{chosen_of}
use Rattle.raw_numbers.specs.Numbers.{family_of}

-- 1 and 4 are the numbers of IPv4 and IPv6, as RFC 1928, section 4, has them; any other is no record
unfoldable pub record_in : List ℕ → List Record
record_in [] = []
record_in (n ∷ address) = cond (eqb n 1 || eqb n 4) (record { family = family_of n; address = address } ∷ []) []

unfoldable pub records_from : ℕ → List ℕ → List Record
records_from zero bs = []
records_from (suc n) bs = record_in (take 17 bs) ++ records_from n (drop 17 bs)

-- bytes behind the last whole record are none
unfoldable pub records_in : List ℕ → List Record
records_in bs = records_from (length bs / 17) bs

-- ---- where the record that is taken stands

abbrev pub chosen_in : Bool → List ℕ → Option Record
chosen_in four bs = chosen_of four (records_in bs)

unfoldable pub serves_number : Bool → ℕ → Bool
serves_number four n = cond (eqb n 4) (not four) (eqb n 1)

-- none is taken of those before a place, and one there serves
pub record Placed (four : Bool) (bs : List ℕ) (at : ℕ) : Type 0 where
  pub inside : at ≤ length bs
  pub skips : chosen_in four (drop at bs) ≡ chosen_in four bs
  pub serves : at + 17 ≤ length bs → serves_number four (byte bs at) ≡ true
