-- F-1, RFC 5952, section 4.2: which run of zero groups is shortened, said without the function that finds it.
use Rattle.std.specs.Prelude.{ℕ, ◌+◌, ◌≤◌, ◌<◌, ◌≡◌, List, length, get_or}

-- a run of groups, all zero
pub record Zeros (gs : List ℕ) (start count : ℕ) : Type 0 where
  pub inside : start + count ≤ length gs
  pub zero : (i : ℕ) → i < count → get_or gs (start + i) 0 ≡ 0

-- at least two zero groups, none more in a row, and none before them as many
pub record Shortened (gs : List ℕ) (start count : ℕ) : Type 0 where
  pub zeros : Zeros gs start count
  pub two : 2 ≤ count
  pub longest : (s n : ℕ) → Zeros gs s n → n ≤ count
  pub first : (s : ℕ) → Zeros gs s count → start ≤ s
