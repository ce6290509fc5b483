-- F-9: the place of 24: that of the first byte with which no lawful line goes on, or the line's length if it stops short.
use Rattle.std.specs.Prelude.{ℕ, ◌≤◌, List, ◌++◌, length, take}
use Rattle.proxy_url_spec.specs.Grammar.{Value, Line}

-- a beginning goes on: some bytes behind it make a lawful line
abbrev pub GoesOn : List ℕ → Type 0
GoesOn p = (t : List ℕ) × (v : Value) × Line (p ++ t) v

-- the length of the longest beginning of a line that goes on
pub record Place (line : List ℕ) (n : ℕ) : Type 0 where
  pub within : n ≤ length line
  pub goes_on : GoesOn (take n line)
  pub longest : (m : ℕ) → m ≤ length line → GoesOn (take m line) → m ≤ n
