-- F-1, decimal and hexadecimal: numbers as text.
use Rattle.std.specs.Prelude.{ℕ, zero, suc, ◌+◌, ◌/◌, ◌%◌, cond, List, [], ◌∷◌, ◌++◌, ltb}

-- the ASCII code of a digit below 16: `0` to `9`, then `a` to `f`
abbrev pub glyph : ℕ → ℕ
glyph d = cond (ltb d 10) (48 + d) (87 + d)

-- two digits for each byte
unfoldable pub hex_of : List ℕ → List ℕ
hex_of [] = []
hex_of (b ∷ s) = glyph (b / 16) ∷ glyph (b % 16) ∷ hex_of s

-- at most so many digits in a base, with no zero in front
unfoldable pub digits_in : ℕ → ℕ → ℕ → List ℕ
digits_in base zero n = []
digits_in base (suc k) n = cond (ltb n base) (glyph n ∷ []) (digits_in base k (n / base) ++ (glyph (n % base) ∷ []))

-- 20 digits hold every number of 64 bits in base 10 or above
unfoldable pub digits_of : ℕ → ℕ → List ℕ
digits_of base n = digits_in base 20 n

abbrev pub decimal_of : ℕ → List ℕ
decimal_of n = digits_of 10 n
