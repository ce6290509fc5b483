-- F-1, decimal and hexadecimal: a number of 1 to 18 digits.
use Rattle.std.specs.Prelude.{ℕ, ◌+◌, ◌*◌, ◌-◌, ◌&&◌, cond, List, [], ◌∷◌, nat_le, length, Option, Some, None}
use Rattle.std.specs.Char.{is_ascii_digit}

-- digits behind those of a value
unfoldable pub digits_from : ℕ → List ℕ → Option ℕ
digits_from n [] = Some n
digits_from n (b ∷ s) = cond (is_ascii_digit b) (digits_from (n * 10 + (b - 48)) s) None

abbrev pub number_of : List ℕ → Option ℕ
number_of s = cond (nat_le 1 (length s) && nat_le (length s) 18) (digits_from 0 s) None
