-- F-1: rows of numbers and IPv6's groups as text, by RFC 5952, section 4, in hexadecimal groups only.
use Rattle.std.specs.Prelude.{ℕ, suc, ◌+◌, ◌*◌, cond, List, [], ◌∷◌, ◌++◌, take, drop, ltb, leb, eqb}
use Rattle.address_format.specs.numerals.Digits.{digits_of}

-- numbers in a base, split by a mark. 4.1: no number has leading zeros; 4.3: digits above 9 are lower case (numerals, digits_of)
unfoldable pub behind_mark : ℕ → ℕ → List ℕ → List ℕ
behind_mark base mark [] = []
behind_mark base mark (n ∷ ns) = mark ∷ (digits_of base n ++ behind_mark base mark ns)

unfoldable pub split_by : ℕ → ℕ → List ℕ → List ℕ
split_by base mark [] = []
split_by base mark (n ∷ ns) = digits_of base n ++ behind_mark base mark ns

-- the 16-bit groups of an address
unfoldable pub groups_of : List ℕ → List ℕ
groups_of [] = []
groups_of (a ∷ []) = []
groups_of (a ∷ b ∷ bs) = (a * 256 + b) ∷ groups_of bs

-- a run of groups: where it begins, and how many they are
pub record Run : Type 0 where
  pub start : ℕ
  pub count : ℕ

abbrev pub run : ℕ → ℕ → Run
run s n = record { start = s; count = n }

-- the zero groups that groups begin with
unfoldable pub zeros_ahead : List ℕ → ℕ
zeros_ahead [] = 0
zeros_ahead (g ∷ gs) = cond (eqb g 0) (suc (zeros_ahead gs)) 0

-- 4.2.1 and 4.2.3: the longest run of zero groups, the first of equals
abbrev pub or_further : ℕ → Run → Run
or_further n r = cond (leb r.count n) (run 0 n) (run (suc r.start) r.count)

unfoldable pub longest : List ℕ → Run
longest [] = run 0 0
longest (g ∷ gs) = or_further (zeros_ahead (g ∷ gs)) (longest gs)

-- `::` in place of a run; 4.2.2: not of just one group
abbrev pub shortened_by : Run → List ℕ → List ℕ
shortened_by r gs =
    cond (ltb 1 r.count) (split_by 16 0x3A (take r.start gs) ++ (0x3A ∷ 0x3A ∷ split_by 16 0x3A (drop (r.start + r.count) gs)))
    (split_by 16 0x3A gs)

unfoldable pub groups_text : List ℕ → List ℕ
groups_text gs = shortened_by (longest gs) gs
