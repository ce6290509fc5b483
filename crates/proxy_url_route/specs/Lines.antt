-- F-9: the lines of a text, with a byte 0A between them.
use Rattle.std.specs.Prelude.{ℕ, suc, cond, List, [], ◌∷◌, eqb}

-- a byte before the first of some lines
abbrev pub onto : ℕ → List (List ℕ) → List (List ℕ)
onto b [] = (b ∷ []) ∷ []
onto b (l ∷ ls) = (b ∷ l) ∷ ls

-- the lines between the marks: one more than there are marks, so that a mark at the end makes a last line that is empty
unfoldable pub split : List ℕ → List (List ℕ)
split [] = [] ∷ []
split (b ∷ s) = cond (eqb b 0x0A) ([] ∷ split s) (onto b (split s))

-- an empty text has no line
abbrev pub lines_of : List ℕ → List (List ℕ)
lines_of [] = []
lines_of (b ∷ s) = split (b ∷ s)

-- ---- as the code has them

-- how many marks there are
unfoldable pub marks : List ℕ → ℕ
marks [] = 0
marks (b ∷ s) = cond (eqb b 0x0A) (suc (marks s)) (marks s)

-- how many bytes stand before the first mark
unfoldable pub first_end : List ℕ → ℕ
first_end [] = 0
first_end (b ∷ s) = cond (eqb b 0x0A) 0 (suc (first_end s))
