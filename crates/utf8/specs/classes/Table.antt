-- RFC 3629, section 4: the class of every byte value, as the code's table has it.
use Rattle.std.specs.Prelude.{ℕ, List, ◌∷◌, ◌++◌, replicate}

unfoldable pub table : List ℕ
table =
    replicate 128 0 ++ (replicate 16 1 ++ (replicate 16 2 ++ (replicate 32 3 ++ (replicate 2 11 ++ (replicate 30 4 ++ (5 ∷ (replicate 12 6 ++ (
    7 ∷ 6 ∷ 6 ∷ 8 ∷ 9 ∷ 9 ∷ 9 ∷ 10 ∷ replicate 11 11))))))))
