-- F-13: the third argument: the words `bytes` and `list`.
use Rattle.std.specs.Prelude.{ℕ, List, [], ◌∷◌}

abbrev pub bytes_word : List ℕ
bytes_word = 0x62 ∷ 0x79 ∷ 0x74 ∷ 0x65 ∷ 0x73 ∷ []

abbrev pub list_word : List ℕ
list_word = 0x6C ∷ 0x69 ∷ 0x73 ∷ 0x74 ∷ []
