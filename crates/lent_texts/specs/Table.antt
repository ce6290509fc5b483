-- All texts in one row, as the code keeps them.
use Rattle.std.specs.Prelude.{ℕ, ◌<◌, ◌≡◌, List, [], ◌∷◌, ◌++◌, get_or}
use Rattle.lent_texts.specs.Texts.{error_texts, texts5, unassigned, texts4}

unfoldable pub texts : List (List ℕ)
texts = error_texts ++ (texts5 ++ (unassigned ∷ texts4))

-- a text's place in that row
pub record Picks (which : ℕ) (text : List ℕ) : Type 0 where
  pub inside : which < 42
  pub is : get_or texts which [] ≡ text
