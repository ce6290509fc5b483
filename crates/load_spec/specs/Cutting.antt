-- F-13 in handy forms, not to be believed: the cut as a function.
use Rattle.std.specs.Prelude.{ℕ, zero, suc, cond, List, [], ◌∷◌, ◌++◌, length, take, drop, leb}
use Rattle.load_spec.specs.Load.{next_state, piece_length}

pub record Pieces : Type 0 where
  pub pieces : List (List ℕ)
  pub state : ℕ

abbrev pub is : List (List ℕ) → ℕ → Pieces
is ps s = record { pieces = ps; state = s }

abbrev pub before : List ℕ → Pieces → Pieces
before p c = is (p ∷ c.pieces) c.state

abbrev pub cut_now : ℕ → List ℕ → Pieces → Pieces
cut_now s [] later = is [] s
cut_now s (b ∷ bs) later = cond (leb (length (b ∷ bs)) (piece_length s)) (is ((b ∷ bs) ∷ []) (next_state s)) (before (take (piece_length s) (b ∷ bs)) later)

-- in at most so many pieces
unfoldable pub cut_in : ℕ → ℕ → List ℕ → Pieces
cut_in zero s bs = is [] s
cut_in (suc n) s bs = cut_now s bs (cut_in n (next_state s) (drop (piece_length s) bs))

-- no piece is empty, so there are no more than there are bytes
abbrev pub cut_of : ℕ → List ℕ → Pieces
cut_of s bs = cut_in (length bs) s bs

-- pieces joined
unfoldable pub whole : List (List ℕ) → List ℕ
whole [] = []
whole (p ∷ ps) = p ++ whole ps
