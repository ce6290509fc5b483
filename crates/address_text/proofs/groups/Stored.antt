-- Two bytes stored at a place.
use Rattle.std.proofs.Common.{◌≡◌, ℕ, suc, ◌+◌, ◌≤◌, List, [], ◌∷◌, ◌++◌, length, take, set, append_assoc, add-one, arith, length-set, take-suc-set}

abbrev pub stored : List ℕ → ℕ → ℕ → ℕ → List ℕ
stored bs j a b = set (set bs j a) (j + 1) b

pub length_stored : (bs : List ℕ) (j a b : ℕ) → length (stored bs j a b) ≡ length bs
length_stored bs j a b = simp length-set

pub take_stored : (bs : List ℕ) (j a b : ℕ) → j + 2 ≤ length bs → take (j + 2) (stored bs j a b) ≡ take j bs ++ (a ∷ b ∷ [])
take_stored bs j a b h =
    let z : j + 2 ≡ suc (j + 1) = omega arith in
    let l : suc (j + 1) ≤ length (set bs j a) = rw (length-set bs j a) (omega arith) in
    rw (z, take-suc-set (set bs j a) (j + 1) b l, add-one j, take-suc-set bs j a (omega arith)) (append_assoc (take j bs) (a ∷ []) (b ∷ []))
