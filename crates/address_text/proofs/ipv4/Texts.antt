-- Parts of a text, and bytes stored.
use Rattle.std.proofs.Common.{◌≡◌, ℕ, ◌+◌, ◌-◌, List, [], ◌∷◌, ◌++◌, length, take, drop, set, replicate, ap, ◌∙◌, append_assoc, arith, length-drop, take_all, drop-drop}
use lib.Seq.{set_split}

-- what a text has from a place on, as the code takes it
abbrev pub from : List ℕ → ℕ → List ℕ
from s at = take (length s - at) (drop at s)

pub from_drop : (s : List ℕ) (at : ℕ) → from s at ≡ drop at s
from_drop s at = take_all (length s - at) (drop at s) (simp length-drop (omega arith))

pub length_from : (s : List ℕ) (at : ℕ) → length (from s at) ≡ length s - at
length_from s at = ap length (from_drop s at) ∙ length-drop at s

pub drop_from : (s : List ℕ) (at n m : ℕ) → drop (n + m) (from s at) ≡ drop (at + n + m) s
drop_from s at n m = let e : at + (n + m) ≡ at + n + m = omega arith in rw (from_drop s at) (drop-drop (n + m) at s ∙ rw e)

-- the fourth of four bytes stored, with zeros behind
pub four_stored : (bs : List ℕ) (v : ℕ) → length bs ≡ 16 → drop 4 bs ≡ replicate 12 0 → set bs 3 v ≡ (take 3 bs ++ (v ∷ [])) ++ replicate 12 0
four_stored bs v l z = set_split bs 3 v (omega arith) ∙ rw (z, append_assoc (take 3 bs) (v ∷ []) (replicate 12 0))
