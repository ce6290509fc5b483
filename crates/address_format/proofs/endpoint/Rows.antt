-- F-1: numbers split by a mark are rows of the grammar of address text.
use Prim.Native.Nat.{ℕ, zero, suc, ◌+◌, ◌≤◌}
use native.Mathlib.Omega.{arith}
use mathlib.Core.Path.{◌≡◌, refl, ap}
use mathlib.Core.List.{List, [], ◌∷◌, ◌++◌, append-nil}
use lib.ListN.{length, get_or, replicate}
use Rattle.address_format.specs.numerals.Digits.{digits_of}
use Rattle.protocol.specs.Bytes.{Bytes, two}
use Rattle.protocol.specs.AddressText as G
use Rattle.protocol.specs.AddressText.{Dotted, Groups, Tail, Left, Right}
use Rattle.address_format.specs.groups.Groups.{behind_mark, split_by}
use Rattle.address_format.proofs.endpoint.Digits.{number_of, group_of}

-- each number is at most so much
abbrev pub Each : ℕ → List ℕ → Type 0
Each top ns = (i : ℕ) → get_or ns i 0 ≤ top

module _ (base mark top : ℕ) (R : List ℕ → ℕ → List ℕ → Type 0)
    (last : (n : ℕ) → n ≤ top → R (digits_of base n) n [])
    (next : (n m : ℕ) (ms s : List ℕ) → n ≤ top → R s m ms → R (digits_of base n ++ (mark ∷ s)) n (m ∷ ms)) where
  row : (n : ℕ) (ns : List ℕ) → Each top (n ∷ ns) → R (split_by base mark (n ∷ ns)) n ns
  unfolding split_by behind_mark
  row n [] h = rw append-nil (last n (h 0))
  row n (m ∷ ms) h = next n m ms (split_by base mark (m ∷ ms)) (h 0) (row m ms (λ i. h (suc i)))

pub dotted_row : (n : ℕ) (ns : List ℕ) → Bytes (n ∷ ns) → Dotted (length ns) (split_by 10 0x2E (n ∷ ns)) (n ∷ ns)
dotted_row =
    row 10 0x2E 255 (λ s n ns. Dotted (length ns) s (n ∷ ns)) (λ n h. G.last (number_of n h)) (λ n m ms s h r. G.next (number_of n h) r)

-- the bytes of groups
unfoldable pub bytes_of : List ℕ → List ℕ
bytes_of [] = []
bytes_of (g ∷ gs) = two g ++ bytes_of gs

groups_row : (g : ℕ) (gs : List ℕ) → Each 65535 (g ∷ gs) → Groups (split_by 16 0x3A (g ∷ gs)) (bytes_of (g ∷ gs))
unfolding bytes_of
groups_row = row 16 0x3A 65535 (λ s g gs. Groups s (bytes_of (g ∷ gs))) (λ g h. G.last (group_of g h)) (λ g k ks s h r. G.next (group_of g h) r)

pub tail_row : (g : ℕ) (gs : List ℕ) → Each 65535 (g ∷ gs) → Tail (split_by 16 0x3A (g ∷ gs)) (bytes_of (g ∷ gs))
unfolding bytes_of
tail_row = row 16 0x3A 65535 (λ s g gs. Tail s (bytes_of (g ∷ gs))) (λ g h. G.last (group_of g h)) (λ g k ks s h r. G.next (group_of g h) r)

pub left_row : (gs : List ℕ) → Each 65535 gs → Left (split_by 16 0x3A gs) (bytes_of gs)
unfolding split_by bytes_of
left_row [] h = G.none
left_row (g ∷ gs) h = G.some (groups_row g gs h)

pub right_row : (gs : List ℕ) → Each 65535 gs → Right (split_by 16 0x3A gs) (bytes_of gs)
unfolding split_by bytes_of
right_row [] h = G.none
right_row (g ∷ gs) h = G.some (tail_row g gs h)

-- ---- the bytes of groups

pub bytes_append : (gs hs : List ℕ) → bytes_of (gs ++ hs) ≡ bytes_of gs ++ bytes_of hs
unfolding bytes_of
bytes_append [] hs = refl
bytes_append (g ∷ gs) hs = ap (λ (l : List ℕ). two g ++ l) (bytes_append gs hs)

pub bytes_length : (gs : List ℕ) → length (bytes_of gs) ≡ length gs + length gs
unfolding bytes_of
bytes_length [] = refl
bytes_length (g ∷ gs) = let e = bytes_length gs in omega arith

pub bytes_zeros : (n : ℕ) → bytes_of (replicate n 0) ≡ replicate (n + n) 0
unfolding bytes_of
bytes_zeros zero = refl
bytes_zeros (suc n) = let e : suc n + suc n ≡ suc (suc (n + n)) = omega arith in rw (e, bytes_zeros n)
