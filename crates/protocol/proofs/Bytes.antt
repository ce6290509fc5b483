-- Which lists are byte strings, and which of them are the same.
use Prim.Native.Nat.{ℕ, zero, suc, ◌≤◌, zero-le}
use mathlib.Core.Path.{◌≡◌, refl, ap}
use mathlib.Core.Logic.{◌↔◌, ◌⊎◌, inl, inr}
use mathlib.Core.Bool.{Bool, true, false, cond, ◌&&◌, false≢true}
use mathlib.Core.List.Memᴰ
use mathlib.Core.List.{List, [], ◌∷◌, ◌++◌, Memᴰ}
use lib.ListN.{length, take, drop, replicate, take-append-drop}
use lib.Dec.{leb, eqb}
use borrow.Author.Tests.{leb-true, eq-eqb, ne_eqb, eqb-true}
use Rattle.protocol.specs.Bytes.{Bytes, BytePieces, same}
use Rattle.talk.specs.Tunnel.{Receiver, Delivery, lends, joined}

member : (bs : List ℕ) → Bytes bs → (b : ℕ) → Memᴰ b bs → b ≤ 255
member [] y b m = absurd (Memᴰ.not-nil m)
member (c ∷ bs) y b m = go (member bs (λ i. y (suc i)) b) (Memᴰ.cases_cons m)
  where
    go : (Memᴰ b bs → b ≤ 255) → (b ≡ c) ⊎ Memᴰ b bs → b ≤ 255
    go later (inl e) = rw e (y 0)
    go later (inr h) = later h

indexed : (bs : List ℕ) → ((b : ℕ) → Memᴰ b bs → b ≤ 255) → Bytes bs
indexed [] f i = zero-le
indexed (c ∷ bs) f zero = f c (Memᴰ.head refl)
indexed (c ∷ bs) f (suc i) = indexed bs (λ b m. f b (Memᴰ.tail m)) i

-- a list is Bytes exactly when each of its elements is at most 255
pub bytes_just : (bs : List ℕ) → Bytes bs ↔ ((b : ℕ) → Memᴰ b bs → b ≤ 255)
bytes_just bs = (member bs, indexed bs)

-- so is every join of such lists, and every part
pub bytes_join : (a b : List ℕ) → Bytes a → Bytes b → Bytes (a ++ b)
bytes_join [] b x y i = y i
bytes_join (c ∷ a) b x y zero = x 0
bytes_join (c ∷ a) b x y (suc i) = bytes_join a b (λ j. x (suc j)) y i

pub bytes_left : (a b : List ℕ) → Bytes (a ++ b) → Bytes a
bytes_left [] b x i = zero-le
bytes_left (c ∷ a) b x zero = x 0
bytes_left (c ∷ a) b x (suc i) = bytes_left a b (λ j. x (suc j)) i

pub bytes_right : (a b : List ℕ) → Bytes (a ++ b) → Bytes b
bytes_right [] b x i = x i
bytes_right (c ∷ a) b x i = bytes_right a b (λ j. x (suc j)) i

pub bytes_part : (bs : List ℕ) (from n : ℕ) → Bytes bs → Bytes (take n (drop from bs))
bytes_part bs from n y =
    let d : Bytes (drop from bs) = bytes_right (take from bs) (drop from bs) (rw (take-append-drop from bs) y) in
    bytes_left (take n (drop from bs)) (drop n (drop from bs)) (rw (take-append-drop n (drop from bs)) d)

pub both_true : (a b : Bool) → (a && b) ≡ true → (a ≡ true) × (b ≡ true)
both_true true b q = (refl, q)
both_true false b q = absurd (false≢true q)

-- bytes that are written out, by a test that computes; and any number of 00
abbrev pub are_bytes : List ℕ → Bool
are_bytes [] = true
are_bytes (b ∷ bs) = leb b 255 && are_bytes bs

pub bytes_are : (bs : List ℕ) → are_bytes bs ≡ true → Bytes bs
bytes_are [] q i = zero-le
bytes_are (b ∷ bs) q zero = leb-true b 255 (both_true (leb b 255) (are_bytes bs) q).0
bytes_are (b ∷ bs) q (suc i) = bytes_are bs (both_true (leb b 255) (are_bytes bs) q).1 i

pub bytes_zeros : (n : ℕ) → Bytes (replicate n 0)
bytes_zeros zero i = zero-le
bytes_zeros (suc n) zero = zero-le
bytes_zeros (suc n) (suc i) = bytes_zeros n i

-- the joined bytes of deliveries of byte strings are one, whatever takes them
pub joined_bytes : {X A : Type 0} (K : Receiver X A) (ds : List Delivery) → BytePieces ds → Bytes (joined K ds)
unfolding joined
joined_bytes K [] y = λ i. zero-le
joined_bytes K (d ∷ ds) y = bytes_join (cond (lends K d) d.piece []) (joined K ds) (go (lends K d)) (joined_bytes K ds (λ e m. y e (Memᴰ.tail m)))
  where
    go : (b : Bool) → Bytes (cond b d.piece [])
    go true = y d (Memᴰ.head refl)
    go false = λ i. zero-le

-- ---- the same byte strings

pub heads_differ : {x y : ℕ} (xs ys : List ℕ) → (x ≡ y → ⊥) → same (x ∷ xs) (y ∷ ys) ≡ false
unfolding same
heads_differ {x} {y} xs ys f = rw (ne_eqb x y f)

pub heads_same : {x y : ℕ} (xs ys : List ℕ) → x ≡ y → same (x ∷ xs) (y ∷ ys) ≡ same xs ys
unfolding same
heads_same {x} {y} xs ys e = rw (eq-eqb x y e)

pub same_equal : (xs ys : List ℕ) → same xs ys ≡ true → xs ≡ ys
unfolding same
same_equal [] [] q = refl
same_equal [] (y ∷ ys) q = absurd (false≢true q)
same_equal (x ∷ xs) [] q = absurd (false≢true q)
same_equal (x ∷ xs) (y ∷ ys) q = let (p, r) = both_true (eqb x y) (same xs ys) q in λ i. eqb-true x y p i ∷ same_equal xs ys r i

pub same_self : (xs : List ℕ) → same xs xs ≡ true
unfolding same
same_self [] = refl
same_self (x ∷ xs) = rw (eq-eqb x x refl) (same_self xs)

pub same_not : (xs ys : List ℕ) → (length xs ≡ length ys → ⊥) → false ≡ same xs ys
same_not xs ys f = go (same xs ys) refl
  where
    go : (t : Bool) → same xs ys ≡ t → false ≡ t
    go false q = refl
    go true q = absurd (f (ap length (same_equal xs ys q)))

pub same_just : (xs ys : List ℕ) → same xs ys ≡ true ↔ (xs ≡ ys)
same_just xs ys = (same_equal xs ys, λ e. rw e (same_self ys))
