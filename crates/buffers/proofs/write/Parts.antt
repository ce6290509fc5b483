-- Parts of a list: its first so many, and from a place on.
use mathlib.Core.Path.{◌≡◌, refl, sym, ap, ◌∙◌}
use mathlib.Core.Bool.{Bool, true, false}
use mathlib.Core.List.{List, ◌++◌, append-nil}
use Prim.Native.Nat.{ℕ, ◌+◌, ◌-◌, ◌≤◌, min}
use native.Mathlib.Omega.{arith}
use lib.ListN.{length, take, drop, length-drop}
use lib.Seq.{take_all, take-length, drop-length, take-append-le, drop-append-le, take-append-add, drop-append-add}
use lib.Dec.{leb}
use borrow.Author.Tests.{leb-true, leb-false}

pub take_min : {A : Type 0} (n : ℕ) (l : List A) → take (min n (length l)) l ≡ take n l
take_min n l = go (leb n (length l)) refl
  where
    go : (b : Bool) → leb n (length l) ≡ b → take (min n (length l)) l ≡ take n l
    go true e = let h = leb-true n (length l) e in let z : min n (length l) ≡ n = omega arith in rw z
    go false e = let h = leb-false n (length l) e in take_all (min n (length l)) l (omega arith) ∙ sym (take_all n l (omega arith))

pub part_from : (l : List ℕ) (n : ℕ) → take (length l - n) (drop n l) ≡ drop n l
part_from l n = take_all (length l - n) (drop n l) (rw (length-drop n l) (omega arith))

-- ---- a part of two lists in a row is a part of the first and a part of the second

module _ (n : ℕ) (h p : List ℕ) (a : ℕ) (e : a ≡ min n (length h)) where
  pub drop_two : drop n (h ++ p) ≡ drop a h ++ drop (n - a) p
  drop_two = go (leb n (length h)) refl
    where
      go : (b : Bool) → leb n (length h) ≡ b → drop n (h ++ p) ≡ drop a h ++ drop (n - a) p
      go true t =
          let i = leb-true n (length h) t in
          let z : a ≡ n = omega arith in
          let o : n - n ≡ 0 = omega arith in
          rw (z, o) (drop-append-le n h p i)
      go false t =
          let i = leb-false n (length h) t in
          let z : a ≡ length h = omega arith in
          let o : length h + (n - length h) ≡ n = omega arith in
          rw (z, drop-length h) (rw o at (drop-append-add h p (n - length h)))

  pub take_two : take n (h ++ p) ≡ take a h ++ take (n - a) p
  take_two = go (leb n (length h)) refl
    where
      go : (b : Bool) → leb n (length h) ≡ b → take n (h ++ p) ≡ take a h ++ take (n - a) p
      go true t =
          let i = leb-true n (length h) t in
          let z : a ≡ n = omega arith in
          let o : n - n ≡ 0 = omega arith in
          rw (z, o, append-nil (take n h)) (take-append-le n h p i)
      go false t =
          let i = leb-false n (length h) t in
          let z : a ≡ length h = omega arith in
          let o : length h + (n - length h) ≡ n = omega arith in
          rw (z, take-length h) (rw o at (take-append-add h p (n - length h)))

counts : (n from to a b : ℕ) → from ≤ to → a ≡ min from n → b ≡ min to n → b - a ≡ min (to - from) (n - a)
counts n from to a b l e f = omega arith

left : (from to a b : ℕ) → from ≤ to → a ≤ from → a ≤ b → b ≤ to → to - from - (b - a) ≡ to - b - (from - a)
left from to a b i j k l = omega arith

pub part_two : (h p : List ℕ) (from to a b : ℕ) → from ≤ to → a ≡ min from (length h) → b ≡ min to (length h)
    → take (b - a) (drop a h) ++ take (to - b - (from - a)) (drop (from - a) p) ≡ take (to - from) (drop from (h ++ p))
part_two h p from to a b l e f =
    let m : b - a ≡ min (to - from) (length (drop a h)) = rw (length-drop a h) (counts (length h) from to a b l e f) in
    let o = left from to a b l (omega arith) (omega arith) (omega arith) in
    sym (ap (take (to - from)) (drop_two from h p a e) ∙ rw o at (take_two (to - from) (drop a h) (drop (from - a) p) (b - a) m))
