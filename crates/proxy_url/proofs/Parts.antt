-- F-9: a part of a text: from a place on, as code takes it, and where it is told, cut at the text's end.
use Prim.Native.Nat.{ℕ, ◌+◌, ◌-◌, min}
use native.Mathlib.Omega.{arith}
use mathlib.Core.Path.{◌≡◌, refl, sym, ◌∙◌}
use mathlib.Core.Bool.{Bool, true, false}
use mathlib.Core.List.{List}
use lib.ListN.{length, take, drop, length-drop, drop_of_length-le}
use lib.Seq.{drop-length}
use lib.Dec.{leb}
use borrow.Author.Tests.{leb-true, leb-false}
use Rattle.buffers.proofs.write.Parts.{take_min}

abbrev pub from : List ℕ → ℕ → List ℕ
from s n = take (length s - n) (drop n s)

drop_min : (n : ℕ) (l : List ℕ) → drop (min n (length l)) l ≡ drop n l
drop_min n l = go (leb n (length l)) refl
  where
    go : (b : Bool) → leb n (length l) ≡ b → drop (min n (length l)) l ≡ drop n l
    go true e = let h = leb-true n (length l) e in let z : min n (length l) ≡ n = omega arith in rw z
    go false e =
        let h = leb-false n (length l) e in
        let z : min n (length l) ≡ length l = omega arith in
        rw z (drop-length l ∙ sym (drop_of_length-le l {i = n} (omega arith)))

pub part_least : (l : List ℕ) (at len : ℕ) {a n : ℕ} → a ≡ min at (length l) → n ≡ min len (length l - a) → take (a + n - a) (drop a l) ≡ take len (drop at l)
part_least l at len {a} {n} e f =
    let z : a + n - a ≡ min len (length (drop a l)) = rw (length-drop a l) (omega arith) in
    rw (z, take_min len (drop a l), e, drop_min at l)
