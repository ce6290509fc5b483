-- Bytes that agree but at some positions: joined, cut, and where every position is such a one.
use Prim.Native.Nat.{ℕ, ◌+◌, ◌-◌, ◌≤◌, ◌<◌}
use native.Mathlib.Nat.{zero-add}
use native.Mathlib.Omega.{arith}
use mathlib.Core.Path.{◌≡◌, refl, ap, sym, ◌∙◌, subst}
use mathlib.Core.Bool.{Bool, true, false}
use mathlib.Core.List.{List, ◌++◌}
use lib.ListN.{length, drop, length-append, length-take, length-drop, get_or-eq_default, get_or-append}
use lib.Seq.{get_or-append-add, get_or-take, get_or-drop}
use lib.Dec.{leb}
use borrow.Author.Tests.{leb-true, leb-false}
use Rattle.protocol.specs.Bytes.{byte}
use Rattle.client_stages.specs.due.Parts.{part}
use Rattle.noninterference.specs.Places.{Agree}

-- a position inside, or behind
data Lies (i n : ℕ) : Type 0 where
  inside : i < n → Lies i n
  behind : n ≤ i → Lies i n

lies : (i n : ℕ) → Lies i n
lies i n = go (leb n i) refl
  where
    go : (b : Bool) → leb n i ≡ b → Lies i n
    go true e = behind (leb-true n i e)
    go false e = inside (leb-false n i e)

none_there : (xs : List ℕ) (i : ℕ) → length xs ≤ i → byte xs i ≡ 0
none_there xs i h = get_or-eq_default xs 0 h

behind_both : (xs ys : List ℕ) → length xs ≡ length ys → (i : ℕ) → length xs ≤ i → byte xs i ≡ byte ys i
behind_both xs ys l i h = none_there xs i h ∙ sym (none_there ys i (omega arith))

second : (xs ys : List ℕ) (i : ℕ) → length xs ≤ i → byte (xs ++ ys) i ≡ byte ys (i - length xs)
second xs ys i h =
    let z : i ≡ length xs + (i - length xs) = omega arith in
    ap (λ (k : ℕ). byte (xs ++ ys) k) z ∙ get_or-append-add xs ys (i - length xs) 0

pub part_long : (b : List ℕ) (from n : ℕ) → from + n ≤ length b → length (part b from n) ≡ n
part_long b from n h = omega (arith, length-take n (drop from b), length-drop from b)

module _ (S : ℕ → Type 0) where
  pub agree_all : (n : ℕ) (xs : List ℕ) → Agree S n xs xs
  agree_all n xs = record { long = refl; same = λ i h. refl }

  -- every byte's position is such a one
  pub agree_none : (n : ℕ) (xs ys : List ℕ) → length xs ≡ length ys → ((i : ℕ) → i < length xs → S (n + i)) → Agree S n xs ys
  agree_none n xs ys l k = record { long = l; same = λ i h. go i h (lies i (length xs)) }
    where
      go : (i : ℕ) → (S (n + i) → ⊥) → Lies i (length xs) → byte xs i ≡ byte ys i
      go i h (inside j) = absurd (h (k i j))
      go i h (behind j) = behind_both xs ys l i j

  pub agree_join : (n : ℕ) (xs ys us vs : List ℕ) → Agree S n xs ys → Agree S (n + length xs) us vs → Agree S n (xs ++ us) (ys ++ vs)
  agree_join n xs ys us vs a b =
      record {
        long = omega (arith, length-append xs us, length-append ys vs, a.long, b.long);
        same = λ i h. go i h (lies i (length xs));
      }
    where
      go : (i : ℕ) → (S (n + i) → ⊥) → Lies i (length xs) → byte (xs ++ us) i ≡ byte (ys ++ vs) i
      go i h (inside j) = get_or-append xs us 0 i j ∙ a.same i h ∙ sym (get_or-append ys vs 0 i (omega (arith, a.long)))
      go i h (behind j) =
          let z : n + length xs + (i - length xs) ≡ n + i = omega arith in
          let w : byte (ys ++ vs) i ≡ byte vs (i - length xs) = second ys vs i (omega (arith, a.long)) ∙ ap (λ (k : ℕ). byte vs (i - k)) (sym a.long) in
          second xs us i j ∙ b.same (i - length xs) (subst (λ (k : ℕ). S k → ⊥) (sym z) h) ∙ sym w

  pub agree_part : (bs cs : List ℕ) → Agree S 0 bs cs → (from m : ℕ) → Agree S from (part bs from m) (part cs from m)
  agree_part bs cs a from m =
      record {
        long = omega (arith, length-take m (drop from bs), length-drop from bs, length-take m (drop from cs), length-drop from cs, a.long);
        same = λ i h. go i h (lies i m);
      }
    where
      go : (i : ℕ) → (S (from + i) → ⊥) → Lies i m → byte (part bs from m) i ≡ byte (part cs from m) i
      go i h (inside j) =
          get_or-take m (drop from bs) i 0 j ∙ get_or-drop from bs i 0 ∙ a.same (from + i) (subst (λ (k : ℕ). S k → ⊥) (sym (zero-add (from + i))) h)
          ∙ sym (get_or-take m (drop from cs) i 0 j ∙ get_or-drop from cs i 0)
      go i h (behind j) =
          none_there (part bs from m) i (omega (arith, length-take m (drop from bs))) ∙ sym (none_there (part cs from m) i (omega (arith, length-take m (drop from cs))))
