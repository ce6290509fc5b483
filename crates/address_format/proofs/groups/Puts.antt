-- Numbers behind a mark, put one by one, and rows of groups.
use Prim.Native.Nat.{ℕ, ◌+◌, ◌-◌, ◌^◌, ◌≤◌, ◌<◌}
use native.Mathlib.Omega.{arith}
use native.Mathlib.Nat.{pow-le-pow_left}
use native.Mathlib.Numerals.{add-one}
use mathlib.Core.Path.{◌≡◌, refl, sym, ap, ◌∙◌}
use mathlib.Core.List.{List, [], ◌∷◌, ◌++◌, append_assoc, append-nil}
use lib.ListN.{length, get_or, take, drop, length-drop}
use lib.Seq.{take-suc, take_all}
use borrow.Author.Tests.{lt-ltb, le-ltb}
use Rattle.address_format.specs.numerals.Digits.{digits_of}
use Rattle.address_format.specs.numerals.Added.{Adds}
use Rattle.address_format.proofs.numerals.Laws.{then, few}
use Rattle.buffers.proofs.write.Parts.{part_from}
use Rattle.address_format.specs.groups.Groups.{behind_mark, split_by, longest, groups_text}

-- a part from a place on
pub part_length : (s : List ℕ) (n : ℕ) → length (take (length s - n) (drop n s)) ≡ length s - n
part_length s n = ap length (part_from s n) ∙ length-drop n s

-- a number of 16 bits has five digits or fewer
pub five : (base n : ℕ) → 10 ≤ base → n < 2 ^ 16 → length (digits_of base n) ≤ 5
five base n b h = few base 4 n (omega arith) (omega (arith, pow-le-pow_left b 5))

pub room : (base n at size : ℕ) → 10 ≤ base → n < 2 ^ 16 → at + 5 ≤ size → at + length (digits_of base n) ≤ size
room base n at size b h l = omega (arith, five base n b h)

module _ (base mark : ℕ) where
  behind_append : (s t : List ℕ) → behind_mark base mark (s ++ t) ≡ behind_mark base mark s ++ behind_mark base mark t
  unfolding behind_mark
  behind_append [] t = refl
  behind_append (n ∷ s) t =
      ap (λ (l : List ℕ). mark ∷ (digits_of base n ++ l)) (behind_append s t)
      ∙ sym (ap (λ (l : List ℕ). mark ∷ l) (append_assoc (digits_of base n) (behind_mark base mark s) (behind_mark base mark t)))

  behind_one : (n : ℕ) → behind_mark base mark (n ∷ []) ≡ mark ∷ digits_of base n
  unfolding behind_mark
  behind_one n = ap (λ (l : List ℕ). mark ∷ l) (append-nil (digits_of base n))

  pub behind_more : {o o₁ o₂ : List ℕ} {at end next : ℕ} (s : List ℕ) (i n : ℕ) → i < length s → n ≡ get_or s i 0
      → Adds o at (behind_mark base mark (take i s)) end o₁ → Adds o₁ end (mark ∷ digits_of base n) next o₂ → Adds o at (behind_mark base mark (take (i + 1) s)) next o₂
  behind_more s i n l e v w = rw (add-one i, take-suc s i 0 l, behind_append (take i s) (get_or s i 0 ∷ []), ← e, behind_one n) (then v w)

  pub row_none : (s : List ℕ) → length s ≡ 0 → split_by base mark s ≡ []
  unfolding split_by
  row_none [] h = refl
  row_none (n ∷ s) h = absurd (omega arith)

  pub row_first : (s : List ℕ) (n : ℕ) → 0 < length s → n ≡ get_or s 0 0 → split_by base mark s ≡ digits_of base n ++ behind_mark base mark (take (length s - 1) (drop 1 s))
  unfolding split_by
  row_first [] n h e = absurd (omega arith)
  row_first (m ∷ s) n h e = rw (e, take_all (length (m ∷ s) - 1) s (omega arith))

-- ---- groups

-- two rows of groups and what stands between them
pub rows : {o o₁ o₂ o₃ : List ℕ} {at a b c : ℕ} (gs : List ℕ) (start behind : ℕ) → Adds o at (split_by 16 0x3A (take start gs)) a o₁ → Adds o₁ a (0x3A ∷ 0x3A ∷ []) b o₂
    → Adds o₂ b (split_by 16 0x3A (take (length gs - behind) (drop behind gs))) c o₃
    → Adds o at (split_by 16 0x3A (take start gs) ++ (0x3A ∷ 0x3A ∷ split_by 16 0x3A (drop behind gs))) c o₃
rows gs start behind u v w = then u (then v (rw (part_from gs behind) at w))

module _ (gs : List ℕ) (n : ℕ) (e : n ≡ (longest gs).count) where
  pub not_shortened : n ≤ 1 → groups_text gs ≡ split_by 16 0x3A gs
  unfolding groups_text
  not_shortened h = rw (← e, le-ltb 1 n h)

  pub shortened : (s : ℕ) → s ≡ (longest gs).start → 1 < n → groups_text gs ≡ split_by 16 0x3A (take s gs) ++ (0x3A ∷ 0x3A ∷ split_by 16 0x3A (drop (s + n) gs))
  unfolding groups_text
  shortened s f h = rw (← e, ← f, lt-ltb 1 n h)
