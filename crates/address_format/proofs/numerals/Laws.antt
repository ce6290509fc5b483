-- What is put behind what was put, hexadecimal byte by byte, and a number digit by digit.
use Prim.Native.Nat.{ℕ, zero, suc, ◌+◌, ◌/◌, ◌%◌, ◌^◌, ◌≤◌, ◌<◌}
use native.Mathlib.Omega.{arith}
use native.Mathlib.Numerals.{add-one}
use native.Mathlib.Nat.{one-mul, pow-zero, pow-suc, pow-le-pow_left, div-lt_iff_lt-mul}
use mathlib.Core.Path.{◌≡◌, refl, ap, ◌∙◌}
use mathlib.Core.Bool.{Bool, true, false, cond}
use mathlib.Core.List.{List, [], ◌∷◌, ◌++◌, append_assoc, append-nil}
use lib.Dec.{ltb}
use lib.ListN.{length, get_or, take, drop, set, length-set, length-append}
use lib.Seq.{take-suc, take-suc-set, drop-drop, drop-set-lt}
use borrow.Author.Tests.{lt-ltb, le-ltb}
use Rattle.address_format.specs.numerals.Digits.{glyph, hex_of, digits_in, digits_of}
use Rattle.address_format.specs.numerals.Added.{Adds}

-- nothing, one byte, and more behind what was put
pub nothing : (o : List ℕ) (at : ℕ) → Adds o at [] at o
nothing o at = record { place = omega arith; added = simp append-nil; behind = refl; same = refl }

pub one : (o : List ℕ) (at b : ℕ) → at < length o → Adds o at (b ∷ []) (at + 1) (set o at b)
one o at b h =
    record {
      place = refl;
      added = rw add-one (take-suc-set o at b h);
      behind = drop-set-lt (at + 1) o at b (omega arith);
      same = length-set o at b;
    }

drop_more : (o o₁ : List ℕ) (a k : ℕ) → drop a o₁ ≡ drop a o → drop (a + k) o₁ ≡ drop (a + k) o
drop_more o o₁ a k e = rw (← drop-drop k a o₁, ← drop-drop k a o, e)

pub then : {o o₁ o₂ : List ℕ} {at a₁ a₂ : ℕ} {bs cs : List ℕ} → Adds o at bs a₁ o₁ → Adds o₁ a₁ cs a₂ o₂ → Adds o at (bs ++ cs) a₂ o₂
then {o} {o₁} {o₂} {at} {a₁} {a₂} {bs} {cs} v w =
    record {
      place = omega (arith, v.place, w.place, length-append bs cs);
      added = w.added ∙ ap (λ (l : List ℕ). l ++ cs) v.added ∙ append_assoc (take at o) bs cs;
      behind = w.behind ∙ rw w.place (drop_more o o₁ a₁ (length cs) v.behind);
      same = w.same ∙ v.same;
    }

pub two : (o : List ℕ) (at a b : ℕ) → at + 2 ≤ length o → Adds o at (a ∷ b ∷ []) (at + 2) (set (set o at a) (at + 1) b)
two o at a b h =
    let n : at + 1 + 1 ≡ at + 2 = omega arith in
    rw n at (then (one o at a (omega arith)) (one (set o at a) (at + 1) b (simp length-set (omega arith))))

-- ---- hexadecimal

hex_append : (s t : List ℕ) → hex_of (s ++ t) ≡ hex_of s ++ hex_of t
unfolding hex_of
hex_append [] t = refl
hex_append (b ∷ s) t = ap (λ (l : List ℕ). glyph (b / 16) ∷ glyph (b % 16) ∷ l) (hex_append s t)

-- the digits of one byte more
pub digits : {o o₁ : List ℕ} {at end : ℕ} (s : List ℕ) (i d e : ℕ) → Adds o at (hex_of (take i s)) end o₁ → end + 2 ≤ length o₁ → i < length s
    → d ≡ glyph (get_or s i 0 / 16) → e ≡ glyph (get_or s i 0 % 16) → Adds o at (hex_of (take (i + 1) s)) (end + 2) (set (set o₁ end d) (end + 1) e)
unfolding hex_of
digits {o₁ = o₁} {end = end} s i d e v h l p q = rw (add-one i, take-suc s i 0 l, hex_append, ← p, ← q) (then v (two o₁ end d e h))

-- ---- digits in a base

-- a number without its last digit is held by one digit fewer
fewer : (base k n : ℕ) → 0 < base → n < base ^ suc k → n / base < base ^ k
fewer base k n p h = (div-lt_iff_lt-mul {k = base} p).1 (rw (pow-suc base k) at h)

single : (base n : ℕ) → n < base ^ 1 → n < base
single base n h = rw (pow-suc base 0, pow-zero base, one-mul base) at h

-- a number that so many digits hold has no more
enough : (base j n : ℕ) → 0 < base → n < base ^ suc j → digits_in base (suc j) n ≡ digits_in base (suc (suc j)) n
unfolding digits_in
enough base zero n p h = rw (lt-ltb n base (single base n h))
enough base (suc j) n p h = rw (enough base j (n / base) p (fewer base (suc j) n p h))

pub one_digit : (base n : ℕ) → n < base → digits_of base n ≡ glyph n ∷ []
unfolding digits_of digits_in
one_digit base n h = rw (lt-ltb n base h)

module _ (base n : ℕ) (b : 10 ≤ base) (h : n < 2 ^ 64) (l : base ≤ n) where
  pub last_digit : digits_of base n ≡ digits_of base (n / base) ++ (glyph (n % base) ∷ [])
  unfolding digits_of digits_in
  last_digit =
      let p : 10 ^ 20 ≤ base ^ 20 = pow-le-pow_left b 20 in
      let q : n < base ^ 20 = omega arith in
      rw (le-ltb n base l) (ap (λ (d : List ℕ). d ++ (glyph (n % base) ∷ [])) (enough base 18 (n / base) (omega arith) (fewer base 19 n (omega arith) q)))

  pub one_more : length (digits_of base n) ≡ length (digits_of base (n / base)) + 1
  one_more = rw last_digit (length-append (digits_of base (n / base)) (glyph (n % base) ∷ []))

few_from : (base k j n : ℕ) → 0 < base → n < base ^ suc j → length (digits_in base k n) ≤ suc j
unfolding digits_in
few_from base zero j n p h = omega arith
few_from base (suc k) zero n p h = rw (lt-ltb n base (single base n h)) (omega arith)
few_from base (suc k) (suc j) n p h = go (ltb n base) (few_from base k j (n / base) p (fewer base (suc j) n p h))
  where
    go : (t : Bool) → length (digits_in base k (n / base)) ≤ suc j → length (cond t (glyph n ∷ []) (digits_in base k (n / base) ++ (glyph (n % base) ∷ []))) ≤ suc (suc j)
    go true e = omega arith
    go false e = simp length-append (omega arith)

-- a number below a power of the base has no more digits
pub few : (base j n : ℕ) → 0 < base → n < base ^ suc j → length (digits_of base n) ≤ suc j
unfolding digits_of
few base j n p h = few_from base 20 j n p h
