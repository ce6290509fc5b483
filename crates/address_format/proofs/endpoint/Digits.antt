-- F-1: a number's digits are of the grammar of address text, have one value, and have no colon among them.
use Prim.Native.Nat.{ℕ, zero, suc, ◌+◌, ◌-◌, ◌*◌, ◌/◌, ◌%◌, ◌^◌, ◌≤◌, ◌<◌}
use native.Mathlib.Nat.{div-add-mod', div-mul-le_self, le-div_iff_mul-le, mod-lt, mul-le-mul_left}
use native.Mathlib.Omega.{arith}
use mathlib.Core.Path.{◌≡◌, refl, sym, ap, ◌∙◌}
use mathlib.Core.Bool.{Bool, true, false, cond}
use mathlib.Core.List.{List, [], ◌∷◌, ◌++◌}
use lib.Dec.{ltb}
use lib.ListN.{length, length-append}
use borrow.Author.Tests.{lt-ltb, ltb-true, ltb-false}
use Rattle.address_format.specs.numerals.Digits.{glyph, digits_in, digits_of}
use Rattle.protocol.specs.AddressText as G
use Rattle.protocol.specs.AddressText.{Decimal, Hex, digit, lower, Number, Group}
use Rattle.address_format.proofs.endpoint.Colons.{NoColon}

-- ---- what holds of each digit, and stays so with one digit more, holds of a number's digits

module _ (base top : ℕ) (P : List ℕ → ℕ → Type 0) (least : 2 ≤ base) (small : top < 2 ^ 20)
    (first : (d : ℕ) → d < base → P (glyph d ∷ []) d)
    (next : (p : List ℕ) (v d : ℕ) → P p v → 1 ≤ v → d < base → v * base + d ≤ top → P (p ++ (glyph d ∷ [])) (v * base + d)) where
  made_in : (k n : ℕ) → n < 2 ^ suc k → n ≤ top → P (digits_in base (suc k) n) n
  unfolding digits_in
  made_in zero n h t = rw (lt-ltb n base (omega arith)) (first n (omega arith))
  made_in (suc k) n h t =
      let l : n / base * 2 ≤ n / base * base = mul-le-mul_left (n / base) least in
      let m = div-mul-le_self n base in
      go (ltb n base) refl (made_in k (n / base) (omega arith) (omega arith))
    where
      go : (x : Bool) → ltb n base ≡ x → P (digits_in base (suc k) (n / base)) (n / base)
          → P (cond x (glyph n ∷ []) (digits_in base (suc k) (n / base) ++ (glyph (n % base) ∷ []))) n
      go true e m = first n (ltb-true n base e)
      go false e m =
          let l = ltb-false n base e in
          let z : 0 < base = omega arith in
          rw (div-add-mod' n base) at
          (next (digits_in base (suc k) (n / base)) (n / base) (n % base) m ((le-div_iff_mul-le z).1 (omega arith)) (mod-lt n z) (rw (div-add-mod' n base) t))

  made : (n : ℕ) → n ≤ top → P (digits_of base n) n
  unfolding digits_of
  made n t = made_in 19 n (omega arith) t

-- ---- the digits are of the grammar

decimal_glyph : (d : ℕ) → d < 10 → Decimal (glyph d) d
decimal_glyph d h = rw (lt-ltb d 10 h) (record { small = omega arith; is = refl })

hex_glyph : (d : ℕ) → d < 16 → Hex (glyph d) d
hex_glyph d h = go (ltb d 10) refl
  where
    go : (x : Bool) → ltb d 10 ≡ x → Hex (cond x (48 + d) (87 + d)) d
    go true e = let l = ltb-true d 10 e in digit (record { small = omega arith; is = refl })
    go false e = lower (ltb-false d 10 e) (omega arith) (omega arith)

pub number_of : (n : ℕ) → n ≤ 255 → Number (digits_of 10 n) n
number_of n h =
    made 10 255 Number (omega arith) (omega arith) (λ d l. G.one (decimal_glyph d l)) (λ p v d x o l t. G.more x o (decimal_glyph d l) t) n h

-- a group, and no more digits than its value needs
record Needed (p : List ℕ) (v : ℕ) : Type 0 where
  group : Group p v
  few : (j : ℕ) → v < 16 ^ suc j → length p ≤ suc j

pub group_of : (n : ℕ) → n ≤ 65535 → Group (digits_of 16 n) n
group_of n h = (made 16 65535 Needed (omega arith) (omega arith) first next n h).group
  where
    first : (d : ℕ) → d < 16 → Needed (glyph d ∷ []) d
    first d l = record { group = G.one (hex_glyph d l); few = λ j k. omega arith }

    few : (p : List ℕ) (v d : ℕ) → Needed p v → 1 ≤ v → (j : ℕ) → v * 16 + d < 16 ^ suc j → length (p ++ (glyph d ∷ [])) ≤ suc j
    few p v d x o zero k = absurd (omega arith)
    few p v d x o (suc j) k = let e = x.few j (omega arith) in simp length-append (omega arith)

    next : (p : List ℕ) (v d : ℕ) → Needed p v → 1 ≤ v → d < 16 → v * 16 + d ≤ 65535 → Needed (p ++ (glyph d ∷ [])) (v * 16 + d)
    next p v d x o l t = record { group = G.more x.group (x.few 2 (omega arith)) (hex_glyph d l); few = few p v d x o }

-- ---- a number's digits have its value

value : ℕ → List ℕ → ℕ
value v [] = v
value v (b ∷ s) = value (v * 10 + (b - 48)) s

value_append : (v : ℕ) (p s : List ℕ) → value v (p ++ s) ≡ value (value v p) s
unfolding value
value_append v [] s = refl
value_append v (b ∷ p) s = value_append (v * 10 + (b - 48)) p s

value_of : (n : ℕ) → n < 65536 → value 0 (digits_of 10 n) ≡ n
unfolding value
value_of n h = made 10 65535 (λ p v. value 0 p ≡ v) (omega arith) (omega arith) first next n (omega arith)
  where
    glyph_value : (d : ℕ) → d < 10 → glyph d - 48 ≡ d
    glyph_value d l = rw (lt-ltb d 10 l) (omega arith)

    first : (d : ℕ) → d < 10 → 0 * 10 + (glyph d - 48) ≡ d
    first d l = rw (glyph_value d l) (omega arith)

    next : (p : List ℕ) (v d : ℕ) → value 0 p ≡ v → 1 ≤ v → d < 10 → v * 10 + d ≤ 65535 → value 0 (p ++ (glyph d ∷ [])) ≡ v * 10 + d
    next p v d e o l t = rw (value_append 0 p (glyph d ∷ []), e, glyph_value d l)

pub digits_told : (m n : ℕ) → m < 65536 → n < 65536 → digits_of 10 m ≡ digits_of 10 n → m ≡ n
digits_told m n h k e = sym (value_of m h) ∙ ap (value 0) e ∙ value_of n k

-- ---- no digit is a colon

free_more : (p : List ℕ) (b : ℕ) → NoColon p → (b ≡ 0x3A → ⊥) → NoColon (p ++ (b ∷ []))
free_more [] b f g zero h e = g e
free_more [] b f g (suc i) h e = absurd (omega arith)
free_more (a ∷ p) b f g zero h e = f 0 (omega arith) e
free_more (a ∷ p) b f g (suc i) h e = free_more p b (λ j l. f (suc j) (omega arith)) g i (omega arith) e

pub digits_free : (n : ℕ) → n < 65536 → NoColon (digits_of 10 n)
digits_free n h =
    made 10 65535 (λ p v. NoColon p) (omega arith) (omega arith) (λ d l. free_more [] (glyph d) (λ i k. absurd (omega arith)) (glyph_free d l))
    (λ p v d f o l t. free_more p (glyph d) f (glyph_free d l)) n (omega arith)
  where
    glyph_free : (d : ℕ) → d < 10 → glyph d ≡ 0x3A → ⊥
    glyph_free d l e = let c = decimal_glyph d l in let i = c.is in let s = c.small in absurd (omega arith)
