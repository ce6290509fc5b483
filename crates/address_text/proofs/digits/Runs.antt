-- Runs of digits: one more digit, the end of a run, and how large a value gets.
use Rattle.std.proofs.Common.{◌≡◌, ℕ, ◌+◌, ◌*◌, ◌^◌, ◌<◌, ◌≤◌, Bool, true, false, cond, List, [], ◌∷◌, length, drop, refl, ap, ◌∙◌, add-one, arith, drop_of_length-le, drop-cons, pow_mono, pow-add}
use Rattle.protocol.specs.declared.Digits.{Digits}
use Rattle.protocol.specs.Bytes.{byte}
use Rattle.protocol.specs.AddressReading.{hex_value, digits_from, number_of, group_of}
use Rattle.protocol.proofs.AddressDigits.{decimal_goes_lem, hex_goes_lem}
use Rattle.address_text.specs.declared.digits.Radix.{Radix}
use Rattle.address_text.specs.declared.digits.Radix.TheVariants.{Decimal, Hexadecimal}
use Rattle.address_text.specs.digits.Digits.{goes_by, radix_of, digits_of}

module _ (ok : ℕ → ℕ → ℕ → Bool) (base v i : ℕ) (s : List ℕ) where
  pub digits_step : i < length s → digits_from ok base v i (drop i s)
      ≡ cond (ok v i (hex_value (byte s i))) (digits_from ok base (v * base + hex_value (byte s i)) (i + 1) (drop (i + 1) s)) (record { count = i; value = v })
  unfolding digits_from
  digits_step h = rw (drop-cons s i 0 h, add-one i)

  pub digits_end : length s ≤ i → digits_from ok base v i (drop i s) ≡ record { count = i; value = v }
  unfolding digits_from
  digits_end h = rw (drop_of_length-le s h)

pub digits_all : (b : Radix) (s : List ℕ) → digits_from (goes_by b) (radix_of b) 0 0 s ≡ digits_of b s
unfolding number_of group_of
digits_all Decimal s = refl
digits_all Hexadecimal s = refl

-- what a value of so many digits keeps within
abbrev pub Within : Radix → ℕ → ℕ → Type 0
Within Decimal v n = v ≤ 255
Within Hexadecimal v n = (v < 2 ^ (4 * n)) × (n ≤ 4)

pub within_none : (b : Radix) → Within b 0 0
within_none Decimal = omega arith
within_none Hexadecimal = (omega arith, omega arith)

pub within_small : (b : Radix) (v n : ℕ) → Within b v n → v ≤ 0xFFFF
within_small Decimal v n h = omega arith
within_small Hexadecimal v n (h, l) = let m : 2 ^ (4 * n) ≤ 2 ^ 16 = pow_mono {i = 4 * n} {j = 16} (omega arith) in omega arith

module _ (b : Radix) (v n d : ℕ) (e : goes_by b v n d ≡ true) where
  pub digit_small : d ≤ 15
  digit_small = go b e
    where
      go : (b : Radix) → goes_by b v n d ≡ true → d ≤ 15
      go Decimal e = let h = (decimal_goes_lem v n d e).small in omega arith
      go Hexadecimal e = (hex_goes_lem v n d e).small

  pub within_more : Within b v n → Within b (v * radix_of b + d) (n + 1)
  within_more = go b e
    where
      go : (b : Radix) → goes_by b v n d ≡ true → Within b v n → Within b (v * radix_of b + d) (n + 1)
      go Decimal e h = (decimal_goes_lem v n d e).fits
      go Hexadecimal e (h, l) =
          let g = hex_goes_lem v n d e in
          let k : 4 * (n + 1) ≡ 4 * n + 4 = omega arith in
          let p : 2 ^ (4 * (n + 1)) ≡ 2 ^ (4 * n) * 16 = ap (λ (j : ℕ). 2 ^ j) k ∙ pow-add 2 (4 * n) 4 in
          let s = g.small in
          let f = g.few in
          (omega arith, omega arith)

cond_within : (b : Radix) (t : Bool) (x y : Digits) → (t ≡ true → Within b x.value x.count) → Within b y.value y.count
    → Within b (cond t x y).value (cond t x y).count
cond_within b true x y f h = f refl
cond_within b false x y f h = h

within_from : (b : Radix) (v n : ℕ) (s : List ℕ) → Within b v n
    → Within b (digits_from (goes_by b) (radix_of b) v n s).value (digits_from (goes_by b) (radix_of b) v n s).count
unfolding digits_from
within_from b v n [] h = h
within_from b v n (a ∷ s) h =
    cond_within b (goes_by b v n (hex_value a)) (digits_from (goes_by b) (radix_of b) (v * radix_of b + hex_value a) (n + 1) s) (record { count = n; value = v })
    (λ e. within_from b (v * radix_of b + hex_value a) (n + 1) s (within_more b v n (hex_value a) e h))
    h

-- the digits that a text begins with, as a function answers them
pub digits_within : (b : Radix) (s : List ℕ) (r : Digits) → r ≡ digits_of b s → Within b r.value r.count
digits_within b s r e = rw (e, ← digits_all b s) (within_from b 0 0 s (within_none b))
