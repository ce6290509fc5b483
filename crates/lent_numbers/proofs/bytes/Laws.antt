-- Numbers and the bytes that they stand in.
use Prim.Native.Nat.{ℕ, zero, suc, ◌+◌, ◌*◌, ◌/◌, ◌%◌, ◌^◌, ◌≤◌, ◌<◌}
use mathlib.Core.Path.{◌≡◌, refl, sym, ap, ◌∙◌}
use mathlib.Core.List.{List, [], ◌∷◌, ◌++◌, append_assoc}
use native.Mathlib.Nat.{add_assoc, pow-zero, pow-suc, mul_assoc, mul_comm, zero-add, one-mul}
use native.Mathlib.Omega.{arith}
use lib.ListN.{length, take, drop, length-take, length-drop}
use lib.Seq.{take-add, drop-drop, drop-cons, take-append-le, drop-append-le, take-append-add, drop-append-add}
use Rattle.protocol.specs.Bytes.{Bytes, byte}
use Rattle.buffers.specs.write.Written.{overwrite, Wrote}
use Rattle.buffers.proofs.write.Laws.{then, wrote_length}
use Rattle.lent_numbers.specs.bytes.Numbers.{number, digits}

pub length_digits : (k n : ℕ) → length (digits k n) ≡ k
unfolding digits
length_digits zero n = refl
length_digits (suc k) n = ap suc (length_digits k (n / 256))

pub bytes_digits : (k n : ℕ) → Bytes (digits k n)
unfolding digits
bytes_digits zero n i = omega arith
bytes_digits (suc k) n zero = omega arith
bytes_digits (suc k) n (suc i) = bytes_digits k (n / 256) i

power : (k : ℕ) → 256 ^ suc k ≡ 256 * 256 ^ k
power k = pow-suc 256 k ∙ mul_comm (256 ^ k) 256

-- a number below the width's bound is read back
pub number_digits : (k n : ℕ) → n < 256 ^ k → number (digits k n) ≡ n
unfolding number digits
number_digits zero n h = omega (arith, pow-zero 256)
number_digits (suc k) n h =
    let e = power k in
    rw (number_digits k (n / 256) (omega arith)) (omega arith)

pub number_below : (bs : List ℕ) → Bytes bs → number bs < 256 ^ length bs
unfolding number
number_below [] y = omega (arith, pow-zero 256)
number_below (b ∷ bs) y =
    let e = power (length bs) in
    let h = number_below bs (λ i. y (suc i)) in
    let z = y 0 in
    omega arith

-- bytes are the writing of their number
pub digits_number : (bs : List ℕ) → Bytes bs → digits (length bs) (number bs) ≡ bs
unfolding number digits
digits_number [] y = refl
digits_number (b ∷ bs) y =
    let z = y 0 in
    let l : (b + 256 * number bs) % 256 ≡ b = omega arith in
    let h : (b + 256 * number bs) / 256 ≡ number bs = omega arith in
    rw (l, h) (ap (λ (t : List ℕ). b ∷ t) (digits_number bs (λ i. y (suc i))))

shifted : (b n m k : ℕ) → b + 256 * (n + k * m) ≡ b + 256 * n + 256 * k * m
shifted b n m k = let e = mul_assoc 256 k m in omega arith

pub number_append : (xs ys : List ℕ) → number (xs ++ ys) ≡ number xs + 256 ^ length xs * number ys
unfolding number
number_append [] ys = rw pow-zero (sym (zero-add (1 * number ys) ∙ one-mul (number ys)))
number_append (x ∷ xs) ys = rw (number_append xs ys, power (length xs)) (shifted x (number xs) (number ys) (256 ^ length xs))

-- ---- numbers at a place

pub number_split : (s : List ℕ) (at j k : ℕ) → at + j ≤ length s → number (take (j + k) (drop at s)) ≡ number (take j (drop at s)) + 256 ^ j * number (take k (drop (at + j) s))
number_split s at j k h =
    let l : length (take j (drop at s)) ≡ j = simp (length-take, length-drop) (omega arith) in
    rw (take-add j k (drop at s), number_append (take j (drop at s)) (take k (drop j (drop at s))), l, drop-drop j at s)

pub number_one : (s : List ℕ) (at : ℕ) → at < length s → number (take 1 (drop at s)) ≡ byte s at
unfolding number
number_one s at h = rw (drop-cons s at 0 h) (omega arith)

pub number_two : (s : List ℕ) (at : ℕ) → at + 2 ≤ length s → number (take 2 (drop at s)) ≡ byte s at + 256 * byte s (at + 1)
number_two s at h = number_split s at 1 1 (omega arith) ∙ rw (number_one s at (omega arith), number_one s (at + 1) (omega arith))

-- ---- writing: the lowest two bytes by one, four by two, eight by four

module _ {o o₁ o₂ : List ℕ} {at p r : ℕ} (n : ℕ) where
  pub two_put : {a b : ℕ} → Wrote o at (a ∷ []) p o₁ → Wrote o₁ p (b ∷ []) r o₂ → a ≡ n % 256 → b ≡ n / 256 % 256 → Wrote o at (digits 2 n) r o₂
  unfolding digits
  two_put v w x y = rw (← x, ← y) (then v w)

  pub four_put : Wrote o at (digits 2 n) p o₁ → Wrote o₁ p (digits 2 (n / 256 / 256)) r o₂ → Wrote o at (digits 4 n) r o₂
  unfolding digits
  four_put v w = then v w

  pub eight_put : Wrote o at (digits 4 n) p o₁ → Wrote o₁ p (digits 4 (n / 256 / 256 / 256 / 256)) r o₂ → Wrote o at (digits 8 n) r o₂
  unfolding digits
  eight_put v w = then v w

-- there is room behind what was written
pub room : {o o₁ : List ℕ} {at r : ℕ} (k n m : ℕ) → Wrote o at (digits k n) r o₁ → at + (k + m) ≤ length o → r + m ≤ length o₁
room k n m w h =
    let l = length_digits k n in
    let p = w.place in
    let e = wrote_length w in
    omega arith

-- ---- a write over two parts in a row is one over a part

module _ (xs ys bs : List ℕ) where
  pub overwrite_first : (at : ℕ) → at + length bs ≤ length xs → overwrite (xs ++ ys) at bs ≡ overwrite xs at bs ++ ys
  unfolding overwrite
  overwrite_first at h = rw (take-append-le at xs ys (omega arith), drop-append-le (at + length bs) xs ys h) (simp append_assoc)

  pub overwrite_second : (n at : ℕ) → length xs ≡ n → overwrite (xs ++ ys) (n + at) bs ≡ xs ++ overwrite ys at bs
  unfolding overwrite
  overwrite_second n at l = rw (← l, take-append-add xs ys at, add_assoc (length xs) at (length bs), drop-append-add xs ys (at + length bs)) (append_assoc xs (take at ys) (bs ++ drop (at + length bs) ys))
