-- A text with no byte up to `:` among its first five is a name.
use Rattle.std.specs.Prelude.{All, take}
use Rattle.std.proofs.Common.{◌≡◌, ℕ, zero, suc, ◌+◌, ◌*◌, ◌<◌, ◌≤◌, Bool, true, false, cond, eqb, ltb, List, [], ◌∷◌, length, refl, arith, ltb-true, ne_eqb}
use mathlib.Core.Option.{none}
use Rattle.protocol.specs.declared.Follows.TheVariants.{Bad}
use Rattle.protocol.specs.Bytes.{byte}
use Rattle.protocol.specs.AddressText.{Hex, digit, upper, lower}
use Rattle.protocol.specs.AddressReading.{hex_value, digits_from, decimal_goes, hex_goes, number_of, group_of, mark_at, follows_at, dotted, ipv4_of, row, whole_of, starts_gap, ipv6_of, domain, destination_of}
use Rattle.protocol.proofs.AddressDigits.{value_hex, hex_goes_lem, mark_is}

-- a byte above 3A is no decimal digit
not_decimal : (a : ℕ) → 0x3A < a → ltb (hex_value a) 10 ≡ false
not_decimal a h = go (ltb (hex_value a) 10) refl
  where
    small : {d : ℕ} → Hex a d → d < 10 → ⊥
    small (digit x) l = let e = x.is in omega arith
    small (upper k m e) l = omega arith
    small (lower k m e) l = omega arith

    go : (t : Bool) → ltb (hex_value a) 10 ≡ t → t ≡ false
    go true e = let l = ltb-true (hex_value a) 10 e in absurd (small (value_hex a (omega arith)) l)
    go false e = refl

no_ipv4 : (a : ℕ) (s : List ℕ) → 0x3A < a → ipv4_of (a ∷ s) ≡ none
unfolding ipv4_of dotted number_of digits_from decimal_goes mark_at
no_ipv4 a s h = rw (not_decimal a h)

-- a group has at most four digits
group_few : (v n : ℕ) (s : List ℕ) → n ≤ 4 → (digits_from hex_goes 16 v n s).count ≤ 4
unfolding digits_from
group_few v n [] h = h
group_few v n (b ∷ s) h = go (hex_goes v n (hex_value b)) refl (group_few (v * 16 + hex_value b) (n + 1) s)
  where
    go : (t : Bool) → hex_goes v n (hex_value b) ≡ t → (n + 1 ≤ 4 → (digits_from hex_goes 16 (v * 16 + hex_value b) (n + 1) s).count ≤ 4)
        → (cond t (digits_from hex_goes 16 (v * 16 + hex_value b) (n + 1) s) (record { count = n; value = v })).count ≤ 4
    go true e f = let g = (hex_goes_lem v n (hex_value b) e).few in f (omega arith)
    go false e f = h

not_marked : (m : ℕ) (s : List ℕ) (n : ℕ) → m < byte s n → mark_at m s n ≡ false
not_marked m s n h = go (mark_at m s n) refl
  where
    go : (t : Bool) → mark_at m s n ≡ t → t ≡ false
    go true e = let k = (mark_is m s n e).is in absurd (omega arith)
    go false e = refl

-- what follows digits there is none of what may
follows_bad : (s : List ℕ) (n : ℕ) → n < length s → 0x3A < byte s n → follows_at s n ≡ Bad
unfolding follows_at
follows_bad s n h k = rw (ne_eqb n (length s) (λ e. absurd (omega arith)), not_marked 0x2E s n (omega arith), not_marked 0x3A s n k) (go (eqb n 0))
  where
    go : (t : Bool) → cond t Bad Bad ≡ Bad
    go true = refl
    go false = refl

-- the first five, one by one
any_of_five : (s : List ℕ) → 0x3A < byte s 0 → 0x3A < byte s 1 → 0x3A < byte s 2 → 0x3A < byte s 3 → 0x3A < byte s 4 → (n : ℕ) → n ≤ 4 → 0x3A < byte s n
any_of_five s p q r t u zero h = p
any_of_five s p q r t u (suc zero) h = q
any_of_five s p q r t u (suc (suc zero)) h = r
any_of_five s p q r t u (suc (suc (suc zero))) h = t
any_of_five s p q r t u (suc (suc (suc (suc zero)))) h = u
any_of_five s p q r t u (suc (suc (suc (suc (suc n))))) h = absurd (omega arith)

no_ipv6 : (a : ℕ) (s : List ℕ) → 0x3A < a → follows_at (a ∷ s) (group_of (a ∷ s)).count ≡ Bad → ipv6_of (a ∷ s) ≡ none
unfolding ipv6_of starts_gap row whole_of
no_ipv6 a s h e = rw (ne_eqb a 0x3A (λ z. absurd (omega arith)), e)

pub unmarked : (s : List ℕ) → 5 ≤ length s → 0x3A < byte s 0 → 0x3A < byte s 1 → 0x3A < byte s 2 → 0x3A < byte s 3 → 0x3A < byte s 4 → destination_of s ≡ domain s
unfolding destination_of group_of
unmarked [] l p q r t u = absurd (omega arith)
unmarked (a ∷ s) l p q r t u =
    let f = group_few 0 0 (a ∷ s) (omega arith) in
    let n = (group_of (a ∷ s)).count in
    rw (no_ipv4 a s p, no_ipv6 a s p (follows_bad (a ∷ s) n (omega arith) (any_of_five (a ∷ s) p q r t u n f)))

pub unmarked_all : (s : List ℕ) → 5 ≤ length s → All (λ b. 0x3A < b) (take 5 s) → destination_of s ≡ domain s
unmarked_all [] l h = absurd (omega arith)
unmarked_all (a ∷ []) l h = absurd (omega arith)
unmarked_all (a ∷ b ∷ []) l h = absurd (omega arith)
unmarked_all (a ∷ b ∷ c ∷ []) l h = absurd (omega arith)
unmarked_all (a ∷ b ∷ c ∷ d ∷ []) l h = absurd (omega arith)
unmarked_all (a ∷ b ∷ c ∷ d ∷ e ∷ s) l h = unmarked (a ∷ b ∷ c ∷ d ∷ e ∷ s) l (h 0 0 (omega arith)) (h 1 0 (omega arith)) (h 2 0 (omega arith)) (h 3 0 (omega arith)) (h 4 0 (omega arith))
