-- F-13: a name of 1 to 200 bytes 61 is a name, and its openings are accepted.
use Rattle.std.proofs.Common.{◌≡◌, ℕ, zero, suc, ◌≤◌, Bool, true, false, cond, eqb, ltb, List, ◌∷◌, length, replicate, refl, arith, le-ltb, lt-ltb, ne_eqb}
use lib.ListN.{length-replicate}
use Rattle.protocol.specs.Answers.{Accepted}
use Rattle.protocol.specs.Host.{strip, all_allowed}
use Rattle.protocol.specs.AddressReading.{domain, destination_of, hex_value, digits_from, decimal_goes, hex_goes, number_of, group_of, mark_at, dotted, ipv4_of, follows_at, row, right_of, join_of, whole_of, starts_gap, ipv6_of}
use Rattle.protocol.specs.Opening.{check5, check4}
use Rattle.load_spec.specs.Load.{arguments5, arguments4}

abbrev named : ℕ → List ℕ
named n = replicate n 0x61

strip_same : (n : ℕ) → strip (named (suc n)) ≡ named (suc n)
unfolding strip
strip_same n = go (ltb (length (named (suc n))) 2)
  where
    go : (b : Bool) → cond b (named (suc n)) (named (suc n)) ≡ named (suc n)
    go true = refl
    go false = refl

all_allowed_lem : (n : ℕ) → all_allowed (named n) ≡ true
unfolding all_allowed
all_allowed_lem zero = refl
all_allowed_lem (suc n) = all_allowed_lem n

-- a fifth digit is in no group
follows_bad : (n : ℕ) → destination_of (0x61 ∷ 0x61 ∷ 0x61 ∷ 0x61 ∷ 0x61 ∷ named n) ≡ domain (0x61 ∷ 0x61 ∷ 0x61 ∷ 0x61 ∷ 0x61 ∷ named n)
unfolding destination_of hex_value digits_from decimal_goes hex_goes number_of group_of mark_at dotted ipv4_of follows_at row right_of join_of whole_of starts_gap ipv6_of
follows_bad n =
    let s : List ℕ = 0x61 ∷ 0x61 ∷ 0x61 ∷ 0x61 ∷ 0x61 ∷ named n in
    rw (ne_eqb 4 (length s) (λ q. omega arith), lt-ltb 4 (length s) (omega arith))

is_named : (n : ℕ) → destination_of (named (suc n)) ≡ domain (named (suc n))
unfolding destination_of hex_value digits_from decimal_goes hex_goes number_of group_of mark_at dotted ipv4_of follows_at row right_of join_of whole_of starts_gap ipv6_of
is_named zero = refl
is_named (suc zero) = refl
is_named (suc (suc zero)) = refl
is_named (suc (suc (suc zero))) = refl
is_named (suc (suc (suc (suc n)))) = follows_bad n

few : (n k : ℕ) → n ≤ k → ltb k (length (named n)) ≡ false
few n k h = le-ltb k (length (named n)) (rw (length-replicate {A = ℕ} n 0x61) h)

some_bytes : (n : ℕ) → eqb (length (named (suc n))) 0 ≡ false
some_bytes n = ne_eqb (length (named (suc n))) 0 (λ q. omega arith)

accepts5 : (b : Bool) (n : ℕ) → suc n ≤ 200 → check5 (arguments5 b (suc n)) ≡ Accepted
unfolding check5
accepts5 true n h = rw (strip_same n, some_bytes n, all_allowed_lem (suc n), is_named n, few (suc n) 255 (omega arith)) refl
accepts5 false n h = rw (strip_same n, some_bytes n, all_allowed_lem (suc n), is_named n, few (suc n) 255 (omega arith)) refl

accepts4 : (n : ℕ) → suc n ≤ 200 → check4 (arguments4 (suc n)) ≡ Accepted
unfolding check4
accepts4 n h = rw (strip_same n, some_bytes n, all_allowed_lem (suc n), is_named n, few (suc n) 1014 (omega arith)) refl

pub accepted5 : (b : Bool) (n : ℕ) → 1 ≤ n → n ≤ 200 → check5 (arguments5 b n) ≡ Accepted
accepted5 b zero l h = absurd (omega arith)
accepted5 b (suc n) l h = accepts5 b n h

pub accepted4 : (n : ℕ) → 1 ≤ n → n ≤ 200 → check4 (arguments4 n) ≡ Accepted
accepted4 zero l h = absurd (omega arith)
accepted4 (suc n) l h = accepts4 n h
