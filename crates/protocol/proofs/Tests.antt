-- Tests and what they decide.
use Prim.Native.Nat.{ℕ, zero, suc, ◌≤◌, ◌<◌}
use native.Mathlib.Omega.{arith}
use mathlib.Core.Path.{◌≡◌, refl, ap, ◌∙◌}
use mathlib.Core.Bool.{Bool, true, false, cond, false≢true, ◌&&◌}
use lib.Dec.{leb, eqb}
use borrow.Author.Tests.{leb-true, le-leb, eqb-true, eqb-false}

pub both : (a b : Bool) → (a && b) ≡ true → (a ≡ true) × (b ≡ true)
both true b q = (refl, q)
both false b q = absurd (false≢true q)

-- ---- a fact of each number below a bound, by a test that computes

abbrev pub implies : Bool → Bool → Bool
implies true b = b
implies false b = true

pub implied : (a b : Bool) → implies a b ≡ true → a ≡ true → b ≡ true
implied true b q e = q
implied false b q e = absurd (false≢true e)

abbrev pub all_below : ℕ → (ℕ → Bool) → Bool
all_below zero P = true
all_below (suc n) P = cond (P n) (all_below n P) false

pub below : (n : ℕ) (P : ℕ → Bool) → all_below n P ≡ true → (i : ℕ) → i < n → P i ≡ true
below zero P q i h = absurd (omega arith)
below (suc n) P q i h = go (P n) refl q (eqb i n) refl (λ r l. below n P r i l)
  where
    go : (x : Bool) → P n ≡ x → cond x (all_below n P) false ≡ true → (y : Bool) → eqb i n ≡ y → (all_below n P ≡ true → i < n → P i ≡ true) → P i ≡ true
    go false e r y f ih = absurd (false≢true r)
    go true e r true f ih = ap P (eqb-true i n f) ∙ e
    go true e r false f ih = let d = eqb-false i n f in ih r (omega arith)

-- a number from lo to hi
abbrev pub is_from : ℕ → ℕ → ℕ → Bool
is_from lo hi b = leb lo b && leb b hi

pub from_is : (lo hi b : ℕ) → is_from lo hi b ≡ true → (lo ≤ b) × (b ≤ hi)
from_is lo hi b q = let (p, r) = both (leb lo b) (leb b hi) q in (leb-true lo b p, leb-true b hi r)

pub is_from_lem : (lo hi b : ℕ) → lo ≤ b → b ≤ hi → is_from lo hi b ≡ true
is_from_lem lo hi b p q = rw (le-leb lo b p, le-leb b hi q)
