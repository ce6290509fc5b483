-- F-1: the run of zero groups that is found is the one that the rule names.
use Prim.Native.Nat.{ℕ, zero, suc, ◌+◌, ◌≤◌, ◌<◌}
use native.Mathlib.Nat.{zero-add, suc-add}
use native.Mathlib.Omega.{arith}
use mathlib.Core.Path.{◌≡◌, refl}
use mathlib.Core.Logic.{◌↔◌}
use mathlib.Core.Bool.{Bool, true, false, cond}
use mathlib.Core.List.{List, [], ◌∷◌}
use lib.Dec.{leb, eqb}
use lib.ListN.{get_or}
use borrow.Author.Tests.{leb-true, leb-false, eqb-true, eqb-false}
use Rattle.address_format.specs.groups.Groups.{Run, run, zeros_ahead, or_further, longest}
use Rattle.address_format.specs.groups.Shortened.{Zeros, Shortened}

-- ---- runs of a list and of its rest

nothing : (gs : List ℕ) → Zeros gs 0 0
nothing gs = record { inside = omega arith; zero = λ i h. absurd (omega arith) }

further : {g : ℕ} {gs : List ℕ} {s n : ℕ} → Zeros gs s n → Zeros (g ∷ gs) (suc s) n
further {g} {gs} {s} z = let l = z.inside in record { inside = omega arith; zero = λ i h. rw (suc-add s i) (z.zero i h) }

nearer : {g : ℕ} {gs : List ℕ} {s n : ℕ} → Zeros (g ∷ gs) (suc s) n → Zeros gs s n
nearer {g} {gs} {s} z = let l = z.inside in record { inside = omega arith; zero = λ i h. rw (suc-add s i) at (z.zero i h) }

-- one more zero group in front
longer : {g : ℕ} {gs : List ℕ} {n : ℕ} → g ≡ 0 → Zeros gs 0 n → Zeros (g ∷ gs) 0 (suc n)
longer {g} {gs} {n} e z = let l = z.inside in record { inside = omega arith; zero = at }
  where
    at : (i : ℕ) → i < suc n → get_or (g ∷ gs) (0 + i) 0 ≡ 0
    at zero h = e
    at (suc i) h = rw zero-add (rw zero-add at (z.zero i (omega arith)))

shorter : {g : ℕ} {gs : List ℕ} {n : ℕ} → Zeros (g ∷ gs) 0 (suc n) → Zeros gs 0 n
shorter {g} {gs} {n} z = let l = z.inside in record { inside = omega arith; zero = λ i h. rw zero-add (rw zero-add at (z.zero (suc i) (omega arith))) }

-- ---- the zero groups at the start

pub ahead_zeros : (gs : List ℕ) → Zeros gs 0 (zeros_ahead gs)
unfolding zeros_ahead
ahead_zeros [] = nothing []
ahead_zeros (g ∷ gs) = go (eqb g 0) refl (ahead_zeros gs)
  where
    go : (x : Bool) → eqb g 0 ≡ x → Zeros gs 0 (zeros_ahead gs) → Zeros (g ∷ gs) 0 (cond x (suc (zeros_ahead gs)) 0)
    go true e z = longer (eqb-true g 0 e) z
    go false e z = nothing (g ∷ gs)

ahead_most : (gs : List ℕ) (n : ℕ) → Zeros gs 0 n → n ≤ zeros_ahead gs
unfolding zeros_ahead
ahead_most gs zero z = omega arith
ahead_most [] (suc n) z = let l = z.inside in absurd (omega arith)
ahead_most (g ∷ gs) (suc n) z = go (eqb g 0) refl (ahead_most gs n (shorter z))
  where
    go : (x : Bool) → eqb g 0 ≡ x → n ≤ zeros_ahead gs → suc n ≤ cond x (suc (zeros_ahead gs)) 0
    go true e h = omega arith
    go false e h = absurd (eqb-false g 0 e (z.zero 0 (omega arith)))

-- ---- the longest, the first of equals

record Best (gs : List ℕ) (r : Run) : Type 0 where
  zeros : Zeros gs r.start r.count
  most : (s n : ℕ) → Zeros gs s n → n ≤ r.count
  first : (s : ℕ) → Zeros gs s r.count → r.start ≤ s

best_of : (g : ℕ) (gs : List ℕ) (r : Run) → Best gs r → Best (g ∷ gs) (or_further (zeros_ahead (g ∷ gs)) r)
best_of g gs r b = go (leb r.count (zeros_ahead (g ∷ gs))) refl
  where
    go : (x : Bool) → leb r.count (zeros_ahead (g ∷ gs)) ≡ x → Best (g ∷ gs) (cond x (run 0 (zeros_ahead (g ∷ gs))) (run (suc r.start) r.count))
    go true e = record { zeros = ahead_zeros (g ∷ gs); most = most; first = λ s z. omega arith }
      where
        most : (s n : ℕ) → Zeros (g ∷ gs) s n → n ≤ zeros_ahead (g ∷ gs)
        most zero n z = ahead_most (g ∷ gs) n z
        most (suc s) n z = let h = b.most s n (nearer z) in let l = leb-true r.count (zeros_ahead (g ∷ gs)) e in omega arith
    go false e = record { zeros = further b.zeros; most = most; first = first }
      where
        most : (s n : ℕ) → Zeros (g ∷ gs) s n → n ≤ r.count
        most zero n z = let h = ahead_most (g ∷ gs) n z in let l = leb-false r.count (zeros_ahead (g ∷ gs)) e in omega arith
        most (suc s) n z = b.most s n (nearer z)

        first : (s : ℕ) → Zeros (g ∷ gs) s r.count → suc r.start ≤ s
        first zero z = let h = ahead_most (g ∷ gs) r.count z in let l = leb-false r.count (zeros_ahead (g ∷ gs)) e in absurd (omega arith)
        first (suc s) z = let h = b.first s (nearer z) in omega arith

best : (gs : List ℕ) → Best gs (longest gs)
unfolding longest
best [] = record { zeros = nothing []; most = λ s n z. let l = z.inside in omega arith; first = λ s z. omega arith }
best (g ∷ gs) = best_of g gs (longest gs) (best gs)

-- the run found is of zero groups, and none is longer
pub longest_zeros : (gs : List ℕ) → Zeros gs (longest gs).start (longest gs).count
longest_zeros gs = (best gs).zeros

pub none_longer : (gs : List ℕ) (s n : ℕ) → Zeros gs s n → n ≤ (longest gs).count
none_longer gs = (best gs).most

pub none_shortened : (gs : List ℕ) → (longest gs).count ≤ 1 → (s n : ℕ) → Zeros gs s n → n ≤ 1
none_shortened gs h s n z = let l = none_longer gs s n z in omega arith

pub longest_just : (gs : List ℕ) (s n : ℕ) → Shortened gs s n ↔ ((longest gs ≡ run s n) × (2 ≤ n))
longest_just gs s n = (there (longest gs) (best gs), back)
  where
    there : (r : Run) → Best gs r → Shortened gs s n → (r ≡ run s n) × (2 ≤ n)
    there r b z =
        let h = b.most s n z.zeros in
        let l = z.longest r.start r.count b.zeros in
        let e : r.count ≡ n = omega arith in
        let j = b.first s (rw e z.zeros) in
        let k = z.first r.start (rw e at b.zeros) in
        let f : r.start ≡ s = omega arith in
        (λ i. record { start = f i; count = e i }, z.two)

    back : (longest gs ≡ run s n) × (2 ≤ n) → Shortened gs s n
    back (e, h) = let b : Best gs (run s n) = rw e at (best gs) in record { zeros = b.zeros; two = h; longest = b.most; first = b.first }
