-- Brackets go just where both stand at the ends, and the test of a host's bytes is right.
use Prim.Native.Nat.{ℕ, zero, suc, ◌+◌, ◌-◌, ◌≤◌, ◌<◌}
use native.Mathlib.Omega.{arith}
use mathlib.Core.Path.{◌≡◌, refl, ap, ◌∙◌}
use mathlib.Core.Logic.{◌↔◌, ◌⊎◌, inl, inr}
use mathlib.Core.Bool.{Bool, true, false, cond, ◌&&◌, true≢false}
use mathlib.Core.List.{List, [], ◌∷◌, ◌++◌}
use lib.ListN.{length, take, drop, get_or, length-append, drop_of_length-le}
use lib.Seq.{take-append_seam, get_or-append_seam, split_at}
use lib.Dec.{ltb, leb, eqb}
use borrow.Author.Tests.{le-ltb, ltb-false, leb-false, lt-leb, eqb-true}
use Rattle.protocol.specs.Bytes.{byte}
use Rattle.protocol.specs.Host.{bracketed, strip, allowed, all_allowed, Forbidden}

pub strip_brackets : (m : List ℕ) → strip (bracketed m) ≡ m
unfolding strip
strip_brackets m =
    let l : length (m ++ (0x5D ∷ [])) ≡ length m + 1 = length-append m (0x5D ∷ []) in
    let n : suc (length (m ++ (0x5D ∷ []))) - 1 ≡ suc (length m) = omega arith in
    let k : suc (length (m ++ (0x5D ∷ []))) - 2 ≡ length m = omega arith in
    rw (le-ltb (suc (length (m ++ (0x5D ∷ [])))) 2 (omega arith), n, k, get_or-append_seam m 0x5D [] 0) (take-append_seam m (0x5D ∷ []))

-- a list with brackets at its ends is a host in brackets
ends_bracketed : (h : List ℕ) → 2 ≤ length h → byte h 0 ≡ 0x5B → byte h (length h - 1) ≡ 0x5D → h ≡ bracketed (take (length h - 2) (drop 1 h))
ends_bracketed [] k p q = absurd (omega arith)
ends_bracketed (a ∷ h) k p q =
    let n : suc (length h) - 1 ≡ suc (length h - 1) = omega arith in
    let e : suc (length h) - 2 ≡ length h - 1 = omega arith in
    let d : byte h (length h - 1) ≡ 0x5D = rw n at q in
    let s : h ≡ take (length h - 1) h ++ (get_or h (length h - 1) 0 ∷ drop (suc (length h - 1)) h) = split_at h (length h - 1) 0 (omega arith) in
    let z : drop (suc (length h - 1)) h ≡ [] = drop_of_length-le h {i = suc (length h - 1)} (omega arith) in
    rw (e, p) (ap (λ (l : List ℕ). 0x5B ∷ l) (s ∙ rw (d, z)))

pub strip_else : (h : List ℕ) → ((m : List ℕ) → h ≡ bracketed m → ⊥) → strip h ≡ h
unfolding strip
strip_else h not_so = go (ltb (length h) 2) refl (eqb (byte h 0) 0x5B) refl (eqb (byte h (length h - 1)) 0x5D) refl
  where
    go : (x : Bool) → ltb (length h) 2 ≡ x → (y : Bool) → eqb (byte h 0) 0x5B ≡ y → (z : Bool) → eqb (byte h (length h - 1)) 0x5D ≡ z
        → cond x h (cond y (cond z (take (length h - 2) (drop 1 h)) h) h) ≡ h
    go true e y f z g = refl
    go false e false f z g = refl
    go false e true f false g = refl
    go false e true f true g =
        absurd (not_so (take (length h - 2) (drop 1 h)) (ends_bracketed h (ltb-false (length h) 2 e) (eqb-true (byte h 0) 0x5B f) (eqb-true (byte h (length h - 1)) 0x5D g)))

-- ---- the bytes

forbidden_one : (b : ℕ) → allowed b ≡ false ↔ ((b < 0x21) ⊎ (0x7E < b))
forbidden_one b = (there (leb 0x21 b) refl (leb b 0x7E) refl, back)
  where
    there : (x : Bool) → leb 0x21 b ≡ x → (y : Bool) → leb b 0x7E ≡ y → (x && y) ≡ false → (b < 0x21) ⊎ (0x7E < b)
    there false e y f q = inl (leb-false 0x21 b e)
    there true e false f q = inr (leb-false b 0x7E f)
    there true e true f q = absurd (true≢false q)

    at_end : (x : Bool) → (x && false) ≡ false
    at_end true = refl
    at_end false = refl

    back : (b < 0x21) ⊎ (0x7E < b) → allowed b ≡ false
    back (inl h) = rw (lt-leb 0x21 b h)
    back (inr h) = rw (lt-leb b 0x7E h) (at_end (leb 0x21 b))

later_forbidden : (b : ℕ) (h : List ℕ) → Forbidden h → Forbidden (b ∷ h)
later_forbidden b h (i, l, f) = (suc i, omega arith, f)

forbidden_there : (h : List ℕ) → all_allowed h ≡ false → Forbidden h
unfolding all_allowed
forbidden_there [] q = absurd (true≢false q)
forbidden_there (b ∷ h) q = go (allowed b) refl q (forbidden_there h)
  where
    go : (x : Bool) → allowed b ≡ x → cond x (all_allowed h) false ≡ false → (all_allowed h ≡ false → Forbidden h) → Forbidden (b ∷ h)
    go true e r ih = later_forbidden b h (ih r)
    go false e r ih = (0, omega arith, (forbidden_one b).0 e)

forbidden_back : (h : List ℕ) → Forbidden h → all_allowed h ≡ false
unfolding all_allowed
forbidden_back [] (i, l, f) = absurd (omega arith)
forbidden_back (b ∷ h) (zero, l, f) = rw ((forbidden_one b).1 f)
forbidden_back (b ∷ h) (suc i, l, f) = go (allowed b) (forbidden_back h (i, omega arith, f))
  where
    go : (x : Bool) → all_allowed h ≡ false → cond x (all_allowed h) false ≡ false
    go true e = e
    go false e = refl

pub forbidden_just : (h : List ℕ) → all_allowed h ≡ false ↔ Forbidden h
forbidden_just h = (forbidden_there h, forbidden_back h)
