-- F-3: a text up to a 00: whole just where so many bytes at most without one stand before it.
use Prim.Native.Nat.{ℕ, zero, suc, ◌≤◌, zero-le}
use native.Mathlib.Nat.{le_refl}
use native.Mathlib.Omega.{arith}
use mathlib.Core.Path.{◌≡◌, refl, ap, sym, subst, ◌∙◌}
use mathlib.Core.Logic.{◌⊎◌, inl, inr}
use mathlib.Core.Bool.{Bool, true, false, cond}
use mathlib.Core.List.Memᴰ
use mathlib.Core.List.{List, [], ◌∷◌, ◌++◌, Memᴰ}
use lib.ListN.{length, take, drop}
use lib.Dec.{eqb}
use borrow.Author.Tests.{eqb-true, eqb-false, ne_eqb}
use Rattle.proxy_spec.specs.Words.{Unbroken}
use Rattle.proxy_spec.specs.Reads.{Seen, short, wrong, unknown, whole, text_in}
use Rattle.proxy_spec.proofs.Seen.{Decided, Late, Ext, late_cond, ext_cond, whole_inv}

-- one byte further on
abbrev step : Seen ℕ → Seen ℕ
step short = short
step (wrong n) = wrong (suc n)
step (unknown n) = unknown (suc n)
step (whole n m) = whole (suc n) (suc m)

text_none : (most : ℕ) → text_in most [] ≡ short
unfolding text_in
text_none zero = refl
text_none (suc most) = refl

text_last : (b : ℕ) (bs : List ℕ) → text_in zero (b ∷ bs) ≡ cond (eqb b 0) (whole 1 0) (wrong 1)
unfolding text_in
text_last b bs = refl

text_more : (most b : ℕ) (bs : List ℕ) → text_in (suc most) (b ∷ bs) ≡ cond (eqb b 0) (whole 1 0) (step (text_in most bs))
unfolding text_in
text_more most b bs = go (text_in most bs) refl
  where
    go : (d : Seen ℕ) → text_in most bs ≡ d → text_in (suc most) (b ∷ bs) ≡ cond (eqb b 0) (whole 1 0) (step (text_in most bs))
    go short q = rw q
    go (wrong n) q = rw q
    go (unknown n) q = rw q
    go (whole n m) q = rw q

-- ---- more bytes

late_step : (n : ℕ) (d : Seen ℕ) → Late n d → Late (suc n) (step d)
late_step n short p = tt
late_step n (wrong m) p = omega arith
late_step n (unknown m) p = omega arith
late_step n (whole m k) p = omega arith

late_one : (d : Seen ℕ) → Late 1 (step d)
late_one short = tt
late_one (wrong m) = omega arith
late_one (unknown m) = omega arith
late_one (whole m k) = omega arith

decided_step : (n : ℕ) (d : Seen ℕ) → Decided n d → Decided (suc n) (step d)
decided_step n short p = p
decided_step n (wrong m) p = ap suc p
decided_step n (unknown m) p = ap suc p
decided_step n (whole m k) p = ap suc p

ext_step : (n : ℕ) (d e : Seen ℕ) → Ext n d e → Ext (suc n) (step d) (step e)
ext_step n d e (inl (q, l)) = inl (ap step q, late_step (suc n) e l)
ext_step n d e (inr (k, h, p, q)) = inr (suc k, omega arith, decided_step k d p, ap step q)

text_late : (most : ℕ) (bs : List ℕ) → Late 1 (text_in most bs)
text_late most [] = rw (text_none most) tt
text_late zero (b ∷ bs) = rw (text_last b bs) (late_cond (eqb b 0) 1 (whole 1 0) (wrong 1) (le_refl 1) (le_refl 1))
text_late (suc most) (b ∷ bs) = rw (text_more most b bs) (late_cond (eqb b 0) 1 (whole 1 0) (step (text_in most bs)) (le_refl 1) (late_one (text_in most bs)))

pub text_extends : (most : ℕ) (bs more : List ℕ) → Ext (length bs) (text_in most bs) (text_in most (bs ++ more))
text_extends most [] more = inl (text_none most, text_late most more)
text_extends zero (b ∷ bs) more =
    rw (text_last b bs, text_last b (bs ++ more))
    (ext_cond (suc (length bs)) (eqb b 0) (whole 1 0) (whole 1 0) (wrong 1) (wrong 1) (inr (1, omega arith, refl, refl)) (inr (1, omega arith, refl, refl)))
text_extends (suc most) (b ∷ bs) more =
    rw (text_more most b bs, text_more most b (bs ++ more))
    (ext_cond (suc (length bs)) (eqb b 0) (whole 1 0) (whole 1 0) (step (text_in most bs)) (step (text_in most (bs ++ more))) (inr (1, omega arith, refl, refl))
    (ext_step (length bs) (text_in most bs) (text_in most (bs ++ more)) (text_extends most bs more)))

-- ---- a whole text

pub record Text (most : ℕ) (bs : List ℕ) (k m : ℕ) : Type 0 where
  pub count : k ≡ suc m
  pub fits : m ≤ most
  pub unbroken : Unbroken (take m bs)
  pub split : bs ≡ take m bs ++ (0 ∷ drop (suc m) bs)

text_here : (most b : ℕ) (bs : List ℕ) (k m : ℕ) → b ≡ 0 → whole 1 0 ≡ whole k m → Text most (b ∷ bs) k m
text_here most b bs k m e q =
    let w = whole_inv 1 k 0 m q in
    subst (λ (j : ℕ). Text most (b ∷ bs) k j) w.1
    (record { count = sym w.0; fits = zero-le; unbroken = λ h. Memᴰ.not-nil h; split = rw e })

pub unbroken_more : (b : ℕ) (s : List ℕ) → (b ≡ 0 → ⊥) → Unbroken s → Unbroken (b ∷ s)
unbroken_more b s h u m = go (Memᴰ.cases_cons m)
  where
    go : (0 ≡ b) ⊎ Memᴰ 0 s → ⊥
    go (inl e) = h (sym e)
    go (inr n) = u n

step_inv : (d : Seen ℕ) (k m : ℕ) → step d ≡ whole k m → (j : ℕ) × (i : ℕ) × (d ≡ whole j i) × (k ≡ suc j) × (m ≡ suc i)
step_inv short k m q = let z : ◌≡◌ {A = ℕ} 0 1 = cc in absurd (omega arith)
step_inv (wrong n) k m q = let z : ◌≡◌ {A = ℕ} 0 1 = cc in absurd (omega arith)
step_inv (unknown n) k m q = let z : ◌≡◌ {A = ℕ} 0 1 = cc in absurd (omega arith)
step_inv (whole n a) k m q = let w = whole_inv (suc n) k (suc a) m q in (n, a, refl, sym w.0, sym w.1)

text_there : (most b : ℕ) (bs : List ℕ) (j i : ℕ) → (b ≡ 0 → ⊥) → Text most bs j i → Text (suc most) (b ∷ bs) (suc j) (suc i)
text_there most b bs j i h t =
    let n = t.fits in
    record { count = ap suc t.count; fits = omega arith; unbroken = unbroken_more b (take i bs) h t.unbroken; split = ap (λ (l : List ℕ). b ∷ l) t.split }

text_further : (most b : ℕ) (bs : List ℕ) (j i k m : ℕ) → k ≡ suc j → m ≡ suc i → Text (suc most) (b ∷ bs) (suc j) (suc i) → Text (suc most) (b ∷ bs) k m
text_further most b bs j i k m v u t = rw (v, u) t

pub text_is : (most : ℕ) (bs : List ℕ) (k m : ℕ) → text_in most bs ≡ whole k m → Text most bs k m
text_is most [] k m q = let z : ◌≡◌ {A = ℕ} 0 1 = cc (text_none most) in absurd (omega arith)
text_is zero (b ∷ bs) k m q = go (eqb b 0) refl (sym (text_last b bs) ∙ q)
  where
    go : (x : Bool) → eqb b 0 ≡ x → cond x (whole 1 0) (wrong 1) ≡ whole k m → Text zero (b ∷ bs) k m
    go true e r = text_here zero b bs k m (eqb-true b 0 e) r
    go false e r = let z : ◌≡◌ {A = ℕ} 0 1 = cc in absurd (omega arith)
text_is (suc most) (b ∷ bs) k m q = go (λ j i. text_is most bs j i) (eqb b 0) refl (sym (text_more most b bs) ∙ q)
  where
    go : ((j i : ℕ) → text_in most bs ≡ whole j i → Text most bs j i) → (x : Bool) → eqb b 0 ≡ x → cond x (whole 1 0) (step (text_in most bs)) ≡ whole k m → Text (suc most) (b ∷ bs) k m
    go f true e r = text_here (suc most) b bs k m (eqb-true b 0 e) r
    go f false e r =
        let (j, i, w, v, u) = step_inv (text_in most bs) k m r in
        text_further most b bs j i k m v u (text_there most b bs j i (eqb-false b 0 e) (f j i w))

pub text_of_lem : (most : ℕ) (s more : List ℕ) → length s ≤ most → Unbroken s → text_in most (s ++ (0 ∷ more)) ≡ whole (suc (length s)) (length s)
text_of_lem zero [] more h u = text_last 0 more
text_of_lem (suc most) [] more h u = text_more most 0 more
text_of_lem zero (b ∷ s) more h u = absurd (omega arith)
text_of_lem (suc most) (b ∷ s) more h u =
    let e : eqb b 0 ≡ false = ne_eqb b 0 (λ q. u (Memᴰ.head (sym q))) in
    text_more most b (s ++ (0 ∷ more)) ∙ rw (e, text_of_lem most s more (omega arith) (λ m. u (Memᴰ.tail m)))

-- a text of as many bytes as it may have, and another byte in place of the 00
pub text_over : (s : List ℕ) (b : ℕ) (more : List ℕ) → (b ≡ 0 → ⊥) → Unbroken s → text_in (length s) (s ++ (b ∷ more)) ≡ wrong (suc (length s))
text_over [] b more n u = text_last b more ∙ rw (ne_eqb b 0 n)
text_over (a ∷ s) b more n u =
    let e : eqb a 0 ≡ false = ne_eqb a 0 (λ q. u (Memᴰ.head (sym q))) in
    text_more (length s) a (s ++ (b ∷ more)) ∙ rw (e, text_over s b more n (λ m. u (Memᴰ.tail m)))

-- among no more bytes than it may have none is wrong
step_right : (d : Seen ℕ) → ((n : ℕ) → d ≡ wrong n → ⊥) → (n : ℕ) → step d ≡ wrong n → ⊥
step_right short f n q = let z : ◌≡◌ {A = ℕ} 0 1 = cc in omega arith
step_right (wrong k) f n q = f k refl
step_right (unknown k) f n q = let z : ◌≡◌ {A = ℕ} 0 1 = cc in omega arith
step_right (whole k m) f n q = let z : ◌≡◌ {A = ℕ} 0 1 = cc in omega arith

cond_right : (b : Bool) (d : Seen ℕ) → ((n : ℕ) → d ≡ wrong n → ⊥) → (n : ℕ) → cond b (whole 1 0) d ≡ wrong n → ⊥
cond_right true d f n q = let z : ◌≡◌ {A = ℕ} 0 1 = cc in omega arith
cond_right false d f n q = f n q

pub text_right : (most : ℕ) (l : List ℕ) → length l ≤ most → (n : ℕ) → text_in most l ≡ wrong n → ⊥
text_right most [] h n q = let z : ◌≡◌ {A = ℕ} 0 1 = cc (text_none most) in omega arith
text_right zero (b ∷ l) h n q = omega arith
text_right (suc most) (b ∷ l) h n q =
    cond_right (eqb b 0) (step (text_in most l)) (step_right (text_in most l) (text_right most l (omega arith))) n (sym (text_more most b l) ∙ q)

-- a text of which the 00 is not there yet
step_short : (d : Seen ℕ) → step d ≡ short → d ≡ short
step_short short q = refl
step_short (wrong n) q = let z : ◌≡◌ {A = ℕ} 0 1 = cc in absurd (omega arith)
step_short (unknown n) q = let z : ◌≡◌ {A = ℕ} 0 1 = cc in absurd (omega arith)
step_short (whole n m) q = let z : ◌≡◌ {A = ℕ} 0 1 = cc in absurd (omega arith)

pub text_short : (most : ℕ) (l : List ℕ) → text_in most l ≡ short → (length l ≤ most) × Unbroken l
text_short most [] q = (zero-le, λ h. Memᴰ.not-nil h)
text_short zero (b ∷ l) q = go (eqb b 0) (sym (text_last b l) ∙ q)
  where
    go : (x : Bool) → cond {A = Seen ℕ} x (whole 1 0) (wrong 1) ≡ short → (length (b ∷ l) ≤ zero) × Unbroken (b ∷ l)
    go true r = let z : ◌≡◌ {A = ℕ} 0 1 = cc in absurd (omega arith)
    go false r = let z : ◌≡◌ {A = ℕ} 0 1 = cc in absurd (omega arith)
text_short (suc most) (b ∷ l) q = go (text_short most l) (eqb b 0) refl (sym (text_more most b l) ∙ q)
  where
    go : (text_in most l ≡ short → (length l ≤ most) × Unbroken l) → (x : Bool) → eqb b 0 ≡ x → cond x (whole 1 0) (step (text_in most l)) ≡ short → (length (b ∷ l) ≤ suc most) × Unbroken (b ∷ l)
    go f true e r = let z : ◌≡◌ {A = ℕ} 0 1 = cc in absurd (omega arith)
    go f false e r = let (h, u) = f (step_short (text_in most l) r) in (omega arith, unbroken_more b l (eqb-false b 0 e) u)
