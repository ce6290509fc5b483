-- The test of UTF-8 passes just on what the grammar gives.
use Prim.Native.Nat.{ℕ, ◌≤◌, ◌<◌}
use native.Mathlib.Omega.{arith}
use mathlib.Core.Path.{◌≡◌, refl, ap, ◌∙◌}
use mathlib.Core.Logic.{◌↔◌, inl, inr, ◌⊎◌}
use mathlib.Core.Bool.{Bool, true, false, cond, false≢true, ◌||◌}
use mathlib.Core.List.{List, [], ◌∷◌}
use lib.Dec.{ltb, eqb, lit≤}
use borrow.Author.Tests.{le-ltb, ltb-true, ltb-false, eqb-true, eq-eqb}
use Rattle.protocol.specs.declared.Utf8State.{Utf8State}
use Rattle.protocol.specs.declared.Utf8State.TheVariants.{Boundary, Tail1, Tail2, Tail3, AfterE0, AfterEd, AfterF0, AfterF4, Invalid}
use Rattle.protocol.specs.Utf8.{In, Tail, Char, one, two, three_e0, three_e1, three_ed, three_ee, four_f0, four_f1, four_f4, Utf8, none, more, class_of, among, first, next, scan, is_boundary, is_utf8}
use Rattle.protocol.proofs.Tests.{implies, implied, all_below, below, is_from, from_is, is_from_lem}

-- ---- a range of bytes and a range of classes, by one test over all bytes

class_in : (lo hi k l : ℕ) → hi ≤ 255 → all_below 256 (λ b. implies (is_from lo hi b) (is_from k l (class_of b))) ≡ true
    → (b : ℕ) → In lo hi b → In k l (class_of b)
class_in lo hi k l h test b (p, q) =
    from_is k l (class_of b)
    (implied (is_from lo hi b) (is_from k l (class_of b)) (below 256 (λ b. implies (is_from lo hi b) (is_from k l (class_of b))) test b (omega arith)) (is_from_lem lo hi b p q))

-- what is no byte has the last class
past : (b : ℕ) → 0xF5 ≤ b → class_of b ≡ 11
unfolding class_of
past b h =
    rw (
      le-ltb b 0x80 (omega arith),
      le-ltb b 0x90 (omega arith),
      le-ltb b 0xA0 (omega arith),
      le-ltb b 0xC0 (omega arith),
      le-ltb b 0xC2 (omega arith),
      le-ltb b 0xE0 (omega arith),
      le-ltb b 0xE1 (omega arith),
      le-ltb b 0xED (omega arith),
      le-ltb b 0xEE (omega arith),
      le-ltb b 0xF0 (omega arith),
      le-ltb b 0xF1 (omega arith),
      le-ltb b 0xF4 (omega arith),
      le-ltb b 0xF5 (omega arith),
    )

is_byte : (b : ℕ) → class_of b ≤ 10 → b < 256
is_byte b h = go (ltb b 256) refl
  where
    go : (x : Bool) → ltb b 256 ≡ x → b < 256
    go true e = ltb-true b 256 e
    go false e = let l = ltb-false b 256 e in let c = past b (omega arith) in absurd (omega arith)

byte_in : (lo hi k l : ℕ) → l ≤ 10 → all_below 256 (λ b. implies (is_from k l (class_of b)) (is_from lo hi b)) ≡ true
    → (b : ℕ) → In k l (class_of b) → In lo hi b
byte_in lo hi k l h test b (p, q) =
    from_is lo hi b
    (implied (is_from k l (class_of b)) (is_from lo hi b) (below 256 (λ b. implies (is_from k l (class_of b)) (is_from lo hi b)) test b (is_byte b (omega arith)))
    (is_from_lem k l (class_of b) p q))

-- the grammar's ranges of bytes, each with its classes
data Range : ℕ → ℕ → ℕ → ℕ → Type 0 where
  ascii : Range 0x00 0x7F 0 0
  tail : Range 0x80 0xBF 1 3
  tail_80 : Range 0x80 0x8F 1 1
  tail_90 : Range 0x90 0xBF 2 3
  tail_a0 : Range 0xA0 0xBF 3 3
  tail_9_f : Range 0x80 0x9F 1 2
  lead_c2 : Range 0xC2 0xDF 4 4
  lead_e0 : Range 0xE0 0xE0 5 5
  lead_ed : Range 0xED 0xED 7 7
  lead_f0 : Range 0xF0 0xF0 8 8
  lead_f1 : Range 0xF1 0xF3 9 9
  lead_f4 : Range 0xF4 0xF4 10 10

-- both tests over all bytes
record Tested (lo hi k l : ℕ) : Type 0 where
  classes : all_below 256 (λ b. implies (is_from lo hi b) (is_from k l (class_of b))) ≡ true
  bytes : all_below 256 (λ b. implies (is_from k l (class_of b)) (is_from lo hi b)) ≡ true
  hi_small : hi ≤ 255
  l_small : l ≤ 10

tested : {lo hi k l : ℕ} → Range lo hi k l → Tested lo hi k l
unfolding class_of
tested ascii = record { classes = refl; bytes = refl; hi_small = lit≤ tt; l_small = lit≤ tt }
tested tail = record { classes = refl; bytes = refl; hi_small = lit≤ tt; l_small = lit≤ tt }
tested tail_80 = record { classes = refl; bytes = refl; hi_small = lit≤ tt; l_small = lit≤ tt }
tested tail_90 = record { classes = refl; bytes = refl; hi_small = lit≤ tt; l_small = lit≤ tt }
tested tail_a0 = record { classes = refl; bytes = refl; hi_small = lit≤ tt; l_small = lit≤ tt }
tested tail_9_f = record { classes = refl; bytes = refl; hi_small = lit≤ tt; l_small = lit≤ tt }
tested lead_c2 = record { classes = refl; bytes = refl; hi_small = lit≤ tt; l_small = lit≤ tt }
tested lead_e0 = record { classes = refl; bytes = refl; hi_small = lit≤ tt; l_small = lit≤ tt }
tested lead_ed = record { classes = refl; bytes = refl; hi_small = lit≤ tt; l_small = lit≤ tt }
tested lead_f0 = record { classes = refl; bytes = refl; hi_small = lit≤ tt; l_small = lit≤ tt }
tested lead_f1 = record { classes = refl; bytes = refl; hi_small = lit≤ tt; l_small = lit≤ tt }
tested lead_f4 = record { classes = refl; bytes = refl; hi_small = lit≤ tt; l_small = lit≤ tt }

class_of_lem : {lo hi k l : ℕ} → Range lo hi k l → (b : ℕ) → In lo hi b → In k l (class_of b)
class_of_lem {lo} {hi} {k} {l} r b i = let t = tested r in class_in lo hi k l t.hi_small t.classes b i

byte_of : {lo hi k l : ℕ} → Range lo hi k l → (b : ℕ) → In k l (class_of b) → In lo hi b
byte_of {lo} {hi} {k} {l} r b i = let t = tested r in byte_in lo hi k l t.l_small t.bytes b i

-- class 6 has two ranges
six_e1 : (b : ℕ) → In 0xE1 0xEC b → class_of b ≡ 6
unfolding class_of
six_e1 b i = let (p, q) = class_in 0xE1 0xEC 6 6 (lit≤ tt) refl b i in omega arith

six_ee : (b : ℕ) → In 0xEE 0xEF b → class_of b ≡ 6
unfolding class_of
six_ee b i = let (p, q) = class_in 0xEE 0xEF 6 6 (lit≤ tt) refl b i in omega arith

abbrev sixes : ℕ → Bool
sixes b = implies (eqb (class_of b) 6) (is_from 0xE1 0xEC b || is_from 0xEE 0xEF b)

six_test : all_below 256 sixes ≡ true
unfolding class_of
six_test = refl

six_is : (b : ℕ) → class_of b ≡ 6 → In 0xE1 0xEC b ⊎ In 0xEE 0xEF b
six_is b e = go (is_from 0xE1 0xEC b) refl (implied (eqb (class_of b) 6) _ (below 256 sixes six_test b (is_byte b (omega arith))) (eq-eqb (class_of b) 6 e))
  where
    go : (x : Bool) → is_from 0xE1 0xEC b ≡ x → (x || is_from 0xEE 0xEF b) ≡ true → In 0xE1 0xEC b ⊎ In 0xEE 0xEF b
    go true f t = inl (from_is 0xE1 0xEC b f)
    go false f t = inr (from_is 0xEE 0xEF b t)

-- ---- what the grammar gives, the test passes

among_in : (k l c : ℕ) (st : Utf8State) → In k l c → among k l c st ≡ st
unfolding among
among_in k l c st (p, q) = rw (le-ltb c k p, le-ltb l c q)

-- one byte on: a first one, whose class is k, and a later one, whose class is one of k to l
leads : {k : ℕ} (b : ℕ) → class_of b ≡ k → (st : Utf8State) → first k ≡ st → (r : List ℕ) → scan Boundary (b ∷ r) ≡ scan st r
unfolding scan next
leads b c st e r = ap (λ (z : Utf8State). scan z r) (ap first c ∙ e)

goes : {lo hi k l : ℕ} → Range lo hi k l → (b : ℕ) → In lo hi b → (st st' : Utf8State) → next st (class_of b) ≡ among k l (class_of b) st'
    → (r : List ℕ) → scan st (b ∷ r) ≡ scan st' r
unfolding scan
goes {lo} {hi} {k} {l} g b i st st' e r = ap (λ (z : Utf8State). scan z r) (e ∙ among_in k l (class_of b) st' (class_of_lem g b i))

own : {lo hi k : ℕ} → Range lo hi k k → (b : ℕ) → In lo hi b → class_of b ≡ k
own r b i = let (p, q) = class_of_lem r b i in omega arith

passes : {bs : List ℕ} → Utf8 bs → scan Boundary bs ≡ Boundary
unfolding next first
passes none = unfold scan in refl
passes (more (one {a} i) u) = leads a (own ascii a i) Boundary refl _ ∙ passes u
passes (more (two {a} {b} i s) u) = leads a (own lead_c2 a i) Tail1 refl _ ∙ goes tail b s Tail1 Boundary refl _ ∙ passes u
passes (more (three_e0 {a} {b} {c} i s t) u) =
    leads a (own lead_e0 a i) AfterE0 refl _ ∙ goes tail_a0 b s AfterE0 Tail1 refl _ ∙ goes tail c t Tail1 Boundary refl _ ∙ passes u
passes (more (three_e1 {a} {b} {c} i s t) u) =
    leads a (six_e1 a i) Tail2 refl _ ∙ goes tail b s Tail2 Tail1 refl _ ∙ goes tail c t Tail1 Boundary refl _ ∙ passes u
passes (more (three_ed {a} {b} {c} i s t) u) =
    leads a (own lead_ed a i) AfterEd refl _ ∙ goes tail_9_f b s AfterEd Tail1 refl _ ∙ goes tail c t Tail1 Boundary refl _ ∙ passes u
passes (more (three_ee {a} {b} {c} i s t) u) =
    leads a (six_ee a i) Tail2 refl _ ∙ goes tail b s Tail2 Tail1 refl _ ∙ goes tail c t Tail1 Boundary refl _ ∙ passes u
passes (more (four_f0 {a} {b} {c} {d} i r s t) u) =
    leads a (own lead_f0 a i) AfterF0 refl _ ∙ goes tail_90 b r AfterF0 Tail2 refl _ ∙ goes tail c s Tail2 Tail1 refl _ ∙ goes tail d t Tail1 Boundary refl _ ∙ passes u
passes (more (four_f1 {a} {b} {c} {d} i r s t) u) =
    leads a (own lead_f1 a i) Tail3 refl _ ∙ goes tail b r Tail3 Tail2 refl _ ∙ goes tail c s Tail2 Tail1 refl _ ∙ goes tail d t Tail1 Boundary refl _ ∙ passes u
passes (more (four_f4 {a} {b} {c} {d} i r s t) u) =
    leads a (own lead_f4 a i) AfterF4 refl _ ∙ goes tail_80 b r AfterF4 Tail2 refl _ ∙ goes tail c s Tail2 Tail1 refl _ ∙ goes tail d t Tail1 Boundary refl _ ∙ passes u

-- ---- what the test passes, the grammar gives

-- what stands behind the bytes that brought the test to a state
abbrev Then : ℕ → ℕ → (List ℕ → Type 0) → List ℕ → Type 0
Then lo hi P [] = ⊥
Then lo hi P (b ∷ r) = In lo hi b × P r

abbrev Tails1 : List ℕ → Type 0
Tails1 r = Then 0x80 0xBF Utf8 r

abbrev Tails2 : List ℕ → Type 0
Tails2 r = Then 0x80 0xBF Tails1 r

abbrev Left : Utf8State → List ℕ → Type 0
Left Boundary r = Utf8 r
Left Tail1 r = Tails1 r
Left Tail2 r = Tails2 r
Left Tail3 r = Then 0x80 0xBF Tails2 r
Left AfterE0 r = Then 0xA0 0xBF Tails1 r
Left AfterEd r = Then 0x80 0x9F Tails1 r
Left AfterF0 r = Then 0x90 0xBF Tails2 r
Left AfterF4 r = Then 0x80 0x8F Tails2 r
Left Invalid r = ⊥

by_two : (a : ℕ) → In 0xC2 0xDF a → (r : List ℕ) → Tails1 r → Utf8 (a ∷ r)
by_two a i [] p = absurd p
by_two a i (b ∷ r) p = more (two i p.0) p.1

by_three : (a lo hi : ℕ) → ((b c : ℕ) → In lo hi b → Tail c → Char (a ∷ b ∷ c ∷ [])) → (r : List ℕ) → Then lo hi Tails1 r → Utf8 (a ∷ r)
by_three a lo hi f [] p = absurd p
by_three a lo hi f (b ∷ []) p = absurd p.1
by_three a lo hi f (b ∷ c ∷ r) p = more (f b c p.0 p.1.0) p.1.1

by_four : (a lo hi : ℕ) → ((b c d : ℕ) → In lo hi b → Tail c → Tail d → Char (a ∷ b ∷ c ∷ d ∷ [])) → (r : List ℕ) → Then lo hi Tails2 r → Utf8 (a ∷ r)
by_four a lo hi f [] p = absurd p
by_four a lo hi f (b ∷ []) p = absurd p.1
by_four a lo hi f (b ∷ c ∷ []) p = absurd p.1.1
by_four a lo hi f (b ∷ c ∷ d ∷ r) p = more (f b c d p.0 p.1.0 p.1.1.0) p.1.1.1

-- a test on the class of a first byte, passed or not
by_test : (X : Type 0) (c k : ℕ) (d e : Utf8State) (r : List ℕ) → (c ≡ k → Left d r → X) → (Left e r → X) → Left (cond (eqb c k) d e) r → X
by_test X c k d e r f g = go (eqb c k) refl
  where
    go : (x : Bool) → eqb c k ≡ x → Left (cond x d e) r → X
    go true q p = f (eqb-true c k q) p
    go false q p = g p

by_six : (a : ℕ) (r : List ℕ) → In 0xE1 0xEC a ⊎ In 0xEE 0xEF a → Tails2 r → Utf8 (a ∷ r)
by_six a r (inl i) = by_three a 0x80 0xBF (λ b c s t. three_e1 i s t) r
by_six a r (inr i) = by_three a 0x80 0xBF (λ b c s t. three_ee i s t) r

first_is : (a : ℕ) (r : List ℕ) → Left (first (class_of a)) r → Utf8 (a ∷ r)
unfolding first
first_is a r =
    by_test _ (class_of a) 0 _ _ r (λ e u. more (one (byte_of ascii a (omega arith))) u)
    (by_test _ (class_of a) 4 _ _ r (λ e. by_two a (byte_of lead_c2 a (omega arith)) r)
    (by_test _ (class_of a) 5 _ _ r (λ e. by_three a 0xA0 0xBF (λ b c s t. three_e0 (byte_of lead_e0 a (omega arith)) s t) r)
    (by_test _ (class_of a) 6 _ _ r (λ e. by_six a r (six_is a e))
    (by_test _ (class_of a) 7 _ _ r (λ e. by_three a 0x80 0x9F (λ b c s t. three_ed (byte_of lead_ed a (omega arith)) s t) r)
    (by_test _ (class_of a) 8 _ _ r (λ e. by_four a 0x90 0xBF (λ b c d s t u. four_f0 (byte_of lead_f0 a (omega arith)) s t u) r)
    (by_test _ (class_of a) 9 _ _ r (λ e. by_four a 0x80 0xBF (λ b c d s t u. four_f1 (byte_of lead_f1 a (omega arith)) s t u) r)
    (by_test _ (class_of a) 10 _ _ r (λ e. by_four a 0x80 0x8F (λ b c d s t u. four_f4 (byte_of lead_f4 a (omega arith)) s t u) r) (λ p. absurd p))))))))

among_is : {lo hi k l : ℕ} → Range lo hi k l → (b : ℕ) (st : Utf8State) (r : List ℕ) → Left (among k l (class_of b) st) r → In lo hi b × Left st r
unfolding among
among_is {lo} {hi} {k} {l} g b st r = go (ltb (class_of b) k) refl (ltb l (class_of b)) refl
  where
    go : (x : Bool) → ltb (class_of b) k ≡ x → (y : Bool) → ltb l (class_of b) ≡ y → Left (cond x Invalid (cond y Invalid st)) r → In lo hi b × Left st r
    go true p y q h = absurd h
    go false p true q h = absurd h
    go false p false q h = (byte_of g b (ltb-false (class_of b) k p, ltb-false l (class_of b) q), h)

given : (bs : List ℕ) (st : Utf8State) → is_boundary (scan st bs) ≡ true → Left st bs
unfolding scan is_boundary next
given [] Boundary q = none
given [] Tail1 q = absurd (false≢true q)
given [] Tail2 q = absurd (false≢true q)
given [] Tail3 q = absurd (false≢true q)
given [] AfterE0 q = absurd (false≢true q)
given [] AfterEd q = absurd (false≢true q)
given [] AfterF0 q = absurd (false≢true q)
given [] AfterF4 q = absurd (false≢true q)
given [] Invalid q = absurd (false≢true q)
given (b ∷ r) Boundary q = first_is b r (given r _ q)
given (b ∷ r) Tail1 q = among_is tail b Boundary r (given r _ q)
given (b ∷ r) Tail2 q = among_is tail b Tail1 r (given r _ q)
given (b ∷ r) Tail3 q = among_is tail b Tail2 r (given r _ q)
given (b ∷ r) AfterE0 q = among_is tail_a0 b Tail1 r (given r _ q)
given (b ∷ r) AfterEd q = among_is tail_9_f b Tail1 r (given r _ q)
given (b ∷ r) AfterF0 q = among_is tail_90 b Tail2 r (given r _ q)
given (b ∷ r) AfterF4 q = among_is tail_80 b Tail2 r (given r _ q)
given (b ∷ r) Invalid q = given r Invalid q

-- for every list of numbers
pub utf8_just : (bs : List ℕ) → is_utf8 bs ≡ true ↔ Utf8 bs
unfolding is_utf8 is_boundary
utf8_just bs = (given bs Boundary, λ u. ap is_boundary (passes u))
