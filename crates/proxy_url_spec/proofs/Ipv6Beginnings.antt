-- F-9: a beginning of IPv6 text is completed by one of the endings.
use Prim.Native.Nat.{ℕ, zero, suc, ◌+◌, ◌≤◌}
use native.Mathlib.Omega.{arith}
use mathlib.Core.Path.{◌≡◌, refl, ap, ◌∙◌}
use mathlib.Core.Option.{none}
use mathlib.Core.List.Memᴰ
use mathlib.Core.List.Memᴰ.{head as here}
use mathlib.Core.List.Memᴰ.{tail as there}
use mathlib.Core.List.{List, [], ◌∷◌, ◌++◌, append_assoc, append-nil, Memᴰ}
use lib.ListN.{length, length-append}
use Rattle.protocol.specs.Bytes.{two}
use Rattle.protocol.specs.AddressText as G
use Rattle.protocol.specs.AddressText.{Decimal, digit, Number, Dotted, Group, Groups, Tail, Left, Right, Ipv6}
use Rattle.protocol.specs.AddressReading.{ipv6_of}
use Rattle.protocol.proofs.AddressIpv6.{dotted_length, ipv6_complete, number_group}
use Rattle.proxy_url_spec.specs.Ipv6Endings.{endings}
use Rattle.proxy_url_spec.proofs.Ipv6Extent.{All, groups_tail}

-- ---- where a text p, that goes on by q, stops: before c, or behind it

data Cut (a : List ℕ) (c : ℕ) (s q : List ℕ) : List ℕ → Type 0 where
  before : {p : List ℕ} (r : List ℕ) → p ++ r ≡ a → Cut a c s q p
  behind : (r : List ℕ) → r ++ q ≡ s → Cut a c s q (a ++ (c ∷ r))

further : {a s q p : List ℕ} {c : ℕ} (d : ℕ) → Cut a c s q p → Cut (d ∷ a) c s q (d ∷ p)
further d (before r e) = before r (ap (λ (l : List ℕ). d ∷ l) e)
further d (behind r e) = behind r e

cut : (a : List ℕ) (c : ℕ) (s p q : List ℕ) → p ++ q ≡ a ++ (c ∷ s) → Cut a c s q p
cut a c s [] q e = before a refl
cut [] c s (b ∷ p) q e = let f : b ≡ c = cc in rw f (behind p (cc))
cut (d ∷ a) c s (b ∷ p) q e = let f : b ≡ d = cc in rw f (further d (cut a c s p q (cc)))

nothing : (p q : List ℕ) → p ++ q ≡ [] → p ≡ []
nothing [] q e = refl
nothing (b ∷ p) q e = cc

-- ---- a beginning of a run of digits is empty or such a run

data Begun (P : List ℕ → ℕ → Type 0) : List ℕ → Type 0 where
  no_digit : Begun P []
  digits : {p : List ℕ} {v : ℕ} → P p v → Begun P p

module _ (P : List ℕ → ℕ → Type 0) where
  none_begun : (p r : List ℕ) → p ++ r ≡ [] → Begun P p
  none_begun p r e = rw (nothing p r e) no_digit

  more_begun : (g : List ℕ) (a : ℕ) {v : ℕ} → P (g ++ (a ∷ [])) v → ((p r : List ℕ) → p ++ r ≡ g → Begun P p)
      → (p r : List ℕ) → p ++ r ≡ g ++ (a ∷ []) → Begun P p
  more_begun g a x f p r e = go (cut g a [] p r e)
    where
      go : {t : List ℕ} → Cut g a [] r t → Begun P t
      go {t} (before s d) = f t s d
      go (behind s d) = rw (nothing s r d) (digits x)

group_begun : {s : List ℕ} {v : ℕ} → Group s v → (p r : List ℕ) → p ++ r ≡ s → Begun Group p
group_begun (G.one {a} x) = more_begun Group [] a (G.one x) (none_begun Group)
group_begun (G.more {p} {v} {a} g l x) = more_begun Group p a (G.more g l x) (group_begun g)

number_begun : {s : List ℕ} {v : ℕ} → Number s v → (p r : List ℕ) → p ++ r ≡ s → Begun Number p
number_begun (G.one {a} x) = more_begun Number [] a (G.one x) (none_begun Number)
number_begun (G.more {p} {v} {a} n l x m) = more_begun Number p a (G.more n l x m) (number_begun n)

-- ---- p and one of some endings make a text of T

abbrev Completes : (List ℕ → List ℕ → Type 0) → List (List ℕ) → List ℕ → Type 0
Completes T es p = (e : List ℕ) × Memᴰ e es × (bs : List ℕ) × T (p ++ e) bs

-- ---- numbers split by dots are completed by zeros

abbrev dots : ℕ → List ℕ
dots zero = []
dots (suc n) = 0x2E ∷ 0x30 ∷ dots n

-- with fewer than so many dots
abbrev zeros : ℕ → List (List ℕ)
zeros zero = []
zeros (suc n) = dots n ∷ (0x30 ∷ dots n) ∷ zeros n

zero_digit : Decimal 0x30 0
zero_digit = record { small = omega arith; is = refl }

dotted_zeros : {p : List ℕ} {v : ℕ} → Number p v → (n : ℕ) → (vs : List ℕ) × Dotted n (p ++ dots n) vs
dotted_zeros {v = v} x zero = (v ∷ [], rw append-nil (G.last x))
dotted_zeros x (suc n) = (_, G.next x (dotted_zeros (G.one zero_digit) n).1)

first_completes : {p : List ℕ} (n : ℕ) → Begun Number p → Completes (Dotted n) (zeros (suc n)) p
first_completes n no_digit = let (vs, y) = dotted_zeros (G.one zero_digit) n in (_, there (here refl), vs, y)
first_completes n (digits x) = let (vs, y) = dotted_zeros x n in (_, here refl, vs, y)

dotted_completes : {n : ℕ} {s vs : List ℕ} → Dotted n s vs → (p q : List ℕ) → p ++ q ≡ s → Completes (Dotted n) (zeros (suc n)) p
dotted_completes (G.last x) p q e = first_completes 0 (number_begun x p q e)
dotted_completes (G.next {n} {p = g} {s} {vs} {v} x y) p q e = go (λ p q e. dotted_completes y p q e) (cut g 0x2E s p q e)
  where
    go : {t : List ℕ} → ((p q : List ℕ) → p ++ q ≡ s → Completes (Dotted n) (zeros (suc n)) p) → Cut g 0x2E s q t
        → Completes (Dotted (suc n)) (zeros (suc (suc n))) t
    go {t} f (before r d) = first_completes (suc n) (number_begun x t r d)
    go f (behind r d) =
        let (e, m, vs, y) = f r q d in
        (e, there (there m), v ∷ vs, rw (append_assoc g (0x2E ∷ r) e) (G.next x y))

-- ---- rows of groups, with what the last may be

-- text of T and so many bytes
abbrev Sized : (List ℕ → List ℕ → Type 0) → ℕ → List ℕ → List ℕ → Type 0
Sized T n s bs = T s bs × (length bs ≡ n)

-- a beginning of a row that stands for n bytes: groups that are not yet all, with a colon behind them or not, or what an ending completes to n bytes
data Begins (T : List ℕ → List ℕ → Type 0) (es : List (List ℕ)) (n : ℕ) : List ℕ → Type 0 where
  start : Begins T es n []
  row : {p us : List ℕ} → Groups p us → length us + 2 ≤ n → Begins T es n p
  colon : {p us : List ℕ} → Groups p us → length us + 2 ≤ n → Begins T es n (p ++ (0x3A ∷ []))
  done : {p : List ℕ} → Completes (Sized T n) es p → Begins T es n p

first_begins : {T : List ℕ → List ℕ → Type 0} {es : List (List ℕ)} {p : List ℕ} {n : ℕ} → 4 ≤ n → Begun Group p → Begins T es n p
first_begins h no_digit = start
first_begins h (digits x) = row (G.last x) (omega arith)

-- each beginning of s is one
record Row (T : List ℕ → List ℕ → Type 0) (es : List (List ℕ)) (s : List ℕ) (n : ℕ) : Type 0 where
  some_group : 2 ≤ n
  begins : (p q : List ℕ) → p ++ q ≡ s → Begins T es n p

-- a row's text, as groups and tails both are
record Rules (T : List ℕ → List ℕ → Type 0) (es : List (List ℕ)) : Type 0 where
  empty : Memᴰ [] es
  last : {p : List ℕ} {v : ℕ} → Group p v → T p (two v)
  next : {p s bs : List ℕ} {v : ℕ} → Group p v → T s bs → T (p ++ (0x3A ∷ s)) (two v ++ bs)

module _ {T : List ℕ → List ℕ → Type 0} {es : List (List ℕ)} (rules : Rules T es) where
  last_row : {s : List ℕ} {v : ℕ} → Group s v → Row T es s 2
  last_row x = record { some_group = omega arith; begins = λ p q e. go (group_begun x p q e) }
    where
      go : {p : List ℕ} → Begun Group p → Begins T es 2 p
      go no_digit = start
      go (digits {p} {v} y) = done {p = p} ([], rules.empty, two v, (rw append-nil (rules.last y), refl))

  next_row : {g s : List ℕ} {v n : ℕ} → Group g v → Row T es s n → Row T es (g ++ (0x3A ∷ s)) (suc (suc n))
  next_row {g} {s} {v} {n} x y = record { some_group = omega arith; begins = λ p q e. go (cut g 0x3A s p q e) }
    where
      onward : {p : List ℕ} → Begins T es n p → Begins T es (suc (suc n)) (g ++ (0x3A ∷ p))
      onward start = colon (G.last x) (let h = y.some_group in omega arith)
      onward (row z h) = row (G.next x z) (omega arith)
      onward (colon {p} z h) = rw (← append_assoc g (0x3A ∷ p) (0x3A ∷ [])) (colon (G.next x z) (omega arith))
      onward (done {p} (e, m, bs, (z, l))) = done {p = g ++ (0x3A ∷ p)} (e, m, two v ++ bs, (rw (append_assoc g (0x3A ∷ p) e) (rules.next x z), omega arith))

      go : {p q : List ℕ} → Cut g 0x3A s q p → Begins T es (suc (suc n)) p
      go {p} (before r d) = first_begins (let h = y.some_group in omega arith) (group_begun x p r d)
      go {q = q} (behind r d) = onward (y.begins r q d)

groups_rules : Rules Groups ([] ∷ [])
groups_rules = record { empty = here refl; last = G.last; next = G.next }

groups_row : {s bs : List ℕ} → Groups s bs → Row Groups ([] ∷ []) s (length bs)
groups_row (G.last x) = last_row groups_rules x
groups_row (G.next x y) = next_row groups_rules x (groups_row y)

dotted_among : {e : List ℕ} → Memᴰ e (zeros 3) → Memᴰ e endings
unfolding endings
dotted_among m = there (there m)

empty_among : Memᴰ [] endings
empty_among = dotted_among (there (there (there (there (here refl)))))

zero_among : Memᴰ (0x30 ∷ []) endings
zero_among = dotted_among (there (there (there (there (there (here refl))))))

tail_rules : Rules Tail endings
tail_rules = record { empty = empty_among; last = G.last; next = G.next }

tail_row : {s bs : List ℕ} → Tail s bs → Row Tail endings s (length bs)
tail_row (G.last x) = last_row tail_rules x
tail_row (G.next x y) = next_row tail_rules x (tail_row y)
tail_row (G.quad {s} {bs} (G.next {p = g} {s = t} {v} x y)) =
    record { some_group = omega (arith, dotted_length y); begins = λ p q e. go (cut g 0x2E t p q e) }
  where
    go : {p q : List ℕ} → Cut g 0x2E t q p → Begins Tail endings (length bs) p
    go {p} (before r d) = first_begins (omega (arith, dotted_length y)) (group_begun (number_group x).1 p r d)
    go {q = q} (behind r d) =
        let (e, m, vs, z) = dotted_completes y r q d in
        done {p = g ++ (0x2E ∷ r)} (e, dotted_among m, v ∷ vs, (rw (append_assoc g (0x2E ∷ r) e) (G.quad (G.next x z)), omega (arith, dotted_length y, dotted_length z)))

-- ---- with `::` behind what stands there, or before it

abbrev pub GoesOn : List ℕ → Type 0
GoesOn p = Completes Ipv6 endings p

colons : {a us : List ℕ} → Left a us → length us ≤ 14 → GoesOn a
unfolding endings
colons x h = (_, here refl, _, G.gap x G.none (omega arith))

one_colon : {a us : List ℕ} → Left a us → length us ≤ 14 → GoesOn (a ++ (0x3A ∷ []))
unfolding endings colons
one_colon {a} x h = let (e, m, bs, y) = colons x h in (0x3A ∷ [], there (here refl), bs, rw (append_assoc a (0x3A ∷ []) (0x3A ∷ [])) y)

row_goes_on : {T : List ℕ → List ℕ → Type 0} {es : List (List ℕ)} {n : ℕ} {p : List ℕ} → n ≤ 16 → (Completes (Sized T n) es p → GoesOn p) → Begins T es n p → GoesOn p
row_goes_on h f start = colons G.none (omega arith)
row_goes_on h f (row x k) = colons (G.some x) (omega arith)
row_goes_on h f (colon x k) = one_colon (G.some x) (omega arith)
row_goes_on h f (done x) = f x

groups_then : {a us t ws : List ℕ} → Groups a us → Tail t ws → Tail (a ++ (0x3A ∷ t)) (us ++ ws)
groups_then (G.last x) t = G.next x t
groups_then {t = t} (G.next {p} {s} x y) z = rw (append_assoc p (0x3A ∷ s) (0x3A ∷ t)) (G.next x (groups_then y z))

right_completes : {n : ℕ} {p : List ℕ} → Begins Tail endings n p → Completes (λ s bs. Right s bs × (length bs ≤ n)) endings p
right_completes start = ([], empty_among, [], (G.none, omega arith))
right_completes (row {p} {us} x h) = ([], empty_among, us, (rw append-nil (G.some (groups_tail x)), omega arith))
right_completes (colon {p} {us} x h) =
    (0x30 ∷ [], zero_among, us ++ two 0, (rw (append_assoc p (0x3A ∷ []) (0x30 ∷ [])) (G.some (groups_then x (G.last (G.one (digit zero_digit))))), omega (arith, length-append us (two 0))))
right_completes (done (e, m, bs, (x, l))) = (e, m, bs, (G.some x, omega arith))

left_begins : {a us : List ℕ} → Left a us → (p q : List ℕ) → p ++ q ≡ a → Begins Groups ([] ∷ []) (length us) p
left_begins G.none p q e = rw (nothing p q e) start
left_begins (G.some x) p q e = (groups_row x).begins p q e

right_begins : {b ws : List ℕ} → Right b ws → (p q : List ℕ) → p ++ q ≡ b → Begins Tail endings (length ws) p
right_begins G.none p q e = rw (nothing p q e) start
right_begins (G.some x) p q e = (tail_row x).begins p q e

goes_on : {s bs : List ℕ} → Ipv6 s bs → (p q : List ℕ) → p ++ q ≡ s → GoesOn p
goes_on (G.whole x l) p q e = row_goes_on (omega arith) (λ (e, m, cs, (y, k)). (e, m, cs, G.whole y (k ∙ l))) ((tail_row x).begins p q e)
goes_on (G.gap {a} {b} {us} {ws} x y h) p q e = go (cut a 0x3A (0x3A ∷ b) p q e)
  where
    full : (p : List ℕ) → Completes (Sized Groups (length us)) ([] ∷ []) p → GoesOn p
    full p (e, m, cs, (z, l)) = colons (G.some (rw (Memᴰ.eq_of_singleton m, append-nil) at z)) (omega arith)

    on : (r : List ℕ) → Completes (λ s bs. Right s bs × (length bs ≤ length ws)) endings r → GoesOn (a ++ (0x3A ∷ 0x3A ∷ r))
    on r (e, m, cs, (z, l)) = (e, m, _, rw (← append_assoc a (0x3A ∷ 0x3A ∷ r) e) at (G.gap x z (omega arith)))

    go : {p q : List ℕ} → Cut a 0x3A (0x3A ∷ b) q p → GoesOn p
    go {p} (before r d) = row_goes_on (omega arith) (full p) (left_begins x p r d)
    go (behind [] d) = one_colon x (omega arith)
    go {q = q} (behind (c ∷ r) d) = let f : c ≡ 0x3A = cc in rw f (on r (right_completes (right_begins y r q (cc))))

pub goes_on_by : (p q bs : List ℕ) → Ipv6 (p ++ q) bs → (e : List ℕ) × Memᴰ e endings × (cs : List ℕ) × Ipv6 (p ++ e) cs
goes_on_by p q bs x = goes_on x p q refl

-- where none of them completes it, nothing does
all_of : {A : Type 0} (P : A → Type 0) {a : A} {l : List A} → Memᴰ a l → All P l → P a
all_of P (here e) x = rw e x.0
all_of P (there m) x = all_of P m x.1

pub stops_by : (p : List ℕ) → All (λ e. ipv6_of (p ++ e) ≡ none) endings → (q bs : List ℕ) → Ipv6 (p ++ q) bs → ⊥
stops_by p x q bs y =
    let (e, m, cs, z) = goes_on_by p q bs y in
    let f = all_of (λ e. ipv6_of (p ++ e) ≡ none) m x in
    let g = ipv6_complete z in
    let c : ◌≡◌ {A = ℕ} 0 1 = cc in
    absurd (omega arith)
