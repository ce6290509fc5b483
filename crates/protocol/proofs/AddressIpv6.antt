-- IPv6 text: what is read the grammar makes, and the other way round.
use mathlib.Core.Path.{◌≡◌, refl, sym, ap, ◌∙◌}
use mathlib.Core.Option.{Option, none, some}
use mathlib.Core.List.{List, [], ◌∷◌, ◌++◌, append_assoc, append-nil}
use mathlib.Core.Bool.{Bool, true, false, cond}
use Prim.Native.Nat.{ℕ, zero, suc, ◌+◌, ◌-◌, ◌≤◌, ◌<◌}
use native.Mathlib.Omega.{arith}
use lib.Dec.{ltb, leb, eqb}
use lib.ListN.{length, drop, replicate, length-append}
use lib.Seq.{drop-cons, drop-append-add, get_or-append-add, get_or-append_seam}
use borrow.Author.Tests.{lt-ltb, le-leb, eq-eqb, ne_eqb, leb-true, eqb-true, eqb-false}
use Rattle.protocol.specs.declared.Follows.{Follows}
use Rattle.protocol.specs.declared.Follows.TheVariants.{Bad, End, Dot, Colons, Colon}
use Rattle.protocol.specs.Bytes.{byte, two}
use Rattle.protocol.specs.AddressText as G
use Rattle.protocol.specs.AddressText.{Hex, Number, Dotted, Group, Groups, Tail, Left, Right, Ipv6, digit}
use Rattle.protocol.specs.AddressReading.{hex_value, group_of, mark_at, ipv4_of, follows_at, Row, no_row, ends, gap, ahead_row, quad_row, row_by, row, right_of, join_of, whole_of, starts_gap, ipv6_of}
use Rattle.protocol.proofs.AddressDigits.{hex_value_lem, hex_small, end, mark, group_taken, group_reads, group_long, Mark, mark_is, marks, behind, marked, ended}
use Rattle.protocol.proofs.AddressIpv4.{ipv4_sound, ipv4_complete}

-- ---- a number's digits are a group's

two_digits : {p : List ℕ} {v : ℕ} → Number p v → v ≤ 25 → length p ≤ 2
two_digits (G.one x) h = omega arith
two_digits (G.more (G.one x) l y m) h = omega arith
two_digits (G.more (G.more n k x o) l y m) h = absurd (omega arith)

pub number_short : {p : List ℕ} {v : ℕ} → Number p v → length p ≤ 3
number_short (G.one x) = omega arith
number_short (G.more {p} {v} {a} n l x m) = omega (arith, two_digits n (omega arith), length-append p (a ∷ []))

pub number_group : {p : List ℕ} {v : ℕ} → Number p v → (w : ℕ) × Group p w
number_group (G.one x) = (_, G.one (digit x))
number_group (G.more n l x m) = let (w, g) = number_group n in (_, G.more g (omega (arith, number_short n)) (digit x))

-- ---- no group begins with a colon

not_colon : {b d : ℕ} → Hex b d → eqb b 0x3A ≡ false
unfolding hex_value
not_colon {b} {d} x = ne_eqb b 0x3A (λ e. no e (hex_value_lem x) (hex_small x))
  where
    no : b ≡ 0x3A → hex_value b ≡ d → d ≤ 15 → ⊥
    no e f h = let g : 16 ≡ d = rw e at f in absurd (omega arith)

group_head : {p : List ℕ} {v : ℕ} → Group p v → (s : List ℕ) → eqb (byte (p ++ s) 0) 0x3A ≡ false
group_head (G.one x) s = not_colon x
group_head (G.more {p} {v} {a} g l x) s = rw (append_assoc p (a ∷ []) s) (group_head g (a ∷ s))

tail_head : {s bs : List ℕ} → Tail s bs → eqb (byte s 0) 0x3A ≡ false
tail_head (G.last g) = rw append-nil at (group_head g [])
tail_head (G.quad (G.next {n} {p} {s} x y)) = group_head (number_group x).1 (0x2E ∷ s)
tail_head (G.next {p} {s} g y) = group_head g (0x3A ∷ s)

groups_head : {a us : List ℕ} → Groups a us → (t : List ℕ) → eqb (byte (a ++ t) 0) 0x3A ≡ false
groups_head (G.last g) t = group_head g t
groups_head (G.next {p} {s} g y) t = rw (append_assoc p (0x3A ∷ s) t) (group_head g (0x3A ∷ (s ++ t)))

-- ---- the grammar is read

both_false : (a b : Bool) → cond a false (cond b false false) ≡ false
both_false true b = refl
both_false false true = refl
both_false false false = refl

module _ {p : List ℕ} {v : ℕ} (g : Group p v) (m : ℕ) where
  long : length p ≡ 0 → ⊥
  long z = let l = group_long g in absurd (omega arith)

  longer : (b : ℕ) (t : List ℕ) → length p ≡ length (p ++ (b ∷ t)) → ⊥
  longer b t z = let l : length (p ++ (b ∷ t)) ≡ length p + suc (length t) = length-append p (b ∷ t) in absurd (omega arith)

  row_end : row (suc m) p ≡ ends (two v)
  unfolding row follows_at
  row_end =
      let e : group_of p ≡ record { count = length p; value = v } = rw append-nil at (group_reads g end) in
      rw (e, ne_eqb (length p) 0 long, eq-eqb (length p) (length p) refl)

  row_dot : (t : List ℕ) → row (suc m) (p ++ (0x2E ∷ t)) ≡ quad_row m (ipv4_of (p ++ (0x2E ∷ t)))
  unfolding row follows_at hex_value
  row_dot t =
      let e : group_of (p ++ (0x2E ∷ t)) ≡ record { count = length p; value = v } = group_reads g (mark refl) in
      rw (e, ne_eqb (length p) 0 long, ne_eqb (length p) (length (p ++ (0x2E ∷ t))) (longer 0x2E t), marks 0x2E p t (group_long g))

  not_dot : (t : List ℕ) → mark_at 0x2E (p ++ (0x3A ∷ t)) (length p) ≡ false
  unfolding mark_at
  not_dot t =
      let l : length p < length (p ++ (0x3A ∷ t)) = simp length-append (omega arith) in
      rw (ne_eqb (length p) 0 long, lt-ltb (length p) (length (p ++ (0x3A ∷ t))) l, get_or-append_seam p 0x3A t 0)

  -- what follows is a colon, or two
  colon_or : (t : List ℕ) (b : Bool) → mark_at 0x3A (p ++ (0x3A ∷ t)) (length p + 1) ≡ b → follows_at (p ++ (0x3A ∷ t)) (length p) ≡ cond b Colons Colon
  unfolding follows_at
  colon_or t b e =
      rw (ne_eqb (length p) 0 long, ne_eqb (length p) (length (p ++ (0x3A ∷ t))) (longer 0x3A t), not_dot t, marks 0x3A p t (group_long g), e)

  not_second : (t : List ℕ) → eqb (byte t 0) 0x3A ≡ false → mark_at 0x3A (p ++ (0x3A ∷ t)) (length p + 1) ≡ false
  unfolding mark_at
  not_second t h = rw (get_or-append-add p (0x3A ∷ t) 1 0, h) (both_false (eqb (length p + 1) 0) (ltb (length p + 1) (length (p ++ (0x3A ∷ t)))))

  row_colon : (t : List ℕ) → eqb (byte t 0) 0x3A ≡ false → row (suc m) (p ++ (0x3A ∷ t)) ≡ ahead_row (two v) (row m t)
  unfolding row hex_value
  row_colon t h =
      let e : group_of (p ++ (0x3A ∷ t)) ≡ record { count = length p; value = v } = group_reads g (mark refl) in
      rw (e, colon_or t false (not_second t h), behind 0x3A p t)

  row_gap : (t : List ℕ) → row (suc m) (p ++ (0x3A ∷ 0x3A ∷ t)) ≡ gap (two v) t
  unfolding row hex_value
  row_gap t =
      let e : group_of (p ++ (0x3A ∷ 0x3A ∷ t)) ≡ record { count = length p; value = v } = group_reads g (mark refl) in
      rw (e, colon_or (0x3A ∷ t) true second, drop-append-add p (0x3A ∷ 0x3A ∷ t) 2)
    where
      second : mark_at 0x3A (p ++ (0x3A ∷ 0x3A ∷ t)) (length p + 1) ≡ true
      second = rw (append_assoc p (0x3A ∷ []) (0x3A ∷ t), length-append p (0x3A ∷ [])) at (marks 0x3A (p ++ (0x3A ∷ [])) t (rw (length-append p (0x3A ∷ [])) (omega arith)))

quad_ends : (m : ℕ) (bs : List ℕ) → 1 ≤ m → quad_row m (some bs) ≡ ends bs
quad_ends zero bs h = absurd (omega arith)
quad_ends (suc m) bs h = refl

pub dotted_length : {n : ℕ} {s vs : List ℕ} → Dotted n s vs → length vs ≡ suc n
dotted_length (G.last x) = refl
dotted_length (G.next x y) = ap suc (dotted_length y)

tail_two : {s bs : List ℕ} → Tail s bs → 2 ≤ length bs
tail_two (G.last g) = omega arith
tail_two (G.quad q) = let l = dotted_length q in omega arith
tail_two (G.next g y) = omega arith

groups_two : {s bs : List ℕ} → Groups s bs → 2 ≤ length bs
groups_two (G.last g) = omega arith
groups_two (G.next g y) = omega arith

tail_complete : {s bs : List ℕ} → Tail s bs → (n : ℕ) → length bs ≤ n + n → row n s ≡ ends bs
tail_complete t zero h = let l = tail_two t in absurd (omega arith)
tail_complete (G.last g) (suc m) h = row_end g m
tail_complete (G.quad {s} {bs} (G.next {n = k} {p} {s = t} x y)) (suc m) h =
    let l = dotted_length y in
    row_dot (number_group x).1 m t ∙ rw (ipv4_complete (G.next x y)) (quad_ends m bs (omega arith))
tail_complete (G.next {p} {s} {bs} {v} g y) (suc m) h = row_colon g m s (tail_head y) ∙ rw (tail_complete {s = s} y m (omega arith))

groups_complete : {a us : List ℕ} → Groups a us → (t : List ℕ) (n : ℕ) → length us ≤ n + n → row n (a ++ (0x3A ∷ 0x3A ∷ t)) ≡ gap us t
groups_complete g t zero h = let l = groups_two g in absurd (omega arith)
groups_complete (G.last g) t (suc m) h = row_gap g m t
groups_complete (G.next {p} {s} {bs} {v} g y) t (suc m) h =
    rw (append_assoc p (0x3A ∷ s) (0x3A ∷ 0x3A ∷ t))
    (row_colon g m (s ++ (0x3A ∷ 0x3A ∷ t)) (groups_head y (0x3A ∷ 0x3A ∷ t)) ∙ rw (groups_complete {a = s} y t m (omega arith)))

-- ---- what is read is of the grammar

-- what follows, by what it says of the text
abbrev Says : List ℕ → ℕ → Follows → Type 0
Says s n Bad = Unit {0}
Says s n End = (n ≡ 0 → ⊥) × (n ≡ length s)
Says s n Dot = Unit {0}
Says s n Colons = Mark 0x3A s n × Mark 0x3A s (n + 1)
Says s n Colon = Mark 0x3A s n

says : (s : List ℕ) (n : ℕ) → Says s n (follows_at s n)
unfolding follows_at
says s n = go (eqb n 0) refl (eqb n (length s)) refl (mark_at 0x2E s n) (mark_at 0x3A s n) refl (mark_at 0x3A s (n + 1)) refl
  where
    go : (t : Bool) → eqb n 0 ≡ t → (u : Bool) → eqb n (length s) ≡ u → (v w : Bool) → mark_at 0x3A s n ≡ w → (x : Bool) → mark_at 0x3A s (n + 1) ≡ x
        → Says s n (cond t Bad (cond u End (cond v Dot (cond w (cond x Colons Colon) Bad))))
    go true e u f v w h x i = tt
    go false e true f v w h x i = (eqb-false n 0 e, eqb-true n (length s) f)
    go false e false f true w h x i = tt
    go false e false f false false h x i = tt
    go false e false f false true h true i = (mark_is 0x3A s n h, mark_is 0x3A s (n + 1) i)
    go false e false f false true h false i = mark_is 0x3A s n h

record Split (s us t : List ℕ) : Type 0 where
  a : List ℕ
  groups : Groups a us
  split : s ≡ a ++ (0x3A ∷ 0x3A ∷ t)

abbrev Means : List ℕ → Row → Type 0
Means s no_row = Unit {0}
Means s (ends bs) = Tail s bs
Means s (gap us t) = Split s us t

quad_means : (n : ℕ) (s : List ℕ) (r : Option (List ℕ)) → ipv4_of s ≡ r → Means s (quad_row n r)
quad_means zero s r e = tt
quad_means (suc n) s none e = tt
quad_means (suc n) s (some bs) e = G.quad (ipv4_sound s bs e)

ahead_means : (p t s : List ℕ) (v : ℕ) (r : Row) → Group p v → s ≡ p ++ (0x3A ∷ t) → Means t r → Means s (ahead_row (two v) r)
ahead_means p t s v no_row g e m = tt
ahead_means p t s v (ends bs) g e m = rw e (G.next g m)
ahead_means p t s v (gap us u) g e m =
    record {
      a = p ++ (0x3A ∷ m.a);
      groups = G.next g m.groups;
      split = e ∙ ap (λ (l : List ℕ). p ++ (0x3A ∷ l)) m.split ∙ sym (append_assoc p (0x3A ∷ m.a) (0x3A ∷ 0x3A ∷ u));
    }

by_means : (n : ℕ) (s : List ℕ) (w : Follows) (on : Row) → Says s (group_of s).count w → Means (drop ((group_of s).count + 1) s) on → Means s (row_by w n s (group_of s) on)
by_means n s Bad on k m = tt
by_means n s End on k m = G.last (ended Group s (group_of s) (group_taken s k.0) k.1)
by_means n s Dot on k m = quad_means n s (ipv4_of s) refl
by_means n s Colon on k m =
    let d = marked Group 0x3A s (group_of s) (group_taken s k.some_digits) k in
    ahead_means d.q (drop ((group_of s).count + 1) s) s (group_of s).value on d.made d.split m
by_means n s Colons on k m =
    let d = marked Group 0x3A s (group_of s) (group_taken s k.0.some_digits) k.0 in
    let z : suc ((group_of s).count + 1) ≡ (group_of s).count + 2 = omega arith in
    let e : drop ((group_of s).count + 1) s ≡ 0x3A ∷ drop ((group_of s).count + 2) s = drop-cons s ((group_of s).count + 1) 0 k.1.inside ∙ rw (k.1.is, z) in
    record { a = d.q; groups = G.last d.made; split = d.split ∙ ap (λ (l : List ℕ). d.q ++ (0x3A ∷ l)) e }

row_sound : (n : ℕ) (s : List ℕ) → Means s (row n s)
unfolding row
row_sound zero s = tt
row_sound (suc n) s =
    by_means n s (follows_at s (group_of s).count) (row n (drop ((group_of s).count + 1) s)) (says s (group_of s).count) (row_sound n (drop ((group_of s).count + 1) s))

row_tail : (n : ℕ) (s bs : List ℕ) → row n s ≡ ends bs → Tail s bs
row_tail n s bs e = rw e at (row_sound n s)

row_split : (n : ℕ) (s us t : List ℕ) → row n s ≡ gap us t → Split s us t
row_split n s us t e = rw e at (row_sound n s)

-- ---- behind `::`

right_sound : (t ws : List ℕ) → right_of t ≡ ends ws → Right t ws
unfolding right_of
right_sound [] ws e = let k : ws ≡ [] = cc in rw k G.none
right_sound (a ∷ t) ws e = G.some (row_tail 8 (a ∷ t) ws (rw (ne_eqb (length (a ∷ t)) 0 (λ z. absurd (omega arith))) at e))

tail_long : {s bs : List ℕ} → Tail s bs → length s ≡ 0 → ⊥
tail_long (G.last g) z = let l = group_long g in absurd (omega arith)
tail_long (G.quad (G.next {p} {s = u} y w)) z = let l : length (p ++ (0x2E ∷ u)) ≡ length p + suc (length u) = length-append p (0x2E ∷ u) in absurd (omega arith)
tail_long (G.next {p} {s = u} g w) z = let l : length (p ++ (0x3A ∷ u)) ≡ length p + suc (length u) = length-append p (0x3A ∷ u) in absurd (omega arith)

right_complete : {t ws : List ℕ} → Right t ws → length ws ≤ 14 → right_of t ≡ ends ws
unfolding right_of
right_complete G.none h = refl
right_complete (G.some {s} x) h = rw (ne_eqb (length s) 0 (tail_long x)) (tail_complete x 8 (omega arith))

join_sound : (a us t bs : List ℕ) → Left a us → (r : Row) → right_of t ≡ r → join_of us r ≡ some bs → Ipv6 (a ++ (0x3A ∷ 0x3A ∷ t)) bs
unfolding join_of
join_sound a us t bs l no_row e f = let z : ◌≡◌ {A = ℕ} 0 1 = cc in absurd (omega arith)
join_sound a us t bs l (gap ws u) e f = let z : ◌≡◌ {A = ℕ} 0 1 = cc in absurd (omega arith)
join_sound a us t bs l (ends ws) e f = go (leb (length us + length ws) 14) refl f
  where
    go : (x : Bool) → leb (length us + length ws) 14 ≡ x
        → cond x (some (us ++ (replicate (16 - (length us + length ws)) 0 ++ ws))) none ≡ some bs → Ipv6 (a ++ (0x3A ∷ 0x3A ∷ t)) bs
    go false g h = let z : ◌≡◌ {A = ℕ} 0 1 = cc in absurd (omega arith)
    go true g h =
        let k : bs ≡ us ++ (replicate (16 - (length us + length ws)) 0 ++ ws) = cc in
        rw k (G.gap l (right_sound t ws e) (leb-true (length us + length ws) 14 g))

join_complete : (us : List ℕ) {t ws : List ℕ} → Right t ws → length us + length ws ≤ 14
    → join_of us (right_of t) ≡ some (us ++ (replicate (16 - (length us + length ws)) 0 ++ ws))
unfolding join_of
join_complete us {t} {ws} r h = rw (right_complete r (omega arith), le-leb (length us + length ws) 14 h)

-- ---- the whole text

whole_sound : (s bs : List ℕ) (r : Row) → row 8 s ≡ r → whole_of r ≡ some bs → Ipv6 s bs
unfolding whole_of
whole_sound s bs no_row e f = let z : ◌≡◌ {A = ℕ} 0 1 = cc in absurd (omega arith)
whole_sound s bs (ends cs) e f = go (eqb (length cs) 16) refl f
  where
    go : (x : Bool) → eqb (length cs) 16 ≡ x → cond x (some cs) none ≡ some bs → Ipv6 s bs
    go false g h = let z : ◌≡◌ {A = ℕ} 0 1 = cc in absurd (omega arith)
    go true g h = let k : bs ≡ cs = cc in rw k (G.whole (row_tail 8 s cs e) (eqb-true (length cs) 16 g))
whole_sound s bs (gap us t) e f = let k = row_split 8 s us t e in rw k.split (join_sound k.a us t bs (G.some k.groups) (right_of t) refl f)

two_colons : (l : List ℕ) → byte l 0 ≡ 0x3A → byte l 1 ≡ 0x3A → l ≡ 0x3A ∷ 0x3A ∷ drop 2 l
two_colons [] f g = absurd (omega arith)
two_colons (a ∷ []) f g = absurd (omega arith)
two_colons (a ∷ b ∷ l) f g = rw (f, g)

starts : (s : List ℕ) → starts_gap s ≡ true → s ≡ 0x3A ∷ 0x3A ∷ drop 2 s
unfolding starts_gap
starts s e = go (eqb (byte s 0) 0x3A) refl e
  where
    go : (x : Bool) → eqb (byte s 0) 0x3A ≡ x → cond x (eqb (byte s 1) 0x3A) false ≡ true → s ≡ 0x3A ∷ 0x3A ∷ drop 2 s
    go true f g = two_colons s (eqb-true (byte s 0) 0x3A f) (eqb-true (byte s 1) 0x3A g)
    go false f g = let z : ◌≡◌ {A = ℕ} 0 1 = cc in absurd (omega arith)

pub ipv6_sound : (s bs : List ℕ) → ipv6_of s ≡ some bs → Ipv6 s bs
unfolding ipv6_of
ipv6_sound s bs e = go (starts_gap s) refl e
  where
    go : (x : Bool) → starts_gap s ≡ x → cond x (join_of [] (right_of (drop 2 s))) (whole_of (row 8 s)) ≡ some bs → Ipv6 s bs
    go true f g = rw (starts s f) (join_sound [] [] (drop 2 s) bs G.none (right_of (drop 2 s)) refl g)
    go false f g = whole_sound s bs (row 8 s) refl g

no_start : (s : List ℕ) → eqb (byte s 0) 0x3A ≡ false → starts_gap s ≡ false
unfolding starts_gap
no_start s e = rw e

pub ipv6_complete : {s bs : List ℕ} → Ipv6 s bs → ipv6_of s ≡ some bs
unfolding ipv6_of whole_of starts_gap
ipv6_complete (G.whole {s} {bs} t l) = rw (no_start s (tail_head t), tail_complete t 8 (omega arith), eq-eqb (length bs) 16 l)
ipv6_complete (G.gap G.none r h) = join_complete [] r h
ipv6_complete (G.gap {a} {b} {us} {ws} (G.some g) r h) =
    rw (no_start (a ++ (0x3A ∷ 0x3A ∷ b)) (groups_head g (0x3A ∷ 0x3A ∷ b)), groups_complete g b 8 (omega arith)) (join_complete us r h)
