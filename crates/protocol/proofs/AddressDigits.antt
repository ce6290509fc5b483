-- Digits of the grammar and digits read: what a run of digits takes, the grammar makes, and the other way round.
use mathlib.Core.Path.{◌≡◌, refl, sym, ap, ◌∙◌}
use mathlib.Core.List.{List, [], ◌∷◌, ◌++◌, append_assoc, append-nil}
use mathlib.Core.Bool.{Bool, true, false, cond, false≢true}
use Prim.Native.Nat.{ℕ, zero, suc, ◌+◌, ◌-◌, ◌*◌, ◌≤◌, ◌<◌}
use native.Mathlib.Numerals.{add-one}
use native.Mathlib.Omega.{arith}
use lib.Dec.{ltb, eqb}
use lib.ListN.{length, take, drop, length-append}
use lib.Seq.{take_at, split_at, drop-append-add, get_or-append_seam}
use borrow.Author.Tests.{lt-ltb, le-ltb, eq-eqb, ne_eqb, ltb-true, ltb-false, eqb-true, eqb-false}
use Rattle.protocol.specs.declared.Digits.{Digits}
use Rattle.protocol.specs.Bytes.{byte}
use Rattle.protocol.specs.AddressText as G
use Rattle.protocol.specs.AddressText.{Decimal, Hex, digit, upper, lower, Number, Group}
use Rattle.protocol.specs.AddressReading.{hex_value, digits_from, decimal_goes, hex_goes, number_of, group_of, mark_at}

-- ---- one digit

pub hex_value_lem : {b d : ℕ} → Hex b d → hex_value b ≡ d
unfolding hex_value
hex_value_lem {b} {d} (digit x) = let s = x.small in let e = x.is in rw (le-ltb b 0x30 (omega arith), lt-ltb b 0x3A (omega arith)) (omega arith)
hex_value_lem {b} {d} (upper l h e) =
    rw (le-ltb b 0x30 (omega arith), le-ltb b 0x3A (omega arith), le-ltb b 0x41 (omega arith), lt-ltb b 0x47 (omega arith)) (omega arith)
hex_value_lem {b} {d} (lower l h e) =
    rw (
      le-ltb b 0x30 (omega arith),
      le-ltb b 0x3A (omega arith),
      le-ltb b 0x41 (omega arith),
      le-ltb b 0x47 (omega arith),
      le-ltb b 0x61 (omega arith),
      lt-ltb b 0x67 (omega arith),
    )
    (omega arith)

abbrev by : ℕ → Bool → Bool → Bool → Bool → Bool → Bool → ℕ
by b t u v w x y = cond t 16 (cond u (b - 0x30) (cond v 16 (cond w (b - 0x37) (cond x 16 (cond y (b - 0x57) 16)))))

pub value_hex : (b : ℕ) → hex_value b ≤ 15 → Hex b (hex_value b)
unfolding hex_value
value_hex b = go (ltb b 0x30) (ltb b 0x3A) (ltb b 0x41) (ltb b 0x47) (ltb b 0x61) (ltb b 0x67) refl refl refl refl refl refl
  where
    go : (t u v w x y : Bool) → ltb b 0x30 ≡ t → ltb b 0x3A ≡ u → ltb b 0x41 ≡ v → ltb b 0x47 ≡ w → ltb b 0x61 ≡ x → ltb b 0x67 ≡ y
        → by b t u v w x y ≤ 15 → Hex b (by b t u v w x y)
    go true u v w x y e f g h i j k = absurd (omega arith)
    go false true v w x y e f g h i j k =
        let l = ltb-false b 0x30 e in let m = ltb-true b 0x3A f in digit (record { small = omega arith; is = omega arith })
    go false false true w x y e f g h i j k = absurd (omega arith)
    go false false false true x y e f g h i j k =
        let l = ltb-false b 0x41 g in let m = ltb-true b 0x47 h in upper (omega arith) (omega arith) (omega arith)
    go false false false false true y e f g h i j k = absurd (omega arith)
    go false false false false false true e f g h i j k =
        let l = ltb-false b 0x61 i in let m = ltb-true b 0x67 j in lower (omega arith) (omega arith) (omega arith)
    go false false false false false false e f g h i j k = absurd (omega arith)

pub decimal_of : {b d : ℕ} → Hex b d → d ≤ 9 → Decimal b d
decimal_of (digit x) h = x
decimal_of (upper l k e) h = absurd (omega arith)
decimal_of (lower l k e) h = absurd (omega arith)

pub hex_small : {b d : ℕ} → Hex b d → d ≤ 15
hex_small (digit x) = let s = x.small in omega arith
hex_small (upper l h e) = h
hex_small (lower l h e) = h

-- ---- which digits may follow

pub record DecimalGoes (v n d : ℕ) : Type 0 where
  pub small : d ≤ 9
  pub fits : v * 10 + d ≤ 255
  pub fresh : v ≡ 0 → n ≡ 0

pub decimal_goes_lem : (v n d : ℕ) → decimal_goes v n d ≡ true → DecimalGoes v n d
unfolding decimal_goes
decimal_goes_lem v n d e = go (ltb d 10) refl (eqb v 0) refl e
  where
    go : (t : Bool) → ltb d 10 ≡ t → (u : Bool) → eqb v 0 ≡ u → cond t (cond u (eqb n 0) (ltb (v * 10 + d) 256)) false ≡ true → DecimalGoes v n d
    go true l true z g = let h = ltb-true d 10 l in let y = eqb-true v 0 z in record { small = omega arith; fits = omega arith; fresh = λ _. eqb-true n 0 g }
    go true l false z g =
        let h = ltb-true d 10 l in
        let f = ltb-true (v * 10 + d) 256 g in
        record { small = omega arith; fits = omega arith; fresh = λ y. absurd (eqb-false v 0 z y) }
    go false l u z g = absurd (false≢true g)

pub record HexGoes (n d : ℕ) : Type 0 where
  pub small : d ≤ 15
  pub few : n ≤ 3

pub hex_goes_lem : (v n d : ℕ) → hex_goes v n d ≡ true → HexGoes n d
unfolding hex_goes
hex_goes_lem v n d e = go (ltb d 16) refl e
  where
    go : (t : Bool) → ltb d 16 ≡ t → cond t (ltb n 4) false ≡ true → HexGoes n d
    go true l g = let h = ltb-true d 16 l in let f = ltb-true n 4 g in record { small = omega arith; few = omega arith }
    go false l g = absurd (false≢true g)

decimal_first : (d : ℕ) → d ≤ 9 → decimal_goes 0 0 d ≡ true
unfolding decimal_goes
decimal_first d h = rw (lt-ltb d 10 (omega arith))

decimal_later : (v n d : ℕ) → 1 ≤ v → d ≤ 9 → v * 10 + d ≤ 255 → decimal_goes v n d ≡ true
unfolding decimal_goes
decimal_later v n d l h m = rw (lt-ltb d 10 (omega arith), ne_eqb v 0 (λ e. absurd (omega arith)), lt-ltb (v * 10 + d) 256 (omega arith))

hex_more : (v n d : ℕ) → n ≤ 3 → d ≤ 15 → hex_goes v n d ≡ true
unfolding hex_goes
hex_more v n d l h = rw (lt-ltb d 16 (omega arith), lt-ltb n 4 (omega arith))

-- ---- the grammar's digits are taken

pub digits_on : (ok : ℕ → ℕ → ℕ → Bool) (base v n b : ℕ) (s : List ℕ) {d : ℕ} → hex_value b ≡ d → ok v n d ≡ true
    → digits_from ok base v n (b ∷ s) ≡ digits_from ok base (v * base + d) (n + 1) s
unfolding digits_from
digits_on ok base v n b s e g = rw (e, g)

number_runs : {p : List ℕ} {v : ℕ} → Number p v → (s : List ℕ) → digits_from decimal_goes 10 0 0 (p ++ s) ≡ digits_from decimal_goes 10 v (length p) s
number_runs (G.one {a} {d} x) s =
    let e : 0 * 10 + d ≡ d = omega arith in
    rw e at (digits_on decimal_goes 10 0 0 a s (hex_value_lem (digit x)) (decimal_first d x.small))
number_runs (G.more {p} {v} {a} {d} n l x m) s =
    rw (append_assoc p (a ∷ []) s, length-append p (a ∷ []))
    (number_runs n (a ∷ s) ∙ digits_on decimal_goes 10 v (length p) a s (hex_value_lem (digit x)) (decimal_later v (length p) d l x.small m))

group_runs : {p : List ℕ} {v : ℕ} → Group p v → (s : List ℕ) → digits_from hex_goes 16 0 0 (p ++ s) ≡ digits_from hex_goes 16 v (length p) s
group_runs (G.one {a} {d} x) s =
    let e : 0 * 16 + d ≡ d = omega arith in
    rw e at (digits_on hex_goes 16 0 0 a s (hex_value_lem x) (hex_more 0 0 d (omega arith) (hex_small x)))
group_runs (G.more {p} {v} {a} {d} n l x) s =
    rw (append_assoc p (a ∷ []) s, length-append p (a ∷ []))
    (group_runs n (a ∷ s) ∙ digits_on hex_goes 16 v (length p) a s (hex_value_lem x) (hex_more v (length p) d l (hex_small x)))

-- a text that no digit begins
pub data Stops : List ℕ → Type 0 where
  end : Stops []
  mark : {b : ℕ} {s : List ℕ} → hex_value b ≡ 16 → Stops (b ∷ s)

digits_stop : (ok : ℕ → ℕ → ℕ → Bool) (base v n : ℕ) {s : List ℕ} → ok v n 16 ≡ false → Stops s → digits_from ok base v n s ≡ record { count = n; value = v }
unfolding digits_from
digits_stop ok base v n e end = refl
digits_stop ok base v n e (mark m) = rw (m, e)

pub number_reads : {p s : List ℕ} {v : ℕ} → Number p v → Stops s → number_of (p ++ s) ≡ record { count = length p; value = v }
unfolding number_of decimal_goes
number_reads {p} {s} {v} n e = number_runs n s ∙ digits_stop decimal_goes 10 v (length p) refl e

pub group_reads : {p s : List ℕ} {v : ℕ} → Group p v → Stops s → group_of (p ++ s) ≡ record { count = length p; value = v }
unfolding group_of hex_goes
group_reads {p} {s} {v} n e = group_runs n s ∙ digits_stop hex_goes 16 v (length p) refl e

pub number_long : {p : List ℕ} {v : ℕ} → Number p v → 1 ≤ length p
number_long (G.one x) = omega arith
number_long (G.more {p} {v} {a} n l x m) = rw (length-append p (a ∷ [])) (omega arith)

pub group_long : {p : List ℕ} {v : ℕ} → Group p v → 1 ≤ length p
group_long (G.one x) = omega arith
group_long (G.more {p} {v} {a} n l x) = rw (length-append p (a ∷ [])) (omega arith)

-- ---- the digits taken are of the grammar

-- digits q of the text, behind p, that the grammar makes with p
pub record Took (P : List ℕ → ℕ → Type 0) (p s : List ℕ) (r : Digits) : Type 0 where
  pub q : List ℕ
  pub rest : List ℕ
  pub split : s ≡ q ++ rest
  pub count : r.count ≡ length (p ++ q)
  pub made : P (p ++ q) r.value

module _ (ok : ℕ → ℕ → ℕ → Bool) (base : ℕ) (P : List ℕ → ℕ → Type 0)
    (first : (b : ℕ) → ok 0 0 (hex_value b) ≡ true → P (b ∷ []) (0 * base + hex_value b))
    (next : (p : List ℕ) (v b : ℕ) → P p v → ok v (length p) (hex_value b) ≡ true → P (p ++ (b ∷ [])) (v * base + hex_value b)) where
  nothing : (p s : List ℕ) (v : ℕ) → P p v → Took P p s (record { count = length p; value = v })
  nothing p s v m = record { q = []; rest = s; split = refl; count = ap length (sym (append-nil p)); made = rw append-nil m }

  more_took : (p s : List ℕ) (b : ℕ) (r : Digits) → Took P (p ++ (b ∷ [])) s r → Took P p (b ∷ s) r
  more_took p s b r t =
      record {
        q = b ∷ t.q;
        rest = t.rest;
        split = ap (λ (l : List ℕ). b ∷ l) t.split;
        count = t.count ∙ ap length (append_assoc p (b ∷ []) t.q);
        made = rw (append_assoc p (b ∷ []) t.q) at t.made;
      }

  took : (p s : List ℕ) (v : ℕ) → P p v → Took P p s (digits_from ok base v (length p) s)
  unfolding digits_from
  took p [] v m = nothing p [] v m
  took p (b ∷ s) v m =
      go (ok v (length p) (hex_value b)) refl
      (λ e. rw (length-append p (b ∷ [])) at (took (p ++ (b ∷ [])) s (v * base + hex_value b) (next p v b m e)))
    where
      go : (t : Bool) → ok v (length p) (hex_value b) ≡ t
          → (ok v (length p) (hex_value b) ≡ true → Took P (p ++ (b ∷ [])) s (digits_from ok base (v * base + hex_value b) (length p + 1) s))
          → Took P p (b ∷ s) (cond t (digits_from ok base (v * base + hex_value b) (length p + 1) s) (record { count = length p; value = v }))
      go true e f = more_took p s b (digits_from ok base (v * base + hex_value b) (length p + 1) s) (f e)
      go false e f = nothing p (b ∷ s) v m

  pub taken : (s : List ℕ) → ((digits_from ok base 0 0 s).count ≡ 0 → ⊥) → Took P [] s (digits_from ok base 0 0 s)
  unfolding digits_from
  taken [] h = absurd (h refl)
  taken (b ∷ s) h = go (ok 0 0 (hex_value b)) refl h
    where
      go : (t : Bool) → ok 0 0 (hex_value b) ≡ t
          → ((cond t (digits_from ok base (0 * base + hex_value b) (0 + 1) s) (record { count = 0; value = 0 })).count ≡ 0 → ⊥)
          → Took P [] (b ∷ s) (cond t (digits_from ok base (0 * base + hex_value b) (0 + 1) s) (record { count = 0; value = 0 }))
      go true e f = more_took [] s b (digits_from ok base (0 * base + hex_value b) (0 + 1) s) (took (b ∷ []) s (0 * base + hex_value b) (first b e))
      go false e f = absurd (f refl)

number_first : (b : ℕ) → decimal_goes 0 0 (hex_value b) ≡ true → Number (b ∷ []) (0 * 10 + hex_value b)
number_first b e =
    let h = (decimal_goes_lem 0 0 (hex_value b) e).small in
    let z : 0 * 10 + hex_value b ≡ hex_value b = omega arith in
    rw z (G.one (decimal_of (value_hex b (omega arith)) h))

pub positive : (w : ℕ) → (w ≡ 0 → ⊥) → 1 ≤ w
positive zero f = absurd (f refl)
positive (suc w) f = omega arith

number_next : (p : List ℕ) (v b : ℕ) → Number p v → decimal_goes v (length p) (hex_value b) ≡ true → Number (p ++ (b ∷ [])) (v * 10 + hex_value b)
number_next p v b n e =
    let g = decimal_goes_lem v (length p) (hex_value b) e in
    let h = g.small in
    let l = number_long n in
    G.more n (positive v (λ z. absurd (let f = g.fresh z in omega arith))) (decimal_of (value_hex b (omega arith)) h) g.fits

pub number_taken : (s : List ℕ) → ((number_of s).count ≡ 0 → ⊥) → Took Number [] s (number_of s)
unfolding number_of
number_taken s h = taken decimal_goes 10 Number number_first number_next s h

group_first : (b : ℕ) → hex_goes 0 0 (hex_value b) ≡ true → Group (b ∷ []) (0 * 16 + hex_value b)
group_first b e =
    let z : 0 * 16 + hex_value b ≡ hex_value b = omega arith in
    rw z (G.one (value_hex b (hex_goes_lem 0 0 (hex_value b) e).small))

group_next : (p : List ℕ) (v b : ℕ) → Group p v → hex_goes v (length p) (hex_value b) ≡ true → Group (p ++ (b ∷ [])) (v * 16 + hex_value b)
group_next p v b n e = let g = hex_goes_lem v (length p) (hex_value b) e in G.more n g.few (value_hex b g.small)

pub group_taken : (s : List ℕ) → ((group_of s).count ≡ 0 → ⊥) → Took Group [] s (group_of s)
unfolding group_of
group_taken s h = taken hex_goes 16 Group group_first group_next s h

-- ---- a mark behind the digits

pub record Mark (m : ℕ) (s : List ℕ) (n : ℕ) : Type 0 where
  pub some_digits : n ≡ 0 → ⊥
  pub inside : n < length s
  pub is : byte s n ≡ m

pub mark_is : (m : ℕ) (s : List ℕ) (n : ℕ) → mark_at m s n ≡ true → Mark m s n
unfolding mark_at
mark_is m s n e = go (eqb n 0) (ltb n (length s)) refl refl e
  where
    go : (t u : Bool) → eqb n 0 ≡ t → ltb n (length s) ≡ u → cond t false (cond u (eqb (byte s n) m) false) ≡ true → Mark m s n
    go true u d f g = absurd (false≢true g)
    go false true d f g = record { some_digits = eqb-false n 0 d; inside = ltb-true n (length s) f; is = eqb-true (byte s n) m g }
    go false false d f g = absurd (false≢true g)

-- the mark that the grammar puts there is found, and what is behind it
pub marks : (m : ℕ) (p s : List ℕ) → 1 ≤ length p → mark_at m (p ++ (m ∷ s)) (length p) ≡ true
unfolding mark_at
marks m p s h =
    let l : length p < length (p ++ (m ∷ s)) = simp length-append (omega arith) in
    rw (ne_eqb (length p) 0 (λ e. absurd (omega arith)), lt-ltb (length p) (length (p ++ (m ∷ s))) l, get_or-append_seam p m s 0)
    (eq-eqb m m refl)

pub behind : (m : ℕ) (p s : List ℕ) → drop (length p + 1) (p ++ (m ∷ s)) ≡ s
behind m p s = drop-append-add p (m ∷ s) 1

-- digits that were taken, and a mark
pub record Marked (P : List ℕ → ℕ → Type 0) (m : ℕ) (s : List ℕ) (r : Digits) : Type 0 where
  pub q : List ℕ
  pub made : P q r.value
  pub split : s ≡ q ++ (m ∷ drop (r.count + 1) s)

pub marked : (P : List ℕ → ℕ → Type 0) (m : ℕ) (s : List ℕ) (r : Digits) → Took P [] s r → Mark m s r.count → Marked P m s r
marked P m s r t k =
    record {
      q = t.q;
      made = t.made;
      split =
          let e : take r.count s ≡ t.q = rw t.split (take_at t.q t.rest r.count (sym t.count)) in
          split_at s r.count 0 k.inside ∙ rw (e, k.is, add-one);
    }

no_more : (l : List ℕ) → length l ≡ 0 → l ≡ []
no_more [] h = refl
no_more (a ∷ l) h = absurd (omega arith)

-- all of the text was taken
pub ended : (P : List ℕ → ℕ → Type 0) (s : List ℕ) (r : Digits) → Took P [] s r → r.count ≡ length s → P s r.value
ended P s r t e =
    let l : length s ≡ length t.q + length t.rest = ap length t.split ∙ length-append t.q t.rest in
    let k = t.count in
    rw (t.split, no_more t.rest (omega arith), append-nil) t.made
