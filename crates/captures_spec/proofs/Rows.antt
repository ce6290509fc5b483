-- F-10: there is one reading of a capture: it is one row of entries, or an entry of it runs past the end.
use Prim.Native.Nat.{ℕ, zero, suc, ◌+◌, ◌/◌, ◌%◌, ◌≤◌, ◌<◌}
use native.Mathlib.Nat.{le_refl}
use native.Mathlib.Omega.{arith}
use mathlib.Core.Path.{◌≡◌, refl, ap, sym, subst, ◌∙◌}
use mathlib.Core.Logic.{inl, inr}
use mathlib.Core.Bool.{Bool, true, false, cond}
use Rattle.std.specs.Prelude.{Option, None, Some}
use mathlib.Core.List.{List, [], ◌∷◌, ◌++◌}
use lib.ListN.{length, take, drop, length-append, length-drop, take-append-drop}
use lib.Seq.{take-append_seam, drop-append_seam, get_or-drop, length-take-le}
use lib.Dec.{leb}
use borrow.Author.Tests.{le-leb, lt-leb, leb-true, leb-false}
use Rattle.protocol.specs.Bytes.{Bytes}
use Rattle.captures_spec.specs.Captures.{Direction, sent, received, Entry, entry, top_bit, header, Row, RunsPast, OneReading}
use Rattle.captures_spec.specs.Captures as C
use Rattle.captures_spec.specs.Reading.{direction_by, length_by, ahead, first, row_within, row_of}

-- ---- the number of entries that are allowed does not matter

first_same : (c : List ℕ) (on on' : List ℕ → Option (List Entry)) → ((more : List ℕ) → length more < length c → on more ≡ on' more) → first c on ≡ first c on'
first_same [] on on' h = refl
first_same (b ∷ []) on on' h = refl
first_same (b ∷ l ∷ bs) on on' h = rw (h (drop (length_by b l) bs) (omega (arith, length-drop (length_by b l) bs)))

within_same : (n m : ℕ) (c : List ℕ) → length c ≤ n → length c ≤ m → row_within n c ≡ row_within m c
unfolding row_within
within_same zero zero c p q = refl
within_same zero (suc m) c p q = first_same c (λ more. None) (row_within m) (λ more l. absurd (omega arith))
within_same (suc n) zero c p q = first_same c (row_within n) (λ more. None) (λ more l. absurd (omega arith))
within_same (suc n) (suc m) c p q = first_same c (row_within n) (row_within m) (λ more l. within_same n m more (omega arith) (omega arith))

pub row_first : (c : List ℕ) → row_of c ≡ first c row_of
unfolding row_of row_within
row_first [] = refl
row_first (b ∷ bs) = first_same (b ∷ bs) (row_within (length bs)) row_of (λ more l. within_same (length bs) (length more) more (omega arith) (le_refl (length more)))

-- ---- an entry's two bytes

length_of : (d : Direction) (n : ℕ) → n ≤ 32767 → length_by ((top_bit d + n) / 256) ((top_bit d + n) % 256) ≡ n
length_of sent n h = omega arith
length_of received n h = omega arith

direction_of : (d : Direction) (n : ℕ) → n ≤ 32767 → direction_by ((top_bit d + n) / 256) ≡ d
direction_of sent n h = rw (lt-leb 128 ((0 + n) / 256) (omega arith))
direction_of received n h = rw (le-leb 128 ((32768 + n) / 256) (omega arith))

length_small : (b l : ℕ) → b ≤ 255 → l ≤ 255 → length_by b l ≤ 32767
length_small b l p q = omega arith

header_of : (b l : ℕ) → b ≤ 255 → l ≤ 255 → header (direction_by b) (length_by b l) ≡ b ∷ l ∷ []
header_of b l p q = go (leb 128 b) refl
  where
    two_of : (d : Direction) → (top_bit d + length_by b l) / 256 ≡ b → (top_bit d + length_by b l) % 256 ≡ l → header d (length_by b l) ≡ b ∷ l ∷ []
    two_of d x y = λ i. x i ∷ y i ∷ []

    go : (t : Bool) → leb 128 b ≡ t → header (cond t received sent) (length_by b l) ≡ b ∷ l ∷ []
    go true e = let h = leb-true 128 b e in two_of received (omega arith) (omega arith)
    go false e = let h = leb-false 128 b e in two_of sent (omega arith) (omega arith)

-- ---- a row is read as itself

first_entry : (d : Direction) (bs more : List ℕ) (on : List ℕ → Option (List Entry)) → length bs ≤ 32767 → first (header d (length bs) ++ (bs ++ more)) on ≡ ahead (entry d bs) (on more)
first_entry d bs more on h =
    rw (length_of d (length bs) h, direction_of d (length bs) h, le-leb (length bs) (length (bs ++ more)) (omega (arith, length-append bs more)), take-append_seam, drop-append_seam)

pub row_is : {c : List ℕ} {es : List Entry} → Row c es → row_of c ≡ Some es
row_is C.none = row_first []
row_is (C.next d bs {more} h r) = row_first _ ∙ first_entry d bs more row_of h ∙ ap (ahead (entry d bs)) (row_is r)

pub past_is : {c : List ℕ} → RunsPast c → row_of c ≡ None
past_is (C.header_cut b) = row_first (b ∷ [])
past_is (C.bytes_cut d n bs h l) = row_first _ ∙ rw (length_of d n h, lt-leb n (length bs) l)
past_is (C.next d bs {more} h r) = row_first _ ∙ first_entry d bs more row_of h ∙ ap (ahead (entry d bs)) (past_is r)

-- ---- and nothing else is

-- what the bytes are
pub data Reads : List ℕ → Option (List Entry) → Type 0 where
  is_row : {c : List ℕ} {es : List Entry} → Row c es → Reads c (Some es)
  is_past : {c : List ℕ} → RunsPast c → Reads c None

reads_next : (d : Direction) (bs more : List ℕ) (r : Option (List Entry)) → length bs ≤ 32767 → Reads more r → Reads (header d (length bs) ++ (bs ++ more)) (ahead (entry d bs) r)
reads_next d bs more _ h (is_row x) = is_row (C.next d bs h x)
reads_next d bs more _ h (is_past x) = is_past (C.next d bs h x)

reads_first : (c : List ℕ) (on : List ℕ → Option (List Entry)) → Bytes c → ((more : List ℕ) → length more < length c → Bytes more → Reads more (on more)) → Reads c (first c on)
reads_first [] on y f = is_row C.none
reads_first (b ∷ []) on y f = is_past (C.header_cut b)
reads_first (b ∷ l ∷ bs) on y f = go (leb n (length bs)) refl
  where
    n : ℕ
    n = length_by b l

    head : header (direction_by b) n ≡ b ∷ l ∷ []
    head = header_of b l (y 0) (y 1)

    go : (t : Bool) → leb n (length bs) ≡ t → Reads (b ∷ l ∷ bs) (cond t (ahead (entry (direction_by b) (take n bs)) (on (drop n bs))) None)
    go true e =
        let long = length-take-le n bs (leb-true n (length bs) e) in
        let small = length_small b l (y 0) (y 1) in
        let whole : header (direction_by b) (length (take n bs)) ++ (take n bs ++ drop n bs) ≡ b ∷ l ∷ bs = (λ i. header (direction_by b) (long i) ++ take-append-drop n bs i) ∙ ap (λ (h : List ℕ). h ++ bs) head in
        subst (λ (c : List ℕ). Reads c (ahead (entry (direction_by b) (take n bs)) (on (drop n bs)))) whole
        (reads_next (direction_by b) (take n bs) (drop n bs) (on (drop n bs)) (rw long small)
        (f (drop n bs) (omega (arith, length-drop n bs)) (λ i. rw (get_or-drop n bs i 0) (y (suc (suc (n + i)))))))
    go false e =
        let whole : header (direction_by b) n ++ bs ≡ b ∷ l ∷ bs = ap (λ (h : List ℕ). h ++ bs) head in
        subst (λ (c : List ℕ). Reads c None) whole (is_past (C.bytes_cut (direction_by b) n bs (length_small b l (y 0) (y 1)) (leb-false n (length bs) e)))

reads_within : (n : ℕ) (c : List ℕ) → length c ≤ n → Bytes c → Reads c (row_of c)
reads_within zero c h y = rw (row_first c) (reads_first c row_of y (λ more l z. absurd (omega arith)))
reads_within (suc n) c h y = rw (row_first c) (reads_first c row_of y (λ more l z. reads_within n more (omega arith) z))

pub reads : (c : List ℕ) → Bytes c → Reads c (row_of c)
reads c y = reads_within (length c) c (le_refl (length c)) y

-- ---- one reading

some_same : {x y : List Entry} → ◌≡◌ {A = Option (List Entry)} (Some x) (Some y) → x ≡ y
some_same e = cc

none_some : {x : List Entry} → ◌≡◌ {A = Option (List Entry)} None (Some x) → ⊥
none_some e = let z : ◌≡◌ {A = ℕ} 0 1 = cc in absurd (omega arith)

pub one_row : {c : List ℕ} {es fs : List Entry} → Row c es → Row c fs → es ≡ fs
one_row x y = some_same (sym (row_is x) ∙ row_is y)

pub never_both : {c : List ℕ} {es : List Entry} → Row c es → RunsPast c → ⊥
never_both x y = none_some (sym (past_is y) ∙ row_is x)

pub one_reading : (c : List ℕ) → Bytes c → OneReading c
one_reading c y = go (row_of c) (reads c y)
  where
    go : (r : Option (List Entry)) → Reads c r → OneReading c
    go _ (is_row {es = es} x) = inl (es, x, (λ fs z. one_row z x), never_both x)
    go _ (is_past x) = inr (x, λ es z. never_both z x)
