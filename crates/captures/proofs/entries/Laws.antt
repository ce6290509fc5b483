-- F-10: a capture's row by its first entry: none, one that runs past the end, or one that does not.
use Prim.Native.Nat.{ℕ, ◌≤◌, ◌<◌}
use native.Mathlib.Omega.{arith}
use mathlib.Core.Path.{◌≡◌, refl, ap, sym, ◌∙◌}
use mathlib.Core.Logic.{◌⊎◌, inl, inr}
use mathlib.Core.Bool.{Bool, true, false}
use mathlib.Core.List.{List, [], ◌∷◌}
use lib.ListN.{length, take, drop}
use lib.Dec.{leb}
use borrow.Author.Tests.{le-leb, lt-leb, leb-true, leb-false}
use Rattle.std.specs.Prelude.{Option, None, Some, is_none}
use Rattle.protocol.specs.Bytes.{byte}
use Rattle.captures_spec.specs.declared.Direction.{Direction}
use Rattle.captures_spec.specs.Captures.{Entry, entry}
use Rattle.captures_spec.specs.Reading.{direction_by, length_by, ahead, row_of}
use Rattle.captures_spec.proofs.Rows.{row_first}
use Rattle.captures.specs.Calls.{whole}

-- ---- whether there is a row

pub there_is : {A : Type 0} (o : Option A) → is_none o ≡ false → (a : A) × (o ≡ Some a)
there_is None e = let z : ◌≡◌ {A = ℕ} 0 1 = cc in absurd (omega arith)
there_is (Some a) e = (a, refl)

pub there_is_none : {A : Type 0} (o : Option A) → is_none o ≡ true → o ≡ None
there_is_none None e = refl
there_is_none (Some a) e = let z : ◌≡◌ {A = ℕ} 0 1 = cc in absurd (omega arith)

pub behind_ahead : (e : Entry) (o : Option (List Entry)) (es : List Entry) → ahead e o ≡ Some es → (rest : List Entry) × (o ≡ Some rest) × (es ≡ e ∷ rest)
behind_ahead e None es q = cc
behind_ahead e (Some rest) es q = (rest, refl, cc)

pub whole_ahead : (e : Entry) (o : Option (List Entry)) → whole (ahead e o) ≡ whole o
whole_ahead e None = refl
whole_ahead e (Some es) = refl

pub at_most : (a b : ℕ) → (a ≤ b) ⊎ (b < a)
at_most a b = go (leb a b) refl
  where
    go : (t : Bool) → leb a b ≡ t → (a ≤ b) ⊎ (b < a)
    go true e = inl (leb-true a b e)
    go false e = inr (leb-false a b e)

-- ---- the first entry, and what is behind it

pub row_short : (c : List ℕ) → length c < 2 → (c ≡ [] → ⊥) → row_of c ≡ None
row_short [] h f = absurd (f refl)
row_short (b ∷ []) h f = row_first (b ∷ [])
row_short (b ∷ l ∷ bs) h f = absurd (omega arith)

pub no_bytes : (c : List ℕ) → length c ≡ 0 → c ≡ []
no_bytes [] e = refl
no_bytes (b ∷ bs) e = absurd (omega arith)

-- where there is no entry there are no bytes, or no row
pub row_end : (c : List ℕ) → ((c ≡ [] → ⊥) → row_of c ≡ None) → (es : List Entry) → row_of c ≡ Some es → es ≡ []
row_end [] f es q = let e = row_first [] in cc
row_end (b ∷ bs) f es q = let e = f (λ z. cc) in cc

module _ (b l : ℕ) (bs : List ℕ) where
  pub row_past : length bs < length_by b l → row_of (b ∷ l ∷ bs) ≡ None
  row_past h = row_first (b ∷ l ∷ bs) ∙ rw (lt-leb (length_by b l) (length bs) h)

  pub row_next : length_by b l ≤ length bs → row_of (b ∷ l ∷ bs) ≡ ahead (entry (direction_by b) (take (length_by b l) bs)) (row_of (drop (length_by b l) bs))
  row_next h = row_first (b ∷ l ∷ bs) ∙ rw (le-leb (length_by b l) (length bs) h)

-- with its two bytes ahead
module _ (c : List ℕ) (h : 2 ≤ length c) where
  two_ahead : c ≡ byte c 0 ∷ (byte c 1 ∷ drop 2 c)
  two_ahead = go c h
    where
      go : (c : List ℕ) → 2 ≤ length c → c ≡ byte c 0 ∷ (byte c 1 ∷ drop 2 c)
      go [] h = absurd (omega arith)
      go (b ∷ []) h = absurd (omega arith)
      go (b ∷ l ∷ bs) h = refl

  pub past_end : length (drop 2 c) < length_by (byte c 0) (byte c 1) → row_of c ≡ None
  past_end q = ap row_of two_ahead ∙ row_past (byte c 0) (byte c 1) (drop 2 c) q

  pub next_entry : {d : Direction} {bs behind : List ℕ} → d ≡ direction_by (byte c 0) → length_by (byte c 0) (byte c 1) ≤ length (drop 2 c)
      → bs ≡ take (length_by (byte c 0) (byte c 1)) (drop 2 c) → behind ≡ drop (length_by (byte c 0) (byte c 1)) (drop 2 c) → row_of c ≡ ahead (entry d bs) (row_of behind)
  next_entry p q f r = ap row_of two_ahead ∙ row_next (byte c 0) (byte c 1) (drop 2 c) q ∙ (λ i. ahead (entry (sym p i) (sym f i)) (row_of (sym r i)))

-- ---- a row of entries: one entry, and a row behind it

abbrev size : List ℕ → ℕ
size c = length_by (byte c 0) (byte c 1)

pub record Entered (c : List ℕ) (es : List Entry) : Type 0 where
  pub two : 2 ≤ length c
  pub within : size c ≤ length (drop 2 c)
  pub rest : List Entry
  pub is_row : row_of (drop (size c) (drop 2 c)) ≡ Some rest
  pub are : es ≡ entry (direction_by (byte c 0)) (take (size c) (drop 2 c)) ∷ rest

pub row_some : (c : List ℕ) → (c ≡ [] → ⊥) → (es : List Entry) → row_of c ≡ Some es → Entered c es
row_some c f es q = two_or (at_most 2 (length c))
  where
    never : row_of c ≡ None → Entered c es
    never e = let k : None ≡ Some es = sym e ∙ q in absurd (cc)

    all_or : 2 ≤ length c → (size c ≤ length (drop 2 c)) ⊎ (length (drop 2 c) < size c) → Entered c es
    all_or h (inl l) =
        let (rest, r, z) = behind_ahead (entry (direction_by (byte c 0)) (take (size c) (drop 2 c))) (row_of (drop (size c) (drop 2 c))) es (sym (next_entry c h refl l refl refl) ∙ q) in
        record { two = h; within = l; rest = rest; is_row = r; are = z }
    all_or h (inr l) = never (past_end c h l)

    two_or : (2 ≤ length c) ⊎ (length c < 2) → Entered c es
    two_or (inl h) = all_or h (at_most (size c) (length (drop 2 c)))
    two_or (inr h) = never (row_short c h f)
