-- F-9: how a reader goes on by the first bytes of a text. A byte past the end is 0, which passes no test and is no mark.
use Prim.Native.Nat.{ℕ, zero, suc, ◌+◌, ◌<◌}
use native.Mathlib.Nat.{add-zero, zero-add, add_assoc, max-zero, zero-max}
use mathlib.Core.Path.{◌≡◌, refl, sym, ap, ◌∙◌}
use mathlib.Core.Bool.{Bool, true, false, cond}
use mathlib.Core.List.{List, [], ◌∷◌, ◌++◌, append_assoc}
use lib.ListN.{length, drop, get_or-eq_default}
use lib.Seq.{get_or-drop}
use lib.Dec.{eqb, leb}
use borrow.Author.Tests.{eq-eqb, ne_eqb, leb-true, leb-false, eqb-true, eqb-false}
use Rattle.protocol.specs.Bytes.{byte}
use Rattle.proxy_url_spec.specs.Reading.{Read, reads, dies, Reader, mapped, map, behind, onward, seq, always, either, or, common, word, one, consed, many}

-- the byte behind so many
pub byte_behind : (s : List ℕ) (n : ℕ) → byte (drop n s) 0 ≡ byte s n
byte_behind s n = get_or-drop n s 0 0 ∙ ap (byte s) (add-zero n)

-- a byte other than 0 stands within the text
pub byte_inside : (s : List ℕ) (n : ℕ) {m : ℕ} → (m ≡ 0 → ⊥) → byte s n ≡ m → n < length s
byte_inside s n f e = go (leb (length s) n) refl
  where
    go : (b : Bool) → leb (length s) n ≡ b → n < length s
    go true q = absurd (f (sym e ∙ get_or-eq_default s 0 (leb-true (length s) n q)))
    go false q = leb-false (length s) n q

eqb_other : (a b : ℕ) → eqb a b ≡ eqb b a
eqb_other a b = go (eqb a b) refl
  where
    go : (t : Bool) → eqb a b ≡ t → t ≡ eqb b a
    go true q = sym (eq-eqb b a (sym (eqb-true a b q)))
    go false q = sym (ne_eqb b a (λ e. eqb-false a b q (sym e)))

module _ {A : Type 0} where
  -- a mark
  pub mark_first : (m : ℕ) (v : A) (s : List ℕ) → (m ≡ 0 → ⊥) → word (m ∷ []) v s ≡ cond (eqb (byte s 0) m) (reads v 1) (dies 0)
  unfolding word common
  mark_first m v [] f = rw (ne_eqb 0 m (λ e. f (sym e)))
  mark_first m v (b ∷ s) f = go (eqb b m) (eqb_other m b)
    where
      go : (t : Bool) → eqb m b ≡ t → word (m ∷ []) v (b ∷ s) ≡ cond t (reads v 1) (dies 0)
      go true q = rw q
      go false q = rw q

  -- a byte that passes a test
  pub one_first : (test : ℕ → Bool) (value : ℕ → A) (s : List ℕ) → test 0 ≡ false → one test value s ≡ cond (test (byte s 0)) (reads (value (byte s 0)) 1) (dies 0)
  unfolding one
  one_first test value [] q = rw q
  one_first test value (b ∷ s) q = refl

  -- one of two readers dies at once
  either_left : (x : Read A) → either x (dies 0) ≡ x
  either_left (reads v n) = refl
  either_left (dies n) = ap dies (max-zero n)

  either_right : (y : Read A) → either (dies 0) y ≡ y
  either_right (reads v n) = refl
  either_right (dies n) = ap dies (zero-max n)

  module _ (F G : Reader A) (s : List ℕ) where
    pub or_left : G s ≡ dies 0 → or F G s ≡ F s
    unfolding or
    or_left q = rw q (either_left (F s))

    pub or_right : F s ≡ dies 0 → or F G s ≡ G s
    unfolding or
    or_right q = rw q (either_right (G s))

-- ---- so many of a field, and a mark

-- what was read, with bytes and so many places before it
abbrev pub ahead : List ℕ → ℕ → Read (List ℕ) → Read (List ℕ)
ahead us n (reads vs m) = reads (us ++ vs) (n + m)
ahead us n (dies m) = dies (n + m)

pub ahead_none : (x : Read (List ℕ)) → ahead [] 0 x ≡ x
ahead_none (reads vs m) = ap (reads vs) (zero-add m)
ahead_none (dies m) = ap dies (zero-add m)

pub ahead_more : (us : List ℕ) (n v m : ℕ) (x : Read (List ℕ)) → ahead (us ++ (v ∷ [])) (n + m) x ≡ ahead us n (ahead (v ∷ []) m x)
ahead_more us n v m (reads vs k) = rw (append_assoc us (v ∷ []) vs, add_assoc n m k)
ahead_more us n v m (dies k) = ap dies (add_assoc n m k)

module _ (F : Reader ℕ) (mark : ℕ) (some : mark ≡ 0 → ⊥) (s : List ℕ) where
  pub many_marked : (k : ℕ) → byte s 0 ≡ mark → many F mark k s ≡ reads [] 1
  unfolding many or
  many_marked zero e = rw (mark_first {A = List ℕ} mark [] s some, eq-eqb (byte s 0) mark e)
  many_marked (suc k) e = rw (mark_first {A = List ℕ} mark [] s some, eq-eqb (byte s 0) mark e)

  module _ (other : byte s 0 ≡ mark → ⊥) where
    no_mark : word {A = List ℕ} (mark ∷ []) [] s ≡ dies 0
    no_mark = rw (mark_first {A = List ℕ} mark [] s some, ne_eqb (byte s 0) mark other)

    pub many_full : many F mark zero s ≡ dies 0
    unfolding many
    many_full = no_mark

    many_on : (k : ℕ) → many F mark (suc k) s ≡ mapped consed (onward (F s) (always (many F mark k)) s)
    unfolding many map seq
    many_on k = or_right (word {A = List ℕ} (mark ∷ []) []) (map consed (seq F (always (many F mark k)))) s no_mark

    pub many_more : (k : ℕ) {v n : ℕ} → F s ≡ reads v n → many F mark (suc k) s ≡ ahead (v ∷ []) n (many F mark k (drop n s))
    many_more k {v} {n} q = many_on k ∙ rw q (go (many F mark k (drop n s)))
      where
        go : (x : Read (List ℕ)) → mapped consed (behind v n x) ≡ ahead (v ∷ []) n x
        go (reads vs m) = refl
        go (dies m) = refl

    pub many_dies : (k : ℕ) {n : ℕ} → F s ≡ dies n → many F mark (suc k) s ≡ dies n
    many_dies k q = many_on k ∙ rw q
