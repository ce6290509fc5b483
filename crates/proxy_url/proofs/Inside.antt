-- F-9: no reader goes past the text's end, and what is counted of a value stays within what was read.
use Prim.Native.Nat.{ℕ, zero, suc, ◌+◌, ◌≤◌}
use native.Mathlib.Omega.{arith}
use mathlib.Core.Path.{◌≡◌, refl}
use mathlib.Core.Bool.{Bool, true, false, cond}
use mathlib.Core.List.{List, [], ◌∷◌}
use lib.ListN.{length, drop, length-drop}
use lib.Dec.{eqb}
use borrow.Author.Tests.{eqb-true}
use Rattle.proxy_url_spec.specs.Reading.{Read, reads, dies, Reader, mapped, map, behind, onward, seq, always, either, or, common, word, one, consed, many}

module _ {A : Type 0} (size : A → ℕ) where
  abbrev pub Bounded : Read A → ℕ → Type 0
  Bounded (reads v n) l = (size v ≤ n) × (n ≤ l)
  Bounded (dies n) l = n ≤ l

  abbrev pub Inside : Reader A → Type 0
  Inside F = (s : List ℕ) → Bounded (F s) (length s)

  pub bounded_cond : (b : Bool) (x y : Read A) (l : ℕ) → (b ≡ true → Bounded x l) → Bounded y l → Bounded (cond b x y) l
  bounded_cond true x y l h k = h refl
  bounded_cond false x y l h k = k

  bounded_or : (x y : Read A) (l : ℕ) → Bounded x l → Bounded y l → Bounded (either x y) l
  bounded_or (reads v n) y l h k = h
  bounded_or (dies n) (reads v m) l h k = k
  bounded_or (dies n) (dies m) l h k = omega arith

  pub inside_or : (F G : Reader A) → Inside F → Inside G → Inside (or F G)
  unfolding or
  inside_or F G h k s = bounded_or (F s) (G s) (length s) (h s) (k s)

common_inside : (w s : List ℕ) → common w s ≤ length s
unfolding common
common_inside [] s = omega arith
common_inside (a ∷ w) [] = omega arith
common_inside (a ∷ w) (b ∷ s) = go (eqb a b) (common_inside w s)
  where
    go : (t : Bool) → common w s ≤ length s → cond t (suc (common w s)) 0 ≤ suc (length s)
    go true h = omega arith
    go false h = omega arith

pub inside_word : {A : Type 0} (w : List ℕ) (v : A) → Inside (λ u. 0) (word w v)
unfolding word
inside_word w v s =
    let h = common_inside w s in
    bounded_cond (λ u. 0) (eqb (common w s) (length w)) (reads v (length w)) (dies (common w s)) (length s)
    (λ q. let e = eqb-true (common w s) (length w) q in (omega arith, omega arith)) h

pub inside_one : {A : Type 0} (test : ℕ → Bool) (value : ℕ → A) → Inside (λ u. 0) (one test value)
unfolding one
inside_one test value [] = omega arith
inside_one test value (b ∷ s) = bounded_cond (λ u. 0) (test b) (reads (value b) 1) (dies 0) (suc (length s)) (λ q. (omega arith, omega arith)) (omega arith)

module _ {A B : Type 0} (size : B → ℕ) (f : A → B) where
  bounded_map : (x : Read A) (l : ℕ) → Bounded (λ v. size (f v)) x l → Bounded size (mapped f x) l
  bounded_map (reads v n) l h = h
  bounded_map (dies n) l h = h

  pub inside_map : (F : Reader A) → Inside (λ v. size (f v)) F → Inside size (map f F)
  unfolding map
  inside_map F h s = bounded_map (F s) (length s) (h s)

module _ {A B : Type 0} (size : A → ℕ) (more : B → ℕ) (both : A × ℕ × B → ℕ) (adds : (v : A) (n : ℕ) (u : B) (m : ℕ) → size v ≤ n → more u ≤ m → both (v, n, u) ≤ n + m) where
  bounded_behind : (v : A) (n : ℕ) (y : Read B) (l k : ℕ) → size v ≤ n → Bounded more y k → n + k ≤ l → Bounded both (behind v n y) l
  bounded_behind v n (reads u m) l k h (i, j) e = (adds v n u m h i, omega arith)
  bounded_behind v n (dies m) l k h j e = omega arith

  bounded_onward : (x : Read A) (G : A → Reader B) (s : List ℕ) → Bounded size x (length s) → ((v : A) → Inside more (G v)) → Bounded both (onward x G s) (length s)
  bounded_onward (reads v n) G s (h, k) i =
      let l = length-drop n s in bounded_behind v n (G v (drop n s)) (length s) (length (drop n s)) h (i v (drop n s)) (omega arith)
  bounded_onward (dies n) G s h i = h

  pub inside_seq : (F : Reader A) (G : A → Reader B) → Inside size F → ((v : A) → Inside more (G v)) → Inside both (seq F G)
  unfolding seq
  inside_seq F G h i s = bounded_onward (F s) G s (h s) i

-- where nothing is counted
pub inside_both : {A B : Type 0} (F : Reader A) (G : A → Reader B) → Inside (λ u. 0) F → ((v : A) → Inside (λ u. 0) (G v)) → Inside (λ u. 0) (seq F G)
inside_both F G h i = inside_seq (λ u. 0) (λ u. 0) (λ u. 0) (λ v n u m p q. omega arith) F G h i

pub inside_many : (F : Reader ℕ) (mark : ℕ) → Inside (λ u. 0) F → (k : ℕ) → Inside (λ u. 0) (many F mark k)
unfolding many
inside_many F mark h zero = inside_word (mark ∷ []) []
inside_many F mark h (suc k) =
    inside_or (λ u. 0) (word (mark ∷ []) []) (map consed (seq F (always (many F mark k)))) (inside_word (mark ∷ []) [])
    (inside_map (λ u. 0) consed (seq F (always (many F mark k))) (inside_both F (always (many F mark k)) h (λ v. inside_many F mark h k)))
