-- F-9: the lines of a text, found from the left.
use Prim.Native.Nat.{ℕ, suc, ◌+◌, ◌-◌, ◌≤◌, ◌<◌}
use native.Mathlib.Omega.{arith}
use native.Mathlib.Numerals.{add-one}
use mathlib.Core.Path.{◌≡◌, refl, sym, ap, ◌∙◌}
use mathlib.Core.Bool.{Bool, true, false}
use mathlib.Core.List.{List, [], ◌∷◌}
use lib.Dec.{eqb}
use lib.ListN.{length, take, drop, get_or, length-drop}
use lib.Seq.{drop-cons, drop-drop, drop-length, get_or-drop}
use borrow.Author.Tests.{eq-eqb, ne_eqb}
use Rattle.proxy_url_route.specs.Lines.{split, marks, first_end}

-- ---- marks, one after the other

module _ (s : List ℕ) (i : ℕ) (inside : i < length s) where
  marks_mark : get_or s i 0 ≡ 0x0A → marks (drop i s) ≡ suc (marks (drop (i + 1) s))
  unfolding marks
  marks_mark e = rw (add-one, drop-cons s i 0 inside, eq-eqb (get_or s i 0) 0x0A e)

  marks_other : (get_or s i 0 ≡ 0x0A → ⊥) → marks (drop i s) ≡ marks (drop (i + 1) s)
  unfolding marks
  marks_other n = rw (add-one, drop-cons s i 0 inside, ne_eqb (get_or s i 0) 0x0A n)

  pub count_mark : (n m : ℕ) → m ≡ n + 1 → n ≤ i → n + marks (drop i s) ≡ marks s → get_or s i 0 ≡ 0x0A
      → (i + 1 ≤ length s) × ((m ≤ i + 1) × (m + marks (drop (i + 1) s) ≡ marks s))
  count_mark n m q l e x = (omega arith, (omega arith, omega (arith, marks_mark x)))

  pub count_other : (n m : ℕ) → m ≡ n → n ≤ i → n + marks (drop i s) ≡ marks s → (get_or s i 0 ≡ 0x0A → ⊥)
      → (i + 1 ≤ length s) × ((m ≤ i + 1) × (m + marks (drop (i + 1) s) ≡ marks s))
  count_other n m q l e x = (omega arith, (omega arith, omega (arith, marks_other x)))

  end_here : get_or s i 0 ≡ 0x0A → first_end (drop i s) ≡ 0
  unfolding first_end
  end_here e = rw (drop-cons s i 0 inside, eq-eqb (get_or s i 0) 0x0A e)

  end_later : (get_or s i 0 ≡ 0x0A → ⊥) → first_end (drop i s) ≡ suc (first_end (drop (i + 1) s))
  unfolding first_end
  end_later n = rw (add-one, drop-cons s i 0 inside, ne_eqb (get_or s i 0) 0x0A n)

  pub ends_here : {x : ℕ} → i + first_end (drop i s) ≡ x → get_or s i 0 ≡ 0x0A → i ≡ x
  ends_here h e = omega (arith, h, end_here e)

  pub ends_later : {x : ℕ} → i + first_end (drop i s) ≡ x → (get_or s i 0 ≡ 0x0A → ⊥) → (i + 1 ≤ length s) × (i + 1 + first_end (drop (i + 1) s) ≡ x)
  ends_later h n = (omega arith, omega (arith, h, end_later n))

pub count_end : (s : List ℕ) (i n : ℕ) → i ≤ length s → length s ≤ i → n + marks (drop i s) ≡ marks s → n ≡ marks s
unfolding marks
count_end s i n l m h =
    let e : i ≡ length s = omega arith in
    let z : marks (drop i s) ≡ 0 = rw (e, drop-length s) in
    omega arith

pub ends_last : (s : List ℕ) (i : ℕ) {x : ℕ} → i ≤ length s → length s ≤ i → i + first_end (drop i s) ≡ x → i ≡ x
unfolding first_end
ends_last s i l m h =
    let e : i ≡ length s = omega arith in
    let z : first_end (drop i s) ≡ 0 = rw (e, drop-length s) in
    omega arith

-- ---- the first line, and those behind it

pub record Front (s : List ℕ) : Type 0 where
  pub rest : List (List ℕ)
  pub is : split s ≡ take (first_end s) s ∷ rest
  pub within : first_end s ≤ length s
  pub inside : 0 < length rest → first_end s < length s
  pub next : 0 < length rest → split (drop (suc (first_end s)) s) ≡ rest
  pub many : length (split s) ≡ suc (marks s)

front_more : (b : ℕ) (s : List ℕ) → Front s → (t : Bool) → eqb b 0x0A ≡ t → Front (b ∷ s)
unfolding split first_end marks
front_more b s f true e =
    record {
      rest = split s;
      is = rw e;
      within = rw e (omega arith);
      inside = λ h. rw e (omega arith);
      next = λ h. rw e;
      many = rw e (ap suc f.many);
    }
front_more b s f false e =
    let i = f.is in
    let w = f.within in
    record {
      rest = f.rest;
      is = rw (e, f.is);
      within = rw e (omega arith);
      inside = λ h. let k = f.inside h in rw e (omega arith);
      next = λ h. rw e (f.next h);
      many = rw (e, f.is) (ap length (sym f.is) ∙ f.many);
    }

pub front : (s : List ℕ) → Front s
unfolding split first_end marks
front [] = record { rest = []; is = refl; within = omega arith; inside = λ h. absurd (omega arith); next = λ h. absurd (omega arith); many = refl }
front (b ∷ s) = front_more b s (front s) (eqb b 0x0A) refl

pub split_many : (s : List ℕ) → length (split s) ≡ marks s + 1
split_many s = (front s).many ∙ sym (add-one (marks s))

pub counted_lines : (s : List ℕ) (n : ℕ) → n ≡ marks s → n + 1 ≡ length (split s)
counted_lines s n e = ap (λ (k : ℕ). k + 1) e ∙ sym (split_many s)

-- ---- a line at a place

module _ (s : List ℕ) (at i : ℕ) (e : split (drop at s) ≡ drop i (split s)) where
  rest_is : (f : Front (drop at s)) → f.rest ≡ drop (i + 1) (split s)
  rest_is f = ap (λ (l : List (List ℕ)). drop 1 l) (sym f.is ∙ e) ∙ drop-drop 1 i (split s)

  more_behind : (f : Front (drop at s)) → i + 1 < length (split s) → 0 < length f.rest
  more_behind f h = let k = ap length (rest_is f) ∙ length-drop (i + 1) (split s) in omega arith

  module _ (more : i + 1 < length (split s)) where
    next_inside : at + first_end (drop at s) + 1 ≤ length s
    next_inside = let f = front (drop at s) in omega (arith, f.inside (more_behind f more), length-drop at s)

    next_is : split (drop (at + first_end (drop at s) + 1) s) ≡ drop (i + 1) (split s)
    next_is =
        let f = front (drop at s) in
        let n : at + suc (first_end (drop at s)) ≡ at + first_end (drop at s) + 1 = omega arith in
        ap split (ap (λ (k : ℕ). drop k s) (sym n) ∙ sym (drop-drop (suc (first_end (drop at s))) at s)) ∙ f.next (more_behind f more) ∙ rest_is f

  line_is : (end : ℕ) → end ≡ at + first_end (drop at s) → take (end - at) (drop at s) ≡ get_or (split s) i []
  line_is end q =
      let f = front (drop at s) in
      let n : end - at ≡ first_end (drop at s) = omega arith in
      let z : i + 0 ≡ i = omega arith in
      rw n (ap (λ (l : List (List ℕ)). get_or l 0 []) (sym f.is ∙ e) ∙ get_or-drop i (split s) 0 [] ∙ ap (λ (k : ℕ). get_or (split s) k []) z)

-- a place goes on to the next line, while there is one
pub next_line : (s : List ℕ) (at i index : ℕ) → split (drop at s) ≡ drop i (split s) → i < index → index < length (split s)
    → (end : ℕ) → end ≡ at + first_end (drop at s)
    → (i + 1 ≤ index) × ((end + 1 ≤ length s) × (split (drop (end + 1) s) ≡ drop (i + 1) (split s)))
next_line s at i index e h l end q =
    let m : i + 1 < length (split s) = omega arith in
    (omega arith, rw q (next_inside s at i e m, next_is s at i e m))

-- the line at a place, which begins there and ends behind it within the text
pub this_line : (s : List ℕ) (at i index : ℕ) → split (drop at s) ≡ drop i (split s) → i ≤ index → index ≤ i
    → (end : ℕ) → end ≡ at + first_end (drop at s) → take (end - at) (drop at s) ≡ get_or (split s) index []
this_line s at i index e h l end q =
    let z : i ≡ index = omega arith in
    line_is s at i e end q ∙ ap (λ (k : ℕ). get_or (split s) k []) z

pub ends_within_lem : (s : List ℕ) (at end : ℕ) → at ≤ length s → end ≡ at + first_end (drop at s) → end ≤ length s
ends_within_lem s at end h q = omega (arith, (front (drop at s)).within, length-drop at s)
