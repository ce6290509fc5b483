-- The row of texts, as the code has it: one behind the other, with the place of each. The rules are tests that compute.
use Prim.Native.Nat.{ℕ, ◌+◌, ◌-◌, ◌≤◌, ◌<◌}
use native.Mathlib.Nat.{zero-add}
use native.Mathlib.Omega.{arith}
use mathlib.Core.Path.{◌≡◌, refl, ap, subst, ◌∙◌}
use mathlib.Core.Bool.{Bool, true, false, cond, false≢true, ◌&&◌}
use mathlib.Core.List.{List, [], ◌∷◌, ◌++◌}
use lib.Dec.{eqb, leb, ltb}
use lib.ListN.{length, take, drop, get_or}
use borrow.Author.Tests.{eqb-true, eqb-false, leb-true, ltb-true, ne_eqb}
use Rattle.protocol.proofs.Tests.{both, all_below, below}
use Rattle.buffers.specs.write.Written.{overwrite, Wrote}
use Rattle.lent_texts.specs.Texts.{unknown_error, error_texts, unassigned, texts5, texts4, error_text, status_text, Copies}
use Rattle.lent_texts.specs.Table.{texts, Picks}

abbrev same : List ℕ → List ℕ → Bool
same [] [] = true
same [] (y ∷ ys) = false
same (x ∷ xs) [] = false
same (x ∷ xs) (y ∷ ys) = eqb x y && same xs ys

same_is : (xs ys : List ℕ) → same xs ys ≡ true → xs ≡ ys
same_is [] [] q = refl
same_is [] (y ∷ ys) q = absurd (false≢true q)
same_is (x ∷ xs) [] q = absurd (false≢true q)
same_is (x ∷ xs) (y ∷ ys) q = let (p, r) = both (eqb x y) (same xs ys) q in λ i. eqb-true x y p i ∷ same_is xs ys r i

-- bytes written at a buffer's start
copies : {text buffer buffer' : List ℕ} {r : ℕ} → Wrote buffer 0 text r buffer' → Copies text buffer r buffer'
unfolding overwrite
copies {text} {buffer} w =
    let z : 0 + length text ≡ length text = zero-add (length text) in
    record { len = w.place ∙ z; bytes = w.bytes ∙ ap (λ (k : ℕ). text ++ drop k buffer) z }

-- ---- the row

unfoldable pub joined : List (List ℕ) → List ℕ
joined [] = []
joined (t ∷ ts) = t ++ joined ts

unfoldable pub all : List ℕ
all = joined texts

-- where each begins, and where the last one ends
unfoldable pub starts : ℕ → List (List ℕ) → List ℕ
starts n [] = n ∷ []
starts n (t ∷ ts) = n ∷ starts (n + length t) ts

unfoldable pub places : List ℕ
places = starts 0 texts

abbrev from : ℕ → ℕ
from which = get_or places which 0

abbrev end : ℕ → ℕ
end which = get_or places (which + 1) 0

abbrev part_of : ℕ → List ℕ
part_of which = take (end which - from which) (drop (from which) all)

abbrev is_text : ℕ → Bool
is_text which = same (part_of which) (get_or texts which [])

abbrev in_order : ℕ → Bool
in_order which = leb (from which) (end which)

abbrev in_row : ℕ → Bool
in_row which = leb (end which) (length all)

abbrev few : ℕ → Bool
few which = leb (length (get_or texts which [])) 64

all_texts : all_below 42 is_text ≡ true
unfolding all joined places starts texts unknown_error error_texts unassigned texts5 texts4
all_texts = refl

all_in_order : all_below 42 in_order ≡ true
unfolding places starts texts unknown_error error_texts unassigned texts5 texts4
all_in_order = refl

all_in_row : all_below 42 in_row ≡ true
unfolding all joined places starts texts unknown_error error_texts unassigned texts5 texts4
all_in_row = refl

all_few : all_below 42 few ≡ true
unfolding texts unknown_error error_texts unassigned texts5 texts4
all_few = refl

module _ (which : ℕ) (h : which < 42) where
  part_is : part_of which ≡ get_or texts which []
  part_is = same_is _ _ (below 42 is_text all_texts which h)

  pub part_starts : from which ≤ end which
  part_starts = leb-true _ _ (below 42 in_order all_in_order which h)

  pub part_ends : end which ≤ length all
  part_ends = leb-true _ _ (below 42 in_row all_in_row which h)

  pub text_few : length (get_or texts which []) ≤ 64
  text_few = leb-true _ _ (below 42 few all_few which h)

  pub part_fits : {m : ℕ} → 64 ≤ m → 0 + length (part_of which) ≤ m
  part_fits l = omega (arith, text_few, ap length part_is)

  pub copied : {buffer buffer' : List ℕ} {r : ℕ} → Wrote buffer 0 (part_of which) r buffer' → Copies (get_or texts which []) buffer r buffer'
  copied {buffer} {buffer'} {r} w = copies (subst (λ (t : List ℕ). Wrote buffer 0 t r buffer') part_is w)

-- ---- the places of errors and of statuses

abbrev right : (ℕ → ℕ) → (ℕ → List ℕ) → ℕ → Bool
right at text n = ltb (at n) 42 && same (get_or texts (at n) []) (text n)

picked : (at : ℕ → ℕ) (text : ℕ → List ℕ) → all_below 256 (right at text) ≡ true → (n : ℕ) → n < 256 → Picks (at n) (text n)
picked at text q n h = let (i, e) = both _ _ (below 256 (right at text) q n h) in record { inside = ltb-true _ _ i; is = same_is _ _ e }

abbrev error_at : ℕ → ℕ
error_at n = cond (ltb n 28) n 11

abbrev at5 : ℕ → ℕ
at5 n = cond (ltb n 9) (28 + n) 37

abbrev at4 : ℕ → ℕ
at4 n = cond (ltb n 90) 37 (cond (ltb n 94) (n - 52) 37)

errors_right : all_below 256 (right error_at error_text) ≡ true
unfolding texts unknown_error error_texts unassigned texts5 texts4 error_text
errors_right = refl

right5 : all_below 256 (right at5 (status_text 5)) ≡ true
unfolding texts unknown_error error_texts unassigned texts5 texts4 status_text
right5 = refl

right4 : all_below 256 (right at4 (status_text 4)) ≡ true
unfolding texts unknown_error error_texts unassigned texts5 texts4 status_text
right4 = refl

module _ {n : ℕ} (h : n < 256) where
  pub picks_error : {r : ℕ} → r ≡ error_at n → Picks r (error_text n)
  picks_error q = rw q (picked error_at error_text errors_right n h)

  module _ {v : ℕ} where
    pub picks5 : v ≡ 5 → {r : ℕ} → r ≡ at5 n → Picks r (status_text v n)
    picks5 e q = rw (e, q) (picked at5 (status_text 5) right5 n h)

    pub picks4 : (v ≡ 5 → ⊥) → {r : ℕ} → r ≡ at4 n → Picks r (status_text v n)
    unfolding status_text
    picks4 d q = rw (ne_eqb v 5 d, q) (picked at4 (status_text 4) right4 n h)

-- the text picked is the one written
pub picked_copied : {which : ℕ} {text : List ℕ} → Picks which text → {buffer buffer' : List ℕ} {r : ℕ} → Copies (get_or texts which []) buffer r buffer' → Copies text buffer r buffer'
picked_copied p {buffer} {buffer'} {r} w = subst (λ (t : List ℕ). Copies t buffer r buffer') p.is w

-- every text has at most 64 bytes
picked_few : {which : ℕ} {text : List ℕ} → Picks which text → length text ≤ 64
picked_few {which} {text} p = subst (λ (t : List ℕ). length t ≤ 64) p.is (text_few which p.inside)

pub error_few : (n : ℕ) → n < 256 → length (error_text n) ≤ 64
error_few n h = picked_few (picks_error h refl)

pub status_few : (v n : ℕ) → n < 256 → length (status_text v n) ≤ 64
status_few v n h = go (eqb v 5) refl
  where
    go : (b : Bool) → eqb v 5 ≡ b → length (status_text v n) ≤ 64
    go true q = picked_few (picks5 h (eqb-true v 5 q) refl)
    go false q = picked_few (picks4 h (eqb-false v 5 q) refl)
