-- F-13: bytes are cut in just one way, as the function cuts them; joined, the pieces are the bytes.
use Prim.Native.Nat.{ℕ, zero, suc, ◌+◌, ◌≤◌, ◌<◌}
use native.Mathlib.Omega.{arith}
use mathlib.Core.Path.{◌≡◌, refl, ap, ◌∙◌}
use mathlib.Core.Bool.{Bool, true, false, cond}
use mathlib.Core.List.{List, [], ◌∷◌, ◌++◌, append-nil}
use lib.ListN.{length, take, drop, length-drop, take-append-drop}
use lib.Dec.{leb}
use borrow.Author.Tests.{leb-true, leb-false, le-leb, lt-leb}
use Rattle.load_spec.specs.Load.{next_state, piece_length, Cut, none, last, more, bytewise}
use Rattle.load_spec.specs.Cutting.{Pieces, is, before, cut_now, cut_in, cut_of, whole}

cut_now_lem : (s n : ℕ) (bs : List ℕ) (c : Pieces) → length bs ≤ suc n → (length (drop (piece_length s) bs) ≤ n → Cut (next_state s) (drop (piece_length s) bs) c.pieces c.state)
    → Cut s bs (cut_now s bs c).pieces (cut_now s bs c).state
cut_now_lem s n [] c h later = none
cut_now_lem s n (b ∷ bs) c h later = go (leb (length (b ∷ bs)) (piece_length s)) refl
  where
    at : Bool → Pieces
    at t = cond t (is ((b ∷ bs) ∷ []) (next_state s)) (before (take (piece_length s) (b ∷ bs)) c)

    go : (t : Bool) → leb (length (b ∷ bs)) (piece_length s) ≡ t → Cut s (b ∷ bs) (at t).pieces (at t).state
    go true q = last {bs = b ∷ bs} (omega arith) (leb-true _ _ q)
    go false q = more (leb-false _ _ q) (later (omega (arith, length-drop (piece_length s) (b ∷ bs))))

cut_in_lem : (n s : ℕ) (bs : List ℕ) → length bs ≤ n → Cut s bs (cut_in n s bs).pieces (cut_in n s bs).state
unfolding cut_in
cut_in_lem zero s [] h = none
cut_in_lem zero s (b ∷ bs) h = absurd (omega arith)
cut_in_lem (suc n) s bs h = cut_now_lem s n bs _ h (λ k. cut_in_lem n (next_state s) (drop (piece_length s) bs) k)

pub cut_exists : (s : ℕ) (bs : List ℕ) → Cut s bs (cut_of s bs).pieces (cut_of s bs).state
cut_exists s bs = cut_in_lem (length bs) s bs (omega arith)

-- and no other way
none_in : (n s : ℕ) → is [] s ≡ cut_in n s []
unfolding cut_in
none_in zero s = refl
none_in (suc n) s = refl

last_in : (n s : ℕ) (bs : List ℕ) → 1 ≤ length bs → length bs ≤ piece_length s → length bs ≤ n → is (bs ∷ []) (next_state s) ≡ cut_in n s bs
unfolding cut_in
last_in n s [] some few h = absurd (omega arith)
last_in zero s (b ∷ bs) some few h = absurd (omega arith)
last_in (suc n) s (b ∷ bs) some few h = rw (le-leb (length (b ∷ bs)) (piece_length s) few)

more_in : (n s s' : ℕ) (bs : List ℕ) (ps : List (List ℕ)) → piece_length s < length bs → length bs ≤ n
    → ((k : ℕ) → length (drop (piece_length s) bs) ≤ k → is ps s' ≡ cut_in k (next_state s) (drop (piece_length s) bs))
    → is (take (piece_length s) bs ∷ ps) s' ≡ cut_in n s bs
unfolding cut_in
more_in n s s' [] ps long h ih = absurd (omega arith)
more_in zero s s' (b ∷ bs) ps long h ih = absurd (omega arith)
more_in (suc n) s s' (b ∷ bs) ps long h ih =
    rw (lt-leb (length (b ∷ bs)) (piece_length s) long)
    (ap (before (take (piece_length s) (b ∷ bs))) (ih n (omega (arith, length-drop (piece_length s) (b ∷ bs)))))

only_in : (n : ℕ) {s s' : ℕ} {bs : List ℕ} {ps : List (List ℕ)} → length bs ≤ n → Cut s bs ps s' → is ps s' ≡ cut_in n s bs
only_in n {s} h none = none_in n s
only_in n {s} h (last {bs = bs} some few) = last_in n s bs some few h
only_in n {s} {s'} h (more {bs = bs} {ps = ps} long later) = more_in n s s' bs ps long h (λ k l. only_in k l later)

pub cut_only : {s s' : ℕ} {bs : List ℕ} {ps : List (List ℕ)} → Cut s bs ps s' → is ps s' ≡ cut_of s bs
cut_only {bs = bs} c = only_in (length bs) (omega arith) c

-- joined, the pieces are the bytes
pub cut_whole : {s s' : ℕ} {bs : List ℕ} {ps : List (List ℕ)} → Cut s bs ps s' → whole ps ≡ bs
unfolding whole
cut_whole none = refl
cut_whole (last {bs = bs} some few) = append-nil bs
cut_whole (more {s = s} {bs = bs} long later) = ap (λ (x : List ℕ). take (piece_length s) bs ++ x) (cut_whole later) ∙ take-append-drop (piece_length s) bs

pub bytewise_whole : (bs : List ℕ) → whole (bytewise bs) ≡ bs
unfolding whole bytewise
bytewise_whole [] = refl
bytewise_whole (b ∷ bs) = ap (λ (x : List ℕ). b ∷ x) (bytewise_whole bs)
