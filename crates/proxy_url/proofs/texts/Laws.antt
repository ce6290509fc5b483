-- F-9: the bytes that a word and a text have in common, from a place on.
use Prim.Native.Nat.{ℕ, ◌+◌, ◌≤◌, ◌<◌, min}
use native.Mathlib.Nat.{add-zero}
use native.Mathlib.Numerals.{add-one}
use native.Mathlib.Omega.{arith}
use mathlib.Core.Path.{◌≡◌, refl, sym}
use mathlib.Core.Bool.{Bool, true, false}
use mathlib.Core.List.{List, [], ◌∷◌}
use lib.ListN.{length, drop, drop_of_length-le}
use lib.Seq.{drop-cons}
use lib.Dec.{leb}
use borrow.Author.Tests.{eq-eqb, ne_eqb, leb-true, leb-false}
use Rattle.protocol.specs.Bytes.{byte}
use Rattle.proxy_url_spec.specs.Reading.{common}

common_nil : (w : List ℕ) → common w [] ≡ 0
unfolding common
common_nil [] = refl
common_nil (a ∷ w) = refl

module _ (w s : List ℕ) (n : ℕ) where
  -- what is in common from a place on, and the bytes before it
  abbrev pub common_from : ℕ
  common_from = n + common (drop n w) (drop n s)

  pub common_more : n < length w → n < length s → byte w n ≡ byte s n → n + 1 + common (drop (n + 1) w) (drop (n + 1) s) ≡ common_from
  unfolding common
  common_more h k e = rw (drop-cons w n 0 h, drop-cons s n 0 k, eq-eqb _ _ e, add-one n) (omega arith)

  pub common_other : n < length w → n < length s → (byte w n ≡ byte s n → ⊥) → n ≡ common_from
  unfolding common
  common_other h k f = rw (drop-cons w n 0 h, drop-cons s n 0 k, ne_eqb _ _ f) (sym (add-zero n))

  common_long : (length w ≤ n) → n ≡ common_from
  unfolding common
  common_long h = rw (drop_of_length-le w h) (sym (add-zero n))

  common_short : (length s ≤ n) → n ≡ common_from
  common_short h = rw (drop_of_length-le s h, common_nil (drop n w)) (sym (add-zero n))

  pub common_end : {end : ℕ} → end ≡ min (length w) (length s) → end ≤ n → n ≡ common_from
  common_end e h = go (leb (length w) n) refl
    where
      go : (b : Bool) → leb (length w) n ≡ b → n ≡ common_from
      go true q = common_long (leb-true (length w) n q)
      go false q = let k = leb-false (length w) n q in common_short (omega arith)
