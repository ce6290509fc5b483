-- Which of sixteen address bytes announce a name, by their first four.
use Prim.Native.Nat.{ℕ, ◌<◌}
use native.Mathlib.Omega.{arith}
use mathlib.Core.Path.{◌≡◌, refl, sym, ◌∙◌}
use mathlib.Core.Bool.{Bool, true, false, ◌&&◌}
use mathlib.Core.List.{List, [], ◌∷◌}
use lib.ListN.{length, take}
use lib.Dec.{eqb, ltb}
use borrow.Author.Tests.{eqb-true, lt-ltb, ltb-true}
use Rattle.protocol.specs.Bytes.{byte}
use Rattle.protocol.specs.Opening.{announces}
use Rattle.protocol.proofs.Bytes.{both_true}

first_four : (ip : List ℕ) → length ip ≡ 16 → announces (take 4 ip) ≡ (eqb (byte ip 0) 0 && (eqb (byte ip 1) 0 && (eqb (byte ip 2) 0 && ltb 0 (byte ip 3))))
unfolding announces
first_four (a ∷ b ∷ c ∷ d ∷ r) l = refl
first_four [] l = absurd (omega arith)
first_four (a ∷ []) l = absurd (omega arith)
first_four (a ∷ b ∷ []) l = absurd (omega arith)
first_four (a ∷ b ∷ c ∷ []) l = absurd (omega arith)

module _ (ip : List ℕ) (l : length ip ≡ 16) where
  pub announcing : byte ip 0 ≡ 0 → byte ip 1 ≡ 0 → byte ip 2 ≡ 0 → 0 < byte ip 3 → true ≡ announces (take 4 ip)
  announcing a b c d = sym (first_four ip l ∙ rw (a, b, c) (lt-ltb 0 (byte ip 3) d))

  pub silent : (byte ip 0 ≡ 0 → byte ip 1 ≡ 0 → byte ip 2 ≡ 0 → 0 < byte ip 3 → ⊥) → false ≡ announces (take 4 ip)
  silent f = go (announces (take 4 ip)) refl
    where
      go : (b : Bool) → announces (take 4 ip) ≡ b → false ≡ announces (take 4 ip)
      go false e = sym e
      go true e =
          let (p, q) = both_true _ _ (sym (first_four ip l) ∙ e) in
          let (r, s) = both_true _ _ q in
          let (t, u) = both_true _ _ s in
          absurd (f (eqb-true _ _ p) (eqb-true _ _ r) (eqb-true _ _ t) (ltb-true _ _ u))
