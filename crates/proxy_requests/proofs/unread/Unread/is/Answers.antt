use borrow.Author.Rules.{rules}
use mathlib.Core.Path.{◌≡◌, refl, sym, ap, ◌∙◌}
use mathlib.Core.Bool.{Bool, true, false}
use mathlib.Core.List.{List, ◌++◌}
use mathlib.Core.Logic.{◌≢◌}
use Prim.Native.Nat.{ℕ}
use Rattle.std.specs.Bool.{Decides}
use Rattle.std.proofs.lemmas.Bool.Decides.{Decides-eqb, Decides-like, same_from_decides}
use Rattle.std.proofs.lemmas.List.{append_cancel_left}
use Rattle.std.proofs.lemmas.Option.{MatchOption-at_some, MatchOption-at_none}
use Rattle.std.proofs.lemmas.Slice.Eq.{strip_prefix_is, slice_eq-Decides, compares_Decides}
use Rattle.protocol.specs.Bytes.{same}
use Rattle.proxy_requests.proofs.unread.Unread.is.Goals as goal

same_Decides : (xs ys : List ℕ) → Decides (same xs ys) (xs ≡ ys)
unfolding same
same_Decides = compares_Decides same (search rules)

-- a text with the held bytes in front, and one without
module _ (h p t : List ℕ) where
  same_behind : (r : List ℕ) (b : Bool) → t ≡ h ++ r → Decides b (r ≡ p) → b ≡ same (h ++ p) t
  same_behind r b e d =
      same_from_decides b (same (h ++ p) t)
      (Decides-like b (λ (q : r ≡ p). ap (λ (x : List ℕ). h ++ x) (sym q) ∙ sym e) (λ (q : h ++ p ≡ t). append_cancel_left h r p (sym e ∙ sym q)) d)
      (same_Decides (h ++ p) t)

  same_none : ((r : List ℕ) → t ≢ h ++ r) → false ≡ same (h ++ p) t
  same_none n = go (same (h ++ p) t) refl
    where
      go : (b : Bool) → same (h ++ p) t ≡ b → false ≡ b
      go false e = refl
      go true e = absurd (n p (sym ((same_Decides (h ++ p) t).0 e)))

pub returns-in-Some : goal.returns-in-Some
returns-in-Some c =
    let f = c.self.inside in
    let r = c.in-Some.rest in
    let t = strip_prefix_is Decides-eqb c.args.text.now f.held.now _ c.strip_prefix.ensures.cases in
    rw (← c.self.view_is) (same_behind f.held.now f.piece.now c.args.text.now r.now _ (MatchOption-at_some _ _ r c.in-Some.is t) (slice_eq-Decides Decides-eqb r.now f.piece.now _ c.eq.ensures))

pub returns-in-None : goal.returns-in-None
returns-in-None c =
    let f = c.self.inside in
    let t = strip_prefix_is Decides-eqb c.args.text.now f.held.now _ c.strip_prefix.ensures.cases in
    rw (← c.self.view_is) (same_none f.held.now f.piece.now c.args.text.now (MatchOption-at_none _ _ c.in-None.is t))
