use mathlib.Core.Path.{◌≡◌, refl, ap, ◌∙◌}
use mathlib.Core.Bool.{Bool, ◌||◌}
use mathlib.Core.List.{List, [], ◌∷◌}
use Prim.Native.Nat.{ℕ}
use lib.ListN.{drop}
use lib.Dec.{eqb}
use Rattle.std.specs.List.{list_any}
use Rattle.proxy_spec.specs.End.{offers}
use Rattle.proxy_decisions.proofs.tests.offers.Goals as goal

any_offers : (m : ℕ) (xs : List ℕ) → list_any (λ x. eqb x m) xs ≡ offers m xs
unfolding offers
any_offers m [] = refl
any_offers m (x ∷ xs) = ap (λ (b : Bool). eqb x m || b) (any_offers m xs)

pub returns : goal.returns
returns c =
    let a = c.args in
    c.contains.ensures ∙ ap (list_any (λ x. eqb x a.method)) c.behind.ensures.rest ∙ any_offers a.method (drop 1 a.bytes.now)
