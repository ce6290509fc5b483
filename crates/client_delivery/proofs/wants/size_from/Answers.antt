use Rattle.std.proofs.Common.{rules, ◌≡◌}
use borrow.Author.Tests.{ne_eqb}
use Rattle.client_delivery.specs.wants.Wants.{size_from}
use Rattle.client_delivery.proofs.wants.size_from.Goals as goal

pub returns-in-1 : goal.returns-in-1
unfolding size_from
returns-in-1 c = rw c.in-1.is

pub returns-in-4 : goal.returns-in-4
unfolding size_from
returns-in-4 c = rw c.in-4.is

pub returns-in-3 : goal.returns-in-3
unfolding size_from
returns-in-3 c = rw (c.in-3.is, c.if-may.true)

pub returns-in_default : goal.returns-in_default
unfolding size_from
returns-in_default c = rw (c.in-3.is, c.if-may.false)

pub returns-in_default-2 : goal.returns-in_default-2
unfolding size_from
returns-in_default-2 c =
    let d : c.args.atyp ≡ 1 → ⊥ = search rules in
    let e : c.args.atyp ≡ 4 → ⊥ = search rules in
    let f : c.args.atyp ≡ 3 → ⊥ = search rules in
    simp (ne_eqb _ _ d, ne_eqb _ _ e, ne_eqb _ _ f)
