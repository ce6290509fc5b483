use Rattle.std.proofs.Common.{arith, rules, ◌∙◌}
use borrow.Author.Tests.{eq-eqb}
use Rattle.client_delivery.proofs.wants.Ways.{type_known, type_none, type_name, no_name}
use Rattle.client_delivery.proofs.wants.type_still.Goals as goal

pub returns-in-1 : goal.returns-in-1
returns-in-1 c = type_known c.args.held.now c.in-1.is

pub returns-then-held-eq4 : goal.returns-then-held-eq4
returns-then-held-eq4 c =
    let h = c.args.held.now in
    eq-eqb _ _ c.if-held-eq4.true ∙ type_name h (λ z. omega (arith, c.in-3.is)) (λ z. omega (arith, c.in-3.is)) c.in-3.is (no_name h c.if-held-eq4.true)

pub returns-else-held-eq4 : goal.returns-else-held-eq4
returns-else-held-eq4 c = type_name c.args.held.now (λ z. omega (arith, c.in-3.is)) (λ z. omega (arith, c.in-3.is)) c.in-3.is c.name_still.ensures

pub returns-in_default : goal.returns-in_default
returns-in_default c = type_none c.args.held.now (search rules) (search rules) (search rules)
