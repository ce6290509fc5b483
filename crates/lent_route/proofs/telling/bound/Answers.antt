use native.Mathlib.Omega.{arith}
use Rattle.lent_route.proofs.Prefix.{prefix, first_long}
use mathlib.Core.Path.{sym, ap, ◌∙◌}
use Rattle.client_session.specs.declared.Session.{Session}
use Rattle.client_session.specs.Session.{bound}
use Rattle.lent_session.specs.Calls.{address_of}
use Rattle.lent_route.proofs.telling.bound.Goals as goal

pub slice_bounds-bound-end : goal.slice_bounds-bound-end
slice_bounds-bound-end c = sym (first_long c.args.s.now c.requires)

pub bound-requires : goal.bound-requires
bound-requires c = first_long c.args.s.now c.requires

pub returns : goal.returns
returns c = c.bound.ensures ∙ ap (λ (x : Session). address_of (bound x)) (prefix c.args.s.now (omega (arith, c.requires)))
