use native.Mathlib.Omega.{arith}
use Rattle.lent_route.proofs.Prefix.{prefix, first_long}
use mathlib.Core.Path.{sym, ap, ◌∙◌}
use Rattle.client_session.specs.declared.Session.{Session}
use Rattle.client_session.specs.Session.{outcome}
use Rattle.lent_numbers.specs.told.Told.{outcome_of}
use Rattle.lent_route.proofs.telling.told.Goals as goal

pub slice_bounds-told-end : goal.slice_bounds-told-end
slice_bounds-told-end c = sym (first_long c.args.s.now c.requires)

pub told-requires : goal.told-requires
told-requires c = first_long c.args.s.now c.requires

pub returns : goal.returns
returns c = c.told.ensures ∙ ap (λ (x : Session). outcome_of (outcome x)) (prefix c.args.s.now (omega (arith, c.requires)))
