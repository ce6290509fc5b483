use native.Mathlib.Omega.{arith}
use Rattle.lent_route.proofs.Prefix.{prefix, first_long}
use mathlib.Core.Path.{sym, ap, ◌∙◌}
use Rattle.client_session.specs.declared.Session.{Session}
use Rattle.lent_route.proofs.telling.attempts.Goals as goal

pub slice_bounds-attempts-end : goal.slice_bounds-attempts-end
slice_bounds-attempts-end c = sym (first_long c.args.s.now c.requires)

pub attempts-requires : goal.attempts-requires
attempts-requires c = first_long c.args.s.now c.requires

pub returns : goal.returns
returns c = c.attempts.ensures ∙ ap (λ (x : Session). x.attempts) (prefix c.args.s.now (omega (arith, c.requires)))
