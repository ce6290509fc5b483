use Rattle.std.proofs.Common.{refl, ◌∙◌}
use Rattle.client_session.proofs.Named.{not_bound}
use Rattle.lent_session.specs.State.{session_at}
use Rattle.lent_session.proofs.telling.Laws.{open_by, shut_by, bound_held}
use Rattle.lent_session.proofs.telling.address_at.Goals as goal

pub returns-then-stage_at-ne7 : goal.returns-then-stage_at-ne7
returns-then-stage_at-ne7 c = let x = session_at c.args.s.now in c.unbound.ensures ∙ not_bound x (shut_by x.stage c.stage_at.ensures c.if-stage_at-ne7.true) refl

pub returns : goal.returns
returns c =
    let s = c.args.s.now in
    c.address.ensures ∙ bound_held s c.requires (open_by (session_at s).stage c.stage_at.ensures c.if-stage_at-ne7.false) c.two_at.ensures.0 c.min-n.ensures c.bound_at.ensures
