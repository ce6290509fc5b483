use mathlib.Core.Path.{ap, ◌∙◌}
use Rattle.proxy_session.proofs.Laws.{no_destination}
use Rattle.lent_proxy.specs.State.{server_at}
use Rattle.lent_proxy.specs.Calls.{target_of}
use Rattle.lent_proxy.proofs.Leaving.{stage_told, destination_told}
use Rattle.lent_proxy.proofs.telling.destination.Goals as goal

pub returns-then-has_destination : goal.returns-then-has_destination
returns-then-has_destination c =
    let s = c.args.s.now in
    let h = stage_told s c.eight_at-kept.ensures c.stage_at.ensures c.stage_of.ensures c.has_destination.ensures in
    c.target_of.ensures ∙ ap target_of (c.as_target.ensures ∙ destination_told s c.requires h c.if-has_destination.true c.bound_at.ensures c.min-end.ensures c.two_at.ensures.0)

pub returns : goal.returns
returns c =
    let s = c.args.s.now in
    let h = stage_told s c.eight_at-kept.ensures c.stage_at.ensures c.stage_of.ensures c.has_destination.ensures in
    c.target_of-2.ensures ∙ ap target_of (c.no_target.ensures ∙ no_destination (server_at s) h c.if-has_destination.false)
