use mathlib.Core.Path.{◌∙◌}
use Rattle.proxy_session.proofs.Laws.{no_destination, destination_is}
use Rattle.proxy_session.proofs.Server.destination.Goals as goal

pub returns-then-has_destination : goal.returns-then-has_destination
returns-then-has_destination c = c.as_target.ensures ∙ destination_is c.args.self c.has_destination.ensures c.if-has_destination.true c.held_bytes.ensures

pub returns-else-has_destination : goal.returns-else-has_destination
returns-else-has_destination c = c.no_target.ensures ∙ no_destination c.args.self c.has_destination.ensures c.if-has_destination.false
