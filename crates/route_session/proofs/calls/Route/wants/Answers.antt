use Prim.Native.Nat.{min}
use mathlib.Core.Path.{ap, ◌∙◌}
use Rattle.client_delivery.specs.wants.Still.{still_at}
use Rattle.client_session.specs.Session.{held_bytes}
use Rattle.route_session.specs.calls.Calls.{behind_in, session_in}
use Rattle.route_session.proofs.calls.Wants.{nobody, hopeless}
use Rattle.route_session.proofs.calls.Route.wants.Goals.{then-behind-eq0-via-then-behind-eq0, then-behind-eq0-via-else-behind-eq0+then-not-opens_still}
use Rattle.route_session.proofs.calls.Route.wants.Goals as goal

pub returns-then-behind-eq0 : goal.returns-then-behind-eq0
returns-then-behind-eq0 c =
    let r = c.args.self in
    elim c.then-behind-eq0.branch [
      | then-behind-eq0-via-then-behind-eq0 w ↦ nobody r.hops (still_at r.stage (held_bytes (session_in r))) (behind_in r) c.wants-own.ensures (c.min-behind.ensures ∙ ap (min r.behind) c.last_of.ensures) w.if-behind-eq0.true
      | then-behind-eq0-via-else-behind-eq0+then-not-opens_still w ↦ hopeless r.hops (still_at r.stage (held_bytes (session_in r))) (behind_in r) c.wants-own.ensures w.opens_still.ensures w.if-not-opens_still.true
    ]
