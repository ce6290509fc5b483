use Rattle.std.proofs.Common.{ap, sym, ◌∙◌}
use Rattle.client_session.proofs.Deliveries.{end_call, ends_as}
use Rattle.route_session.specs.calls.Calls.{session_in}
use Rattle.route_session.proofs.calls.Laws.{ends_like}
use Rattle.route_session.proofs.calls.Route.end.Goals.{in-Ok, in-Err}
use Rattle.route_session.proofs.calls.Route.end.Goals as goal

pub returns : goal.returns
returns c =
    let r = c.args.self in
    elim c.match-end.branch [
      | in-Ok w ↦ (λ i. record { answer = (w.answer-is i).0; route = record { stage = (w.answer-is i).1; held = (w.answer-is i).2; hold = r.hold; bound = r.bound; attempts = r.attempts; count = r.count; behind = r.behind; hops = r.hops; bytes = r.bytes } })
          ∙ ends_like r (ap (end_call (session_in r)) (sym w.in-Ok.is) ∙ ends_as (session_in r) c.end.ensures)
      | in-Err w ↦ (λ i. record { answer = (w.answer-is i).0; route = record { stage = (w.answer-is i).1; held = (w.answer-is i).2; hold = r.hold; bound = r.bound; attempts = r.attempts; count = r.count; behind = r.behind; hops = r.hops; bytes = r.bytes } })
          ∙ ends_like r (ap (end_call (session_in r)) (sym w.in-Err.is) ∙ ends_as (session_in r) c.end.ensures)
    ]
