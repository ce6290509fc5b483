use Rattle.std.proofs.Common.{sym, ap, ◌∙◌}
use Rattle.client_session.proofs.Deliveries.{ended_at, ends_by}
use Rattle.client_session.proofs.Session.end.Goals as goal
use Rattle.client_session.proofs.Session.end.Goals.{in-Ok, in-Err}

pub returns : goal.returns
returns c =
    let s = c.args.self in
    ends_by s c.end.ensures (elim c.match-end.branch [
      | in-Ok w ↦ w.answer-is ∙ sym (ap (ended_at s) w.in-Ok.is)
      | in-Err w ↦ w.answer-is ∙ sym (ap (ended_at s) w.in-Err.is)
    ])
