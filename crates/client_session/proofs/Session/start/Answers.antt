use Rattle.std.proofs.Common.{rules, sym, ap, ◌∙◌}
use Rattle.client_session.proofs.Deliveries.{started_at, starts_by}
use Rattle.client_session.proofs.Session.start.Goals as goal
use Rattle.client_session.proofs.Session.start.Goals.{in-Ok, in-Err}

pub returns : goal.returns
returns c =
    let s = c.args.self in
    starts_by s c.args.out.now c.start.ensures (elim c.match-start.branch [
      | in-Ok w ↦ w.answer-is ∙ sym (ap (started_at s) w.in-Ok.is)
      | in-Err w ↦ w.answer-is ∙ sym (ap (started_at s) w.in-Err.is)
    ]) (search rules) c.copy.ensures.bytes
