use mathlib.Core.Path.{sym, ap, ◌∙◌}
use Rattle.proxy_session.proofs.Laws.{end_by, ends_by}
use Rattle.proxy_session.proofs.Server.end.Goals as goal
use Rattle.proxy_session.proofs.Server.end.Goals.{in-Ok, in-Err}

pub returns : goal.returns
returns c =
    let s = c.args.self in
    ends_by s c.end.ensures (elim c.match-end.branch [
      | in-Ok w ↦ w.answer-is ∙ sym (ap (end_by s) w.in-Ok.is)
      | in-Err w ↦ w.answer-is ∙ sym (ap (end_by s) w.in-Err.is)
    ])
