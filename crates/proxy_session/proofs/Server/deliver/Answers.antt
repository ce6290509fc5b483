use mathlib.Core.Path.{sym, ap, ◌∙◌}
use Rattle.proxy_session.proofs.Laws.{taken_by, delivers_by}
use Rattle.proxy_session.proofs.Server.deliver.Goals as goal
use Rattle.proxy_session.proofs.Server.deliver.Goals.{in-Ok, in-Err}

pub returns : goal.returns
returns c =
    let a = c.args in
    delivers_by a.self a.piece.now a.out.now (rw (c.text.ensures.text, c.text-2.ensures.text) at c.receive.ensures) (elim c.match-receive.branch [
      | in-Ok w ↦ w.answer-is ∙ sym (ap (taken_by a.self) w.in-Ok.is)
      | in-Err w ↦ w.answer-is ∙ sym (ap (taken_by a.self) w.in-Err.is)
    ])
