use Rattle.captures.proofs.walk.Laws.{sent_other, sent_next}
use Rattle.captures.proofs.walk.send.Goals as goal

pub returns-then-not-begin_with : goal.returns-then-not-begin_with
returns-then-not-begin_with c =
    let a = c.args in
    sent_other a.course.now a.piece.now a.due.now c.requires.0 c.begin_with.ensures c.if-not-begin_with.true

pub returns : goal.returns
returns c =
    let a = c.args in
    sent_next a.course.now a.piece.now a.due.now c.requires.0 c.begin_with.ensures c.requires.1 c.if-not-begin_with.false
