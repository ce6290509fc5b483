use Rattle.proxy_replies.proofs.stages.Laws.{opens, fails}
use Rattle.proxy_replies.proofs.stages.stage_after.Goals as goal

pub returns-then-sent-success : goal.returns-then-sent-success
returns-then-sent-success c =
    let a = c.args in
    opens a.version a.status c.status_to-sent.ensures c.success.ensures c.if-sent-success.true

pub returns : goal.returns
returns c =
    let a = c.args in
    fails a.version a.status c.status_to-sent.ensures c.success.ensures c.if-sent-success.false
