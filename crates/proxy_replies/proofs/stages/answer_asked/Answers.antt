use Rattle.proxy_spec.specs.End.{endpoint_of}
use Rattle.proxy_replies.proofs.stages.Laws.{answers_short, answers_sent}
use Rattle.proxy_replies.proofs.stages.answer_asked.Goals as goal

pub returns : goal.returns
returns c =
    let a = c.args in
    answers_sent a.version a.status (endpoint_of a.bound a.port) c.if-out-lt-PROXY_OUTPUT.false c.put_answer.ensures c.stage_after.ensures

pub returns-then-out-lt-PROXY_OUTPUT : goal.returns-then-out-lt-PROXY_OUTPUT
returns-then-out-lt-PROXY_OUTPUT c =
    let a = c.args in
    answers_short a.version a.status (endpoint_of a.bound a.port) c.if-out-lt-PROXY_OUTPUT.true c.unanswered.ensures
