use Rattle.proxy_spec.specs.End.{endpoint_of}
use Rattle.proxy_replies.proofs.stages.Laws.{declines}
use Rattle.proxy_replies.proofs.stages.answer.Goals as goal

pub returns-in-Asked : goal.returns-in-Asked
returns-in-Asked c = rw c.in-Asked.is c.answer_asked.ensures

pub returns-in_default : goal.returns-in_default
returns-in_default c =
    let a = c.args in
    declines a.stage a.status (endpoint_of a.bound a.port) a.out.now c.in_default.not-Asked c.unanswered.ensures
