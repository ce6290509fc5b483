use Rattle.proxy_replies.proofs.write.Laws.{answers_four, answers_five}
use Rattle.proxy_spec.specs.End.{endpoint_of}
use Rattle.proxy_replies.proofs.write.put_answer.Goals as goal

pub returns-in-V4 : goal.returns-in-V4
returns-in-V4 c =
    let a = c.args in
    answers_four a.version a.status c.in-V4.is (endpoint_of a.bound a.port) c.status_to-sent.ensures c.put_request_reply.ensures

pub returns-in-V5 : goal.returns-in-V5
returns-in-V5 c =
    let a = c.args in
    answers_five a.version a.status c.in-V5.is (endpoint_of a.bound a.port) c.status_to-sent.ensures c.put_connect_reply.ensures
