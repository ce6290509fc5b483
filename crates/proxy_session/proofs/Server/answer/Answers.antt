use Rattle.proxy_spec.specs.End.{endpoint_of}
use Rattle.proxy_session.proofs.Laws.{answers}
use Rattle.proxy_session.proofs.Server.answer.Goals as goal

pub returns : goal.returns
returns c = let a = c.args in answers a.self a.status (endpoint_of a.bound a.port) a.out.now c.answer-said.ensures
