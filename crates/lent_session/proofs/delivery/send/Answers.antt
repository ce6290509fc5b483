use Rattle.std.proofs.Common.{drop}
use Rattle.client_delivery.proofs.delivery.Laws.{nothing_sent}
use Rattle.lent_session.proofs.delivery.Leaving.{sent_at}
use Rattle.lent_session.proofs.delivery.send.Goals as goal

pub returns-then-n-eq0 : goal.returns-then-n-eq0
returns-then-n-eq0 c = let a = c.args in nothing_sent (drop 282 a.s.now) a.from a.out.now c.if-n-eq0.true

pub returns : goal.returns
returns c = let a = c.args in sent_at 282 a.s.now a.from a.n a.out.now c.copy.ensures.bytes
