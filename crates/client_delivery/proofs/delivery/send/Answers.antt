use Rattle.client_delivery.proofs.delivery.Laws.{sent_part}
use Rattle.client_delivery.proofs.delivery.send.Goals as goal

pub returns : goal.returns
returns c = let a = c.args in sent_part a.requests.now.bytes a.from a.n a.out.now c.copy.ensures.bytes
