use Rattle.buffers.proofs.write.Laws.{then}
use Rattle.requests.proofs.v4.put_head.Goals as goal

pub returns : goal.returns
returns c = then c.copy-next.ensures c.put_port.ensures
