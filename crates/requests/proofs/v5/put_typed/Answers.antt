use Rattle.buffers.proofs.write.Laws.{then}
use Rattle.requests.proofs.v5.put_typed.Goals as goal

pub returns : goal.returns
returns c = then c.put_byte-next.ensures c.copy.ensures
