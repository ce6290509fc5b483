use Rattle.buffers.proofs.write.Laws.{then}
use Rattle.buffers.proofs.fields.put_counted.Goals as goal

pub returns : goal.returns
returns c = then c.put_byte-next.ensures c.copy.ensures
