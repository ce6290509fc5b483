use Rattle.buffers.proofs.write.Laws.{then}
use Rattle.protocol.specs.Requests.{address_field}
use Rattle.requests.proofs.v5.put_named.Goals as goal

pub returns : goal.returns
unfolding address_field
returns c = then c.put_byte-next.ensures c.put_counted.ensures
