use Rattle.buffers.proofs.write.Laws.{then}
use Rattle.proxy_replies.proofs.write.put_two.Goals as goal

pub returns : goal.returns
returns c = then c.put_byte-next.ensures c.put_byte.ensures
