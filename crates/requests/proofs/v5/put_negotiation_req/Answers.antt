use Rattle.buffers.proofs.write.Laws.{then}
use Rattle.protocol.specs.Requests.{negotiation_req}
use Rattle.requests.proofs.v5.put_negotiation_req.Goals as goal

pub returns : goal.returns
unfolding negotiation_req
returns c =
    rw c.method_byte.ensures at (then c.copy-next.ensures c.put_byte.ensures)
