use Rattle.buffers.proofs.write.Laws.{then}
use Rattle.protocol.specs.Requests.{authentication_req}
use Rattle.requests.proofs.v5.put_authentication_req.Goals as goal

pub returns : goal.returns
unfolding authentication_req
returns c =
    then (then c.put_byte-a.ensures c.put_counted-b.ensures)
    c.put_counted.ensures
