use Rattle.buffers.proofs.write.Laws.{then}
use Rattle.protocol.specs.Requests.{request}
use Rattle.requests.proofs.v4.put_name.Goals as goal

pub returns : goal.returns
unfolding request
returns c =
    then (then (then c.put_head-a.ensures c.copy-b.ensures)
    c.copy-c.ensures)
    c.put_byte.ensures
