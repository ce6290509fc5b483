use Rattle.lent_stream.proofs.Laws.{streams4}
use Rattle.lent_stream.proofs.stream4.Goals as goal

pub returns : goal.returns
returns c =
    let a = c.args in
    streams4 a.host.now a.port a.records.now a.number a.status a.buffer.now c.port_of.ensures c.told.ensures a.local_dns c.found.ensures c.truth.ensures c.stream_chosen.ensures
