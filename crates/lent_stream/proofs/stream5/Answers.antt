use Rattle.lent_stream.proofs.Laws.{streams5}
use Rattle.lent_stream.proofs.stream5.Goals as goal

pub returns : goal.returns
returns c =
    let a = c.args in
    streams5 a.host.now a.port a.records.now a.number a.status a.buffer.now c.port_of.ensures c.told.ensures a.config a.user.now a.password.now c.found.ensures c.config_of.ensures c.stream_chosen.ensures
