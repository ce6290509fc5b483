use Rattle.endings.proofs.Prepared.{prepared4}
use Rattle.endings.proofs.place.Laws.{as_call}
use Rattle.endings.proofs.v4.stream.Goals as goal

pub returns : goal.returns
returns c =
    let a = c.args in
    as_call (prepared4 (record { local_dns = a.local_dns; host = a.host.now; port = a.port; records = a.records.now }) a.wanted a.buffer.now c.prepare-prepared.ensures) c.answer_with.ensures
