use Rattle.captures.proofs.Prepared.{compared4}
use Rattle.captures.proofs.v4.compare.Goals as goal

pub returns : goal.returns
returns c =
    let a = c.args in
    compared4 (record { local_dns = a.local_dns; host = a.host.now; port = a.port; records = a.records.now }) a.first.now a.second.now c.prepare-prepared.ensures c.compare.ensures
