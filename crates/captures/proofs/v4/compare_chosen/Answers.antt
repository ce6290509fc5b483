use Rattle.lookup.specs.Chosen.{records_of}
use Rattle.captures.proofs.Prepared.{compared4}
use Rattle.captures.proofs.v4.compare_chosen.Goals as goal

pub returns : goal.returns
returns c =
    let a = c.args in
    compared4 (record { local_dns = a.local_dns; host = a.host.now; port = a.port; records = records_of a.chosen }) a.first.now a.second.now c.prepare_chosen-prepared.ensures c.compare.ensures
