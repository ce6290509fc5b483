use Rattle.lookup.specs.Chosen.{records_of}
use Rattle.captures.proofs.Prepared.{compared5}
use Rattle.captures.proofs.v5.compare_chosen.Goals as goal

pub returns : goal.returns
returns c =
    let a = c.args in
    compared5 (record { config = a.config; host = a.host.now; port = a.port; user = a.user.now; password = a.password.now; records = records_of a.chosen }) a.first.now a.second.now c.prepare_chosen-prepared.ensures c.compare.ensures
