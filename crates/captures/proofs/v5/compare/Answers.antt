use Rattle.captures.proofs.Prepared.{compared5}
use Rattle.captures.proofs.v5.compare.Goals as goal

pub returns : goal.returns
returns c =
    let a = c.args in
    compared5 (record { config = a.config; host = a.host.now; port = a.port; user = a.user.now; password = a.password.now; records = a.records.now }) a.first.now a.second.now c.prepare-prepared.ensures c.compare.ensures
