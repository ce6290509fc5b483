use Rattle.captures.proofs.Prepared.{checked5}
use Rattle.captures.proofs.v5.check.Goals as goal

pub returns : goal.returns
returns c =
    let a = c.args in
    checked5 (record { config = a.config; host = a.host.now; port = a.port; user = a.user.now; password = a.password.now; records = a.records.now }) a.capture.now c.prepare-prepared.ensures c.check.ensures
