use Rattle.captures.proofs.Prepared.{checked4}
use Rattle.captures.proofs.v4.check.Goals as goal

pub returns : goal.returns
returns c =
    let a = c.args in
    checked4 (record { local_dns = a.local_dns; host = a.host.now; port = a.port; records = a.records.now }) a.capture.now c.prepare-prepared.ensures c.check.ensures
