use Rattle.lookup.specs.Chosen.{records_of}
use Rattle.captures.proofs.Prepared.{checked4}
use Rattle.captures.proofs.v4.check_chosen.Goals as goal

pub returns : goal.returns
returns c =
    let a = c.args in
    checked4 (record { local_dns = a.local_dns; host = a.host.now; port = a.port; records = records_of a.chosen }) a.capture.now c.prepare_chosen-prepared.ensures c.check.ensures
