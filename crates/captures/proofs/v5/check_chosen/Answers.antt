use Rattle.lookup.specs.Chosen.{records_of}
use Rattle.captures.proofs.Prepared.{checked5}
use Rattle.captures.proofs.v5.check_chosen.Goals as goal

pub returns : goal.returns
returns c =
    let a = c.args in
    checked5 (record { config = a.config; host = a.host.now; port = a.port; user = a.user.now; password = a.password.now; records = records_of a.chosen }) a.capture.now c.prepare_chosen-prepared.ensures c.check.ensures
