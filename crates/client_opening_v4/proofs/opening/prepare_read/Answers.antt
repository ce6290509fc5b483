use Rattle.client_opening_v4.proofs.opening.Preparing.{prepares4}
use Rattle.client_opening_v4.proofs.opening.prepare_read.Goals as goal

pub returns : goal.returns
returns c e =
    let a = c.args in
    prepares4 a.local_dns a.host.now a.read a.port a.chosen e c.prepared.ensures c.begin-begun.ensures
