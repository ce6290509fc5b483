use Rattle.client_opening_v5.proofs.opening.Preparing.{prepares5}
use Rattle.client_opening_v5.proofs.opening.prepare_read.Goals as goal

pub returns : goal.returns
returns c e =
    let a = c.args in
    prepares5 a.config a.host.now a.read a.port a.user.now a.password.now a.chosen e c.prepared.ensures c.begin-begun.ensures
