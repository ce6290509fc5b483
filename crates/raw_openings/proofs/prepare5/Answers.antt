use Rattle.raw_openings.proofs.Laws.{prepared5}
use Rattle.raw_openings.proofs.prepare5.Goals as goal

pub returns : goal.returns
returns c =
    let a = c.args in
    prepared5 a.config a.host.now a.port a.user.now a.password.now a.records.now c.found.ensures c.config_of.ensures c.port_of.ensures c.prepare_chosen.ensures c.prepared_step.ensures
