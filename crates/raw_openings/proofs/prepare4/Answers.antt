use Rattle.raw_openings.proofs.Laws.{prepared4}
use Rattle.raw_openings.proofs.prepare4.Goals as goal

pub returns : goal.returns
returns c =
    let a = c.args in
    prepared4 a.local_dns a.host.now a.port a.records.now c.found.ensures c.truth.ensures c.port_of.ensures c.prepare_chosen.ensures c.prepared_step.ensures
