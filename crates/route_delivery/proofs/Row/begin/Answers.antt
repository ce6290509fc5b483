use Rattle.std.proofs.Common.{◌-◌}
use Rattle.route_delivery.proofs.Laws.{begins}
use Rattle.route_delivery.proofs.Row.begin.Goals as goal

pub returns-clause-wrote : goal.returns-clause-wrote
returns-clause-wrote c =
    let a = c.args in
    begins a.self.hops.now a.self.bytes.now (a.spot.behind - 1) c.first_size-n.ensures c.send-sent.ensures
