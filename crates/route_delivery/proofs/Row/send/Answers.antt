use Rattle.route_delivery.proofs.Laws.{sent_as}
use Rattle.route_delivery.proofs.Row.send.Goals as goal

pub returns : goal.returns
returns c =
    let a = c.args in
    let (whole, (inside, fits)) = c.requires in
    sent_as a.self.bytes.now a.index whole a.from a.n inside c.copy.ensures
