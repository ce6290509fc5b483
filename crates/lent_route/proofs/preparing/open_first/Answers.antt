use Rattle.std.proofs.Common.{◌∙◌, ap}
use Rattle.route_delivery.specs.declared.Spot.{Spot}
use Rattle.route_delivery.specs.Relay.{begun_spot}
use Rattle.lent_route.proofs.preparing.Opening.{opens_first}
use Rattle.lent_route.proofs.preparing.open_first.Goals as goal

pub returns : goal.returns
returns c =
    let a = c.args in
    let (l, (m, (q, (some, few)))) = c.requires in
    let b = c.begin-spot in
    let value = b.ensures.value ∙ ap (λ (p : Spot). begun_spot c.hops_at-hops.result p b.result.sent) c.ahead_of.ensures in
    opens_first a.s.now a.out.now l q some few c.hops_at-hops.ensures b.result value (rw c.ahead_of.ensures at b.ensures.wrote) c.put_spoken.ensures.0 c.waiting.ensures
