use Rattle.std.proofs.Common.{refl}
use Rattle.route_delivery.proofs.Laws.{hands_none, sends_inside, hands, hands_few}
use Rattle.route_delivery.proofs.Row.hand.Goals as goal

pub returns-in_default-clause-relay_result : goal.returns-in_default-clause-relay_result
returns-in_default-clause-relay_result c =
    let a = c.args in
    hands_none a.self.hops.now a.spot a.self.bytes.now a.hold.now a.piece.now a.out.now c.requires c.receive.ensures c.in_default.is

pub send-sent-requires : goal.send-sent-requires
send-sent-requires c =
    let a = c.args in
    sends_inside a.self.hops.now a.spot a.self.bytes.now a.hold.now a.piece.now a.out.now c.requires c.receive.ensures c.in-Ok.is

pub returns-clause-relay_result : goal.returns-clause-relay_result
returns-clause-relay_result c =
    let a = c.args in
    hands a.self.hops.now a.spot a.self.bytes.now a.hold.now a.piece.now a.out.now c.requires c.receive.ensures c.in-Ok.is refl c.send-sent.ensures

pub returns-clause-sent_bound : goal.returns-clause-sent_bound
returns-clause-sent_bound c =
    let a = c.args in
    hands_few a.self.hops.now a.spot a.self.bytes.now a.hold.now a.piece.now a.out.now c.requires c.receive.ensures c.in-Ok.is refl c.send-sent.ensures
