use Rattle.std.proofs.Common.{sym, refl, true≢false, arith, rules}
use Rattle.route_delivery.proofs.Laws.{stops_here, begin_asks, relay_asks, sums, relays}
use Rattle.route_delivery.proofs.+relay_parts.Goals as goal

pub returns-then-not-goes_on : goal.returns-then-not-goes_on
returns-then-not-goes_on t c =
    let a = c.args in
    let h = c.hand-here in
    stops_here a.hops.now a.spot a.bytes.now a.hold.now a.piece.now a.out.now c.requires h.result h.ensures.relay_result (λ o. true≢false (sym (c.if-not-goes_on.ensures.1 o)))

pub begin-begun-requires : goal.begin-begun-requires
begin-begun-requires t c =
    let a = c.args in
    let h = c.hand-here in
    let o = c.if-not-goes_on.ensures.0 refl in
    begin_asks a.hops.now a.spot a.bytes.now a.hold.now a.piece.now a.out.now c.requires h.result h.ensures.relay_result h.ensures.sent_bound.0 h.ensures.sent_bound.1 o.0 o.1

pub relay_parts-last-requires : goal.relay_parts-last-requires
relay_parts-last-requires t c =
    let a = c.args in
    let h = c.hand-here in
    let o = c.if-not-goes_on.ensures.0 refl in
    let b = c.begin-begun in
    let v = relay_asks a.hops.now a.spot a.bytes.now a.hold.now a.piece.now a.out.now c.requires h.result h.ensures.relay_result h.ensures.sent_bound.0 h.ensures.sent_bound.1 o.0 o.1 b.result b.ensures.value b.ensures.wrote in
    (omega (arith, v.0), v.1)

pub overflow_add-result : goal.overflow_add-result
overflow_add-result t c =
    let a = c.args in
    let h = c.hand-here in
    let o = c.if-not-goes_on.ensures.0 refl in
    let b = c.begin-begun in
    let z = sums a.hops.now a.spot a.bytes.now a.hold.now a.piece.now a.out.now c.requires h.result h.ensures.relay_result h.ensures.sent_bound.0 h.ensures.sent_bound.1 o.0 o.1 b.result b.ensures.value b.ensures.wrote c.relay_parts-last.result c.relay_parts-last.ensures in
    search rules

pub returns : goal.returns
returns t c =
    let a = c.args in
    let h = c.hand-here in
    let o = c.if-not-goes_on.ensures.0 refl in
    let b = c.begin-begun in
    relays a.hops.now a.spot a.bytes.now a.hold.now a.piece.now a.out.now c.requires h.result h.ensures.relay_result h.ensures.sent_bound.0 h.ensures.sent_bound.1 o.0 o.1 b.result b.ensures.value b.ensures.wrote c.relay_parts-last.result c.relay_parts-last.ensures
