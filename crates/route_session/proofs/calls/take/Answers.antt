use Prim.Native.Nat.{ℕ, min}
use mathlib.Core.Path.{refl, ap, ◌∙◌}
use lib.ListN.{take}
use Rattle.route_session.specs.calls.Taking.{route_at}
use Rattle.route_session.proofs.calls.Laws.{delivers_settled, delivers_short, delivers_takes, takes_as}
use Rattle.route_session.proofs.calls.take.Goals as goal

pub returns-then-is_over : goal.returns-then-is_over
returns-then-is_over c =
    let a = c.args in
    let r = route_at a.hops.now a.count a.spot a.bytes.now a.hold.now in
    delivers_settled r a.piece.now a.out.now (c.is_over.ensures r.bound (take r.held r.hold)) c.if-is_over.true refl

pub returns-then-out-last : goal.returns-then-out-last
returns-then-out-last c =
    let a = c.args in
    let r = route_at a.hops.now a.count a.spot a.bytes.now a.hold.now in
    delivers_short r a.piece.now a.out.now (c.is_over.ensures r.bound (take r.held r.hold)) c.if-is_over.false c.last_of-last.ensures c.if-out-last.true refl

pub returns : goal.returns
returns c =
    let a = c.args in
    let r = route_at a.hops.now a.count a.spot a.bytes.now a.hold.now in
    let w = c.relay in
    delivers_takes r a.piece.now a.out.now (c.is_over.ensures r.bound (take r.held r.hold)) c.if-is_over.false c.last_of-last.ensures c.if-out-last.false
    (takes_as r a.piece.now a.out.now (c.min.ensures ∙ ap (λ (k : ℕ). min r.behind k) c.last_of-last.ensures) w.result w.ensures)
