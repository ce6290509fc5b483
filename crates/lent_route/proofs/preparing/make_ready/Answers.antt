use native.Mathlib.Omega.{arith}
use Prim.Native.Nat.{◌+◌, ◌-◌, ◌*◌}
use Rattle.lent_route.proofs.preparing.Hopping.{ready_not, ready_ninth, ready_taken, slot_cleared}
use Rattle.lent_route.proofs.preparing.make_ready.Goals as goal

pub returns-then-answer-ne0 : goal.returns-then-answer-ne0
returns-then-answer-ne0 c = ready_not c.args.s.now c.requires c.turn-answer.ensures c.if-answer-ne0.true

pub returns-then-count-ge-PROXIES : goal.returns-then-count-ge-PROXIES
returns-then-count-ge-PROXIES c = ready_ninth c.args.s.now c.requires c.turn-answer.ensures c.if-answer-ne0.false c.two_at-count.ensures.0 c.if-count-ge-PROXIES.true c.fail.ensures

pub returns : goal.returns
returns c =
    let s = c.args.s.now in
    ready_taken s c.requires c.turn-answer.ensures c.if-answer-ne0.false c.two_at-count.ensures.0 c.if-count-ge-PROXIES.false (slot_cleared s (346 + 1024 * (7 - c.two_at-count.result)) (omega (arith, c.requires)) c.clear.ensures)
