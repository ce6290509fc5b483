use native.Mathlib.Omega.{arith}
use lib.ListN.{length}
use Rattle.proxy_decisions.proofs.decision.Laws.{rank_bounds}
use Rattle.proxy_delivery.proofs.turns.Laws.{stepping}
use Rattle.proxy_delivery.proofs.turns.step_good.Goals as goal

pub put-behind-requires : goal.put-behind-requires
put-behind-requires c =
    let r = rank_bounds c.args.field in
    omega (arith, c.requires)

pub returns : goal.returns
returns c =
    let a = c.args in
    let r = c.requires in
    let due = c.judge-due in
    let said = c.put-behind in
    stepping a.place (omega (arith, r.begin_le_place)) r.begin_le_place.0 r.piece_value due.result (rw c.part.ensures at due.ensures) said.result said.ensures c.awaited.result c.awaited.ensures
