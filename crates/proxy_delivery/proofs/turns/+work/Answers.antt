use native.Mathlib.Omega.{arith}
use Rattle.buffers.proofs.write.Laws.{wrote_length}
use Rattle.proxy_delivery.proofs.turns.Laws.{goes_worked}
use Rattle.proxy_delivery.proofs.turns.+work.Goals as goal

pub work-requires : goal.work-requires
work-requires t c =
    let v = c.take_turn.ensures.goes _ c.in_default-Some.is-1 in
    let i = v.wrote.place in
    let j = wrote_length v.wrote in
    let k = v.few in
    let l = v.falls in
    (omega (arith, c.decreases), (v.inside, omega (arith, c.requires)))

pub returns-in_default-Some : goal.returns-in_default-Some
returns-in_default-Some t c =
    let a = c.args in
    goes_worked _ a.field a.unread.now a.place a.out.now a.sent c.take_turn.result.0 _ _ _ _ (c.take_turn.ensures.goes _ c.in_default-Some.is-1) c.work.ensures
