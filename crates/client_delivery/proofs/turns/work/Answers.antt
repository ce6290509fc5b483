use Rattle.std.proofs.Common.{◌≤◌, ◌++◌, ap, arith, length, drop, length-append}
use Rattle.client_stages.specs.due.Due.{still_due}
use Rattle.client_delivery.proofs.turns.Turning.{still_small, loops_first, loops_on, loops_undecided, rank_none, loops_settled, loops_end}
use Rattle.client_delivery.proofs.turns.work.Goals as goal

pub loop-init : goal.loop-init
loop-init c = loops_first c.args.lengths c.args.reply (c.args.held.now ++ c.args.piece.now)

pub read-requires : goal.read-requires
read-requires c =
    let v = c.loop.invariant in
    let g = v.going in
    (omega (arith, g.inside, length-append c.args.held.now c.args.piece.now), omega (arith, g.room, ap still_due c.in-Awaiting.is, still_small c.args.reply), omega (arith, v.most))

pub loop-preserved : goal.loop-preserved
loop-preserved c = loops_on c.loop.invariant c.in-Awaiting.is c.read.ensures.read c.in-Some.is (omega arith)

pub returns-after-loop : goal.returns-after-loop
returns-after-loop c = loops_end c.loop.invariant (omega (arith, c.loop-test.false))

pub returns-in_default : goal.returns-in_default
returns-in_default c = let v = c.loop.invariant in loops_settled v (rank_none c.loop.turn.stage c.in_default.not-Awaiting)

pub returns-in_default-read : goal.returns-in_default-read
returns-in_default-read c =
    let few : length (drop c.loop.turn.place (c.args.held.now ++ c.args.piece.now)) ≤ 261 = let f = c.read.ensures.few in rw c.in_default-read.is at f in
    loops_undecided c.loop.invariant c.in-Awaiting.is c.read.ensures.read c.in_default-read.is few
