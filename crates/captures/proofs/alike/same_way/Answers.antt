use native.Mathlib.Omega.{arith}
use Rattle.captures.proofs.alike.Laws.{beside_start, both_over, first_over, second_over, differ, beside_on}
use Rattle.captures.proofs.alike.same_way.Goals as goal

pub loop-byte-init : goal.loop-byte-init
loop-byte-init c = beside_start c.args.direction c.args.first.now c.args.second.now

pub returns-in_default-next : goal.returns-in_default-next
returns-in_default-next c = let a = c.args in second_over a.direction a.first.now a.second.now c.loop-byte.invariant c.in-Some.ensures.byte c.in_default-next.ensures.none

pub returns-then-byte-other : goal.returns-then-byte-other
returns-then-byte-other c = let a = c.args in differ a.direction a.first.now a.second.now c.loop-byte.invariant c.in-Some.ensures.byte c.in-Some-next.ensures.byte c.if-byte-other.true

pub loop-byte-smaller : goal.loop-byte-smaller
loop-byte-smaller c = omega (arith, c.in-Some.ensures.shorter)

pub loop-byte-preserved : goal.loop-byte-preserved
loop-byte-preserved c = let a = c.args in beside_on a.direction a.first.now a.second.now c.loop-byte.invariant c.in-Some.ensures.byte c.in-Some-next.ensures.byte c.if-byte-other.false

pub returns-in-None : goal.returns-in-None
returns-in-None c = let a = c.args in both_over a.direction a.first.now a.second.now c.loop-byte.invariant c.in_default.ensures.none c.in-None.ensures.none

pub returns-in-Some-next-2 : goal.returns-in-Some-next-2
returns-in-Some-next-2 c = let a = c.args in first_over a.direction a.first.now a.second.now c.loop-byte.invariant c.in_default.ensures.none c.in-Some-next-2.ensures.byte
