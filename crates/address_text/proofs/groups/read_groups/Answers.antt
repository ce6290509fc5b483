use Rattle.std.proofs.Common.{arith}
use Rattle.address_text.specs.declared.digits.Radix.TheVariants.{Hexadecimal}
use Rattle.address_text.proofs.digits.Runs.{within_small, digits_within}
use Rattle.address_text.proofs.groups.Colons.{no_rows, rows_end, group_turn}
use Rattle.address_text.proofs.groups.read_groups.Goals as goal

pub loop-k-init : goal.loop-k-init
loop-k-init c = no_rows _

pub high-requires : goal.high-requires
high-requires c = let d = c.read_digits-group in within_small Hexadecimal d.result.value d.result.count (digits_within Hexadecimal _ d.result d.ensures)

pub returns-in-Bad : goal.returns-in-Bad
returns-in-Bad c = rw (rw c.in-Bad.is at (group_turn c.loop-k.invariant c.loop-k-test.true c.read_digits-group.result c.read_digits-group.ensures c.high.result c.low.result c.high.ensures c.low.ensures c.follows_at.result c.follows_at.ensures)) (c.no_groups.ensures _)

pub returns-in-Dot : goal.returns-in-Dot
returns-in-Dot c = rw (rw c.in-Dot.is at (group_turn c.loop-k.invariant c.loop-k-test.true c.read_digits-group.result c.read_digits-group.ensures c.high.result c.low.result c.high.ensures c.low.ensures c.follows_at.result c.follows_at.ensures)) (c.read_ipv4_tail.ensures _)

pub returns-in-End : goal.returns-in-End
returns-in-End c = rw c.in-End.is at (group_turn c.loop-k.invariant c.loop-k-test.true c.read_digits-group.result c.read_digits-group.ensures c.high.result c.low.result c.high.ensures c.low.ensures c.follows_at.result c.follows_at.ensures)

pub overflow_add-result-in-Colons-3 : goal.overflow_add-result-in-Colons-3
overflow_add-result-in-Colons-3 c = let h = (rw c.in-Colons.is at (group_turn c.loop-k.invariant c.loop-k-test.true c.read_digits-group.result c.read_digits-group.ensures c.high.result c.low.result c.high.ensures c.low.ensures c.follows_at.result c.follows_at.ensures)).inside in omega arith

pub overflow_add-result-in-Colons-4 : goal.overflow_add-result-in-Colons-4
overflow_add-result-in-Colons-4 c = let h = (rw c.in-Colons.is at (group_turn c.loop-k.invariant c.loop-k-test.true c.read_digits-group.result c.read_digits-group.ensures c.high.result c.low.result c.high.ensures c.low.ensures c.follows_at.result c.follows_at.ensures)).inside in omega arith

pub returns-in-Colons : goal.returns-in-Colons
returns-in-Colons c = rw c.in-Colons.is at (group_turn c.loop-k.invariant c.loop-k-test.true c.read_digits-group.result c.read_digits-group.ensures c.high.result c.low.result c.high.ensures c.low.ensures c.follows_at.result c.follows_at.ensures)

pub overflow_add-at : goal.overflow_add-at
overflow_add-at c = let h = (rw c.in-Colon.is at (group_turn c.loop-k.invariant c.loop-k-test.true c.read_digits-group.result c.read_digits-group.ensures c.high.result c.low.result c.high.ensures c.low.ensures c.follows_at.result c.follows_at.ensures)).inside in omega arith

pub overflow_add-at-in-Colon : goal.overflow_add-at-in-Colon
overflow_add-at-in-Colon c = let h = (rw c.in-Colon.is at (group_turn c.loop-k.invariant c.loop-k-test.true c.read_digits-group.result c.read_digits-group.ensures c.high.result c.low.result c.high.ensures c.low.ensures c.follows_at.result c.follows_at.ensures)).inside in omega arith

pub loop-k-preserved : goal.loop-k-preserved
loop-k-preserved c = rw c.in-Colon.is at (group_turn c.loop-k.invariant c.loop-k-test.true c.read_digits-group.result c.read_digits-group.ensures c.high.result c.low.result c.high.ensures c.low.ensures c.follows_at.result c.follows_at.ensures)

pub returns : goal.returns
returns c = rw (rows_end c.loop-k.invariant c.loop-k-test.false) (c.no_groups-2.ensures _)
