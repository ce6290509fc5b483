use Rattle.std.proofs.Common.{◌≤◌, length}
use Rattle.bench.proofs.run.Given as goal

abbrev pub invariant-loop : goal.invariant-loop
invariant-loop l = l.turn.sent ≤ length l.out
