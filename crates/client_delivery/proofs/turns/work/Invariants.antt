use Rattle.std.proofs.Common.{◌++◌, ◌-◌}
use Rattle.client_delivery.proofs.turns.Turning.{Loops}
use Rattle.client_delivery.proofs.turns.work.Given as goal

abbrev pub invariant-loop : goal.invariant-loop
invariant-loop l = Loops l.lengths l.fn.reply (l.held ++ l.piece) l.turn (3 - l.counter)
