use Prim.Native.Nat.{◌≤◌}
use lib.ListN.{length}
use Rattle.captures.specs.Coded.{size}
use Rattle.captures.proofs.alike.Laws.{Gone}
use Rattle.captures.proofs.alike.next.Given as goal

abbrev pub invariant-loop-left : goal.invariant-loop-left
invariant-loop-left l = record { gone : Gone l.direction l.bytes l.behind l.left l.later; few : size l.left l.later ≤ size l.bytes l.behind }

abbrev pub decreases-loop-left : goal.decreases-loop-left
decreases-loop-left l = length l.later
