use mathlib.Core.Path.{◌≡◌}
use Prim.Native.Nat.{◌≤◌}
use lib.ListN.{drop}
use lib.Seq.{paste}
use Rattle.buffers.proofs.hold.shift.Given as goal

abbrev pub invariant-loop-i : goal.invariant-loop-i
invariant-loop-i l = (l.i ≤ l.n) × (l.hold ≡ paste l.initial.hold 0 (drop l.from l.initial.hold) l.i)
