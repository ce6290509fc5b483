use Rattle.address_format.proofs.groups.Scan.{Best}
use Prim.Native.Nat.{◌≤◌}
use Rattle.address_format.proofs.groups.longest_run.Given as goal

abbrev pub invariant-loop-i : goal.invariant-loop-i
invariant-loop-i l = (l.i ≤ 8) × Best l.groups l.i l.zeros l.start l.count

abbrev pub decreases-loop-i : goal.decreases-loop-i
decreases-loop-i l = l.i
