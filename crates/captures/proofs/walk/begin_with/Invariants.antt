use mathlib.Core.Path.{◌≡◌}
use lib.ListN.{length, take}
use Rattle.protocol.specs.Bytes.{same}
use Rattle.captures.proofs.walk.begin_with.Given as goal

abbrev pub invariant-loop-rest : goal.invariant-loop-rest
invariant-loop-rest l = same l.rest (take (length l.rest) l.left) ≡ same l.piece (take (length l.piece) l.bytes)

abbrev pub decreases-loop-rest : goal.decreases-loop-rest
decreases-loop-rest l = length l.rest
