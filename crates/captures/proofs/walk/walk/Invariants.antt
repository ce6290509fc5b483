use lib.ListN.{length}
use Rattle.captures.proofs.walk.Rows.{left, Walking}
use Rattle.captures.proofs.walk.walk.Given as goal

abbrev pub invariant-loop-entry : goal.invariant-loop-entry
invariant-loop-entry l = Walking l.capture l.rest l.due l.course (λ es. left es l.initial.course l.initial.due)

abbrev pub decreases-loop-entry : goal.decreases-loop-entry
decreases-loop-entry l = length l.rest
