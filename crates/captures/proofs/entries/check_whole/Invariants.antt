use mathlib.Core.Path.{◌≡◌}
use lib.ListN.{length}
use Rattle.captures_spec.specs.Reading.{row_of}
use Rattle.captures.specs.Calls.{whole}
use Rattle.captures.proofs.entries.check_whole.Given as goal

abbrev pub invariant-loop-entry : goal.invariant-loop-entry
invariant-loop-entry l = whole (row_of l.rest) ≡ whole (row_of l.capture)

abbrev pub decreases-loop-entry : goal.decreases-loop-entry
decreases-loop-entry l = length l.rest
