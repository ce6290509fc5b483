use Rattle.std.proofs.Common.{length, ◌≡◌, List, ℕ}
use Rattle.load.specs.declared.Tally.{Tally}
use Rattle.load.specs.Tally.{counts_of}
use Rattle.load.specs.Runs.{Fed}
use Rattle.load.proofs.feed.Given as goal

-- what is still to be delivered from here comes to what all of it comes to from the start
abbrev pub invariant-loop-rest : goal.invariant-loop-rest
invariant-loop-rest l = record {
  lent : length l.out ≡ length l.initial.out;
  fed : (r : Tally) (out' : List ℕ) → Fed l.single l.tally.state l.session l.rest l.out (counts_of l.tally) r out' → Fed l.single l.initial.tally.state l.initial.session l.initial.rest l.initial.out (counts_of l.initial.tally) r out';
}

abbrev pub decreases-loop-rest : goal.decreases-loop-rest
decreases-loop-rest l = length l.rest
