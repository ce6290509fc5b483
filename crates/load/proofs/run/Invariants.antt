use Rattle.std.proofs.Common.{◌≡◌, ◌-◌, length}
use Rattle.load.specs.declared.Tally.{Tally}
use Rattle.load.specs.Runs.{RanOn}
use Rattle.load.proofs.run.Given as goal

-- the handshakes still to be run from here come to what all come to from the start
abbrev pub invariant-loop : goal.invariant-loop
invariant-loop l = record {
  lent : 1024 ≡ length l.out;
  ran : (r : Tally) → RanOn l.single l.tally (l.count - l.counter) l.out r → RanOn l.single l.initial.tally l.count l.initial.out r;
}
