-- How a session stands, in numbers: 0 waiting, 1 open, 2 failed with a number and a status.
use Rattle.protocol.specs.declared.Outcome.{Outcome}
use Rattle.protocol.specs.declared.Outcome.TheVariants.{Waiting, Open, Failed}
use Rattle.protocol.specs.Numbers.{number, status}
use Rattle.lent_numbers.specs.declared.told.RawOutcome.{RawOutcome}

abbrev pub outcome_of : Outcome → RawOutcome
outcome_of Waiting = record { state = 0; number = 0; status = 0 }
outcome_of Open = record { state = 1; number = 0; status = 0 }
outcome_of (Failed e) = record { state = 2; number = number e; status = status e }
