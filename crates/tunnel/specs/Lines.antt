-- 01, "Alongside": the two numbers of an outcome.
use Rattle.std.specs.Prelude.{ℕ}
use Rattle.protocol.specs.Numbers.{numbers}
use Rattle.protocol.specs.declared.Outcome.{Outcome}
use Rattle.protocol.specs.declared.Outcome.TheVariants.{Waiting, Open, Failed}

-- number and status; no session waits behind its end, so that 255 is not met
abbrev pub outcome_numbers : Outcome → ℕ × ℕ
outcome_numbers Waiting = (255, 0)
outcome_numbers Open = (0, 0)
outcome_numbers (Failed e) = numbers e
