-- F-3: what a stage tells, and what the end of the stream makes of it.
use Rattle.std.specs.Prelude.{Bool, true, false, Result, Ok, Err}
use Rattle.protocol.specs.declared.SocksError.{SocksError}
use Rattle.protocol.specs.declared.SocksError.TheVariants.{UnexpectedEof, Settled}
use Rattle.proxy_spec.specs.declared.Stage.{Stage}
use Rattle.proxy_spec.specs.declared.Stage.TheVariants.{Awaiting, Asked, Open, Failed}
use Rattle.proxy_replies.specs.declared.stages.Outcome.{Outcome}
use Rattle.proxy_replies.specs.declared.stages.Outcome.TheVariants as outcome

abbrev pub outcome_at : Stage → Outcome
outcome_at (Awaiting f) = outcome.Waiting
outcome_at (Asked v) = outcome.Asked
outcome_at (Open v) = outcome.Open
outcome_at (Failed e) = outcome.Failed e

abbrev pub has_destination : Stage → Bool
has_destination (Awaiting f) = false
has_destination (Asked v) = true
has_destination (Open v) = true
has_destination (Failed e) = false

-- 9 while it waits, and it then holds nothing; else 16
abbrev pub end_at : Stage → Result Stage SocksError
end_at (Awaiting f) = Ok (Failed UnexpectedEof)
end_at (Asked v) = Err Settled
end_at (Open v) = Err Settled
end_at (Failed e) = Err Settled
