-- What each call answers and leaves, in numbers: the library's call on the session that the numbers mean.
use Rattle.std.specs.Prelude.{ℕ, ◌≡◌, List}
use Rattle.client_session.specs.Calls.{Call}
use Rattle.raw_session.specs.declared.RawStep.{RawStep}
use Rattle.raw_session.specs.Raw.{step_of}

abbrev pub step_by : Call → RawStep
step_by c = step_of c.answer c.session c.used c.sent

-- what a call returns, and leaves in the output
pub record Says (c : Call) (r : RawStep) (out' : List ℕ) : Type 0 where
  pub returned : r ≡ step_by c
  pub output : out' ≡ c.output
