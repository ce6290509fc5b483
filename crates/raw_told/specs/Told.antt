-- What is told of a session in numbers: what the library tells of the session that they mean.
use Rattle.std.specs.Prelude.{ℕ, ◌≡◌, List}
use Rattle.protocol.specs.declared.Address.{Address}
use Rattle.protocol.specs.Numbers.{answer_number}
use Rattle.address_format.specs.endpoint.Written.{TextCall}
use Rattle.client_session.specs.Session.{outcome, bound}
use Rattle.raw_numbers.specs.Numbers.{kind_number}
use Rattle.raw_session.specs.declared.RawSession.{RawSession}
use Rattle.raw_session.specs.declared.RawOutcome.{RawOutcome}
use Rattle.raw_session.specs.Raw.{session_of, outcome_of}
use Rattle.raw_told.specs.declared.RawAddress.{RawAddress}
use Rattle.raw_told.specs.declared.RawText.{RawText}

abbrev pub raw_outcome : RawSession → RawOutcome
raw_outcome r = outcome_of (outcome (session_of r))

abbrev pub address_of : Address → RawAddress
address_of a = record { port = a.port; kind = kind_number a.kind; len = a.len; bytes = a.bytes }

abbrev pub raw_bound : RawSession → RawAddress
raw_bound r = address_of (bound (session_of r))

abbrev pub raw_attempts : RawSession → ℕ
raw_attempts r = (session_of r).attempts

-- what the call that writes a text returns, and leaves in the buffer
pub record Tells (c : TextCall) (r : RawText) (text' : List ℕ) : Type 0 where
  pub returned : r ≡ record { len = c.len; answer = answer_number c.answer }
  pub buffer : text' ≡ c.buffer
