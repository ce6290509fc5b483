-- F-12 in numbers: what is asked of the calls that produce a stream, and what they tell.
use Rattle.std.specs.Prelude.{ℕ, ◌≡◌, List}
use Rattle.protocol.specs.Numbers.{number}
use Rattle.endings_spec.specs.declared.OutcomeStatus.{OutcomeStatus}
use Rattle.endings.specs.Calls.{Produced, Refused, NoStream, Stream, Call, stream5, stream4}
use Rattle.lent_session.specs.declared.preparing.RawConfig.{RawConfig}
use Rattle.lent_session.specs.Given.{given5, given4}
use Rattle.lent_stream.specs.declared.RawStream.{RawStream}

abbrev pub wanted : ℕ → ℕ → OutcomeStatus
wanted n s = record { number = n; status = s }

abbrev pub asked5 : RawConfig → List ℕ → ℕ → List ℕ → List ℕ → List ℕ → ℕ → ℕ → List ℕ → Call
asked5 config host port user password records n s buffer = stream5 (given5 config host port user password records) (wanted n s) buffer

abbrev pub asked4 : ℕ → List ℕ → ℕ → List ℕ → ℕ → ℕ → List ℕ → Call
asked4 local_dns host port records n s buffer = stream4 (given4 local_dns host port records) (wanted n s) buffer

-- a refusal's number, that there is none, or a stream's length
abbrev pub raw_stream : Produced → RawStream
raw_stream (Refused e) = record { len = 0; answer = number e; none = 0 }
raw_stream NoStream = record { len = 0; answer = 0; none = 1 }
raw_stream (Stream n) = record { len = n; answer = 0; none = 0 }

-- what a function returns, and the buffer that it leaves, are the call's
pub record Streams (c : Call) (r : RawStream) (buffer : List ℕ) : Type 0 where
  pub returned : r ≡ raw_stream c.answer
  pub left : buffer ≡ c.buffer
