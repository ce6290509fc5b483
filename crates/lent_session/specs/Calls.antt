-- What a call over lent bytes tells and leaves: the library's call on the session that they mean.
use Rattle.std.specs.Prelude.{◌≡◌, ℕ, ◌+◌, min, List, ◌++◌, drop, replicate}
use Rattle.protocol.specs.Answers.{Answer, Accepted, Refused}
use Rattle.protocol.specs.declared.Address.{Address}
use Rattle.protocol.specs.Bound.{size_of}
use Rattle.protocol.specs.Numbers.{answer_number}
use Rattle.client_session.specs.declared.Session.{Session}
use Rattle.client_session.specs.declared.Prepared.{Prepared}
use Rattle.client_session.specs.Session.{outcome, bound}
use Rattle.client_session.specs.Calls.{Call}
use Rattle.address_format.specs.endpoint.Written.{TextCall}
use Rattle.raw_numbers.specs.Numbers as kinds
use Rattle.lent_numbers.specs.declared.told.RawStep.{RawStep}
use Rattle.lent_numbers.specs.told.Told.{outcome_of}
use Rattle.lent_session.specs.declared.telling.RawAddress.{RawAddress}
use Rattle.lent_session.specs.declared.telling.RawText.{RawText}
use Rattle.lent_session.specs.State.{session_at, state_of, two_at}

abbrev pub step_by : Call → RawStep
step_by c = record { used = c.used; sent = c.sent; answer = answer_number c.answer; outcome = outcome_of (outcome c.session) }

-- an accepted call leaves the one writing of its session, a refused one every byte as it was
abbrev pub left_by : Answer → Session → List ℕ → List ℕ
left_by Accepted after state = state_of after
left_by (Refused e) after state = state

-- what a call returns and leaves in the lent bytes and the output
pub record Leaves (c : Call) (state : List ℕ) (r : RawStep) (state' out' : List ℕ) : Type 0 where
  pub returned : r ≡ step_by c
  pub left : state' ≡ left_by c.answer c.session state
  pub means : session_at state' ≡ c.session
  pub output : out' ≡ c.output

-- a preparing replaces whatever stood there, also where it is refused
pub record Prepares (p : Prepared) (r : ℕ) (state' : List ℕ) : Type 0 where
  pub returned : r ≡ answer_number p.answer
  pub left : state' ≡ state_of p.session
  pub means : session_at state' ≡ p.session

-- ---- what is told: an IPv4 address has four bytes and an IPv6 address sixteen, whatever stands in the bytes

abbrev pub address_of : Address → RawAddress
address_of a = record { port = a.port; kind = kinds.kind_number a.kind; len = size_of a.kind a.len; bytes = a.bytes }

abbrev pub bound_at : List ℕ → RawAddress
bound_at s = address_of (bound (session_at s))

pub record Tells (c : TextCall) (r : RawText) (text' : List ℕ) : Type 0 where
  pub returned : r ≡ record { len = c.len; answer = answer_number c.answer }
  pub buffer : text' ≡ c.buffer

-- ---- wiped: all but the bytes behind the requests is zero
abbrev pub written : List ℕ → ℕ
written s = min (two_at s 10 + two_at s 12 + two_at s 14) 1024

abbrev pub wiped : List ℕ → List ℕ
wiped s = replicate (282 + written s) 0 ++ drop (282 + written s) s
