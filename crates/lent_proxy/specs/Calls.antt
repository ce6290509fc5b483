-- What a call over lent bytes tells and leaves: the library's call on the end that they mean.
use Rattle.std.specs.Prelude.{ℕ, ◌≡◌, List}
use Rattle.protocol.specs.Answers.{Answer, Accepted, Refused}
use Rattle.protocol.specs.declared.AddressKind.{AddressKind}
use Rattle.protocol.specs.declared.AddressKind.TheVariants.{Ipv4, Ipv6, Domain}
use Rattle.protocol.specs.declared.Record.{Record}
use Rattle.protocol.specs.Numbers.{number, status, answer_number}
use Rattle.proxy_spec.specs.declared.Stage.{Stage}
use Rattle.proxy_spec.specs.declared.Stage.TheVariants.{Awaiting, Asked, Open, Failed}
use Rattle.proxy_spec.specs.End.{success}
use Rattle.proxy_decisions.specs.declared.destination.Target.{Target}
use Rattle.proxy_session.specs.declared.Server.{Server}
use Rattle.proxy_session.specs.declared.SetUp.{SetUp}
use Rattle.proxy_session.specs.Calls.{Call}
use Rattle.raw_numbers.specs.Numbers as kinds
use Rattle.lent_numbers.specs.declared.told.RawOutcome.{RawOutcome}
use Rattle.lent_numbers.specs.declared.told.RawStep.{RawStep}
use Rattle.lent_proxy.specs.declared.answering.RawRecord.{RawRecord}
use Rattle.lent_proxy.specs.declared.telling.RawTarget.{RawTarget}
use Rattle.lent_proxy.specs.State.{server_at, state_of}

-- how an end stands: 0 waiting, 1 open, 2 failed with a number and a status, 3 asked, with the status that grants in the client's version
abbrev pub standing_of : Stage → RawOutcome
standing_of (Awaiting f) = record { state = 0; number = 0; status = 0 }
standing_of (Asked v) = record { state = 3; number = 0; status = success v }
standing_of (Open v) = record { state = 1; number = 0; status = 0 }
standing_of (Failed e) = record { state = 2; number = number e; status = status e }

abbrev pub step_by : Call → RawStep
step_by c = record { used = c.used; sent = c.sent; answer = answer_number c.answer; outcome = standing_of c.session.stage }

-- an accepted call leaves the one writing of its end, a refused one every byte as it was
abbrev pub left_by : Answer → Server → List ℕ → List ℕ
left_by Accepted after state = state_of after
left_by (Refused e) after state = state

-- what a call returns and leaves in the lent bytes and the output
pub record Leaves (c : Call) (state : List ℕ) (r : RawStep) (state' out' : List ℕ) : Type 0 where
  pub returned : r ≡ step_by c
  pub left : state' ≡ left_by c.answer c.session state
  pub means : server_at state' ≡ c.session
  pub output : out' ≡ c.output

-- a set-up replaces whatever stood there, also where it is refused
pub record SetsUp (u : SetUp) (r : ℕ) (state' : List ℕ) : Type 0 where
  pub returned : r ≡ answer_number u.answer
  pub left : state' ≡ state_of u.server
  pub means : server_at state' ≡ u.server

-- the address that is bound, of the caller's answer
abbrev pub record_of : RawRecord → Record
record_of r = record { family = kinds.family_of r.kind; address = r.address }

-- ---- what is told: an IPv4 address has four bytes and an IPv6 address sixteen, whatever stands in the bytes

abbrev pub size_of : AddressKind → ℕ → ℕ
size_of Ipv4 n = 4
size_of Ipv6 n = 16
size_of Domain n = n

abbrev pub target_of : Target → RawTarget
target_of t = record { len = size_of t.kind t.len; port = t.port; kind = kinds.kind_number t.kind; bytes = t.bytes }
