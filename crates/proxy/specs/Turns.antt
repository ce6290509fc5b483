-- F-3's checks: 5 at its set-up; of any end, set up or not, 16 for a call out of turn, then 1 for output under 262, and a refused call touches nothing.
use Rattle.std.specs.Prelude.{ℕ, ◌≤◌, ◌<◌, ◌≡◌, ◌⊎◌, Bool, true, false, List, [], ◌∷◌, length, take}
use Rattle.protocol.specs.Answers.{Accepted, Refused}
use Rattle.protocol.specs.declared.SocksError.{SocksError}
use Rattle.protocol.specs.declared.SocksError.TheVariants.{CredentialTooLong, UnexpectedEof, Command}
use Rattle.protocol.specs.declared.Version.{Version}
use Rattle.protocol.specs.Numbers.{number, answer_number}
use Rattle.protocol.specs.AddressReading.{Destination, ipv4, ipv6, domain}
use Rattle.protocol.specs.Bound.{Endpoint, unbound}
use Rattle.protocol.specs.Opening.{◌↣◌, Answers}
use Rattle.proxy_spec.specs.declared.Stage.TheVariants as stage
use Rattle.proxy_spec.specs.End.{reply_to, status_to, success}
use Rattle.proxy_decisions.specs.declared.destination.Target.{Target}
use Rattle.proxy_replies.specs.declared.stages.Outcome.{Outcome}
use Rattle.proxy_replies.specs.declared.stages.Outcome.TheVariants.{Waiting, Asked, Open, Failed}
use Rattle.proxy_session.specs.declared.Server.{Server}
use Rattle.proxy_session.specs.Server.{credential_of, outcome, destination, fresh}
use Rattle.proxy_session.specs.Calls.{Call, refusal, set_up, deliver, answer, end}
use Rattle.proxy.specs.Served.{handed_out}
use Rattle.talk.specs.Tunnel.{Behind}

-- an outcome's number: 0 unless it has failed
abbrev pub failure : Outcome → ℕ
failure Waiting = 0
failure Asked = 0
failure Open = 0
failure (Failed e) = number e

-- an address as the caller gives it: IPv4 or IPv6, of its size
abbrev pub Given : Endpoint → Type 0
Given x = GivenSize x.address
  where
    GivenSize : Destination → Type 0
    GivenSize (ipv4 bs) = length bs ≡ 4
    GivenSize (ipv6 bs) = length bs ≡ 16
    GivenSize (domain s) = ⊥

-- what is told of an end
pub record Tells (s : Server) (how : Outcome) (where_to : Target) : Type 0 where
  pub outcomes : outcome s ≡ how
  pub destinations : destination s ≡ where_to

-- what is handed out where no destination is known: IPv4 zeros and port 0
abbrev pub nowhere : Target
nowhere = handed_out unbound

-- set-up, with any arguments: 5 as in an opening, and no other number; a refused one comes back empty, failed with it, an accepted one waits
pub record SettingUp (authenticates : Bool) (user password : List ℕ) : Type 0 where
  pub number : Answers (answer_number (set_up authenticates user password).answer) ((((authenticates ≡ true) × ((255 < length user) ⊎ (255 < length password))) ↣ 5) ∷ [])
  pub empty : (e : SocksError) → (set_up authenticates user password).answer ≡ Refused e
      → (set_up authenticates user password).server ≡ fresh (stage.Failed CredentialTooLong) false (credential_of []) (credential_of [])
  pub refused : (e : SocksError) → (set_up authenticates user password).answer ≡ Refused e → Tells (set_up authenticates user password).server (Failed CredentialTooLong) nowhere
  pub accepted : (set_up authenticates user password).answer ≡ Accepted → Tells (set_up authenticates user password).server Waiting nowhere

-- a refused call answers with its number, and uses, sends and changes nothing
abbrev pub Untouched : Call → Server → List ℕ → Type 0
Untouched c s out = (e : SocksError) → c.answer ≡ Refused e → c ≡ refusal e s out

pub record InTurn (s : Server) : Type 0 where
  -- bytes are in turn while it waits, the caller's answer while it is asked
  pub deliver_number : (piece out : List ℕ) → Answers (answer_number (deliver s piece out).answer) (((outcome s ≡ Waiting → ⊥) ↣ 16) ∷ ((length out < 262) ↣ 1) ∷ [])
  pub answering_number : (status : ℕ) (x : Endpoint) (out : List ℕ)
      → Answers (answer_number (answer s status x out).answer) (((outcome s ≡ Asked → ⊥) ↣ 16) ∷ ((length out < 262) ↣ 1) ∷ [])
  pub end_number : Answers (answer_number (end s).answer) (((outcome s ≡ Waiting → ⊥) ↣ 16) ∷ [])
  pub deliver_untouched : (piece out : List ℕ) → Untouched (deliver s piece out) s out
  pub answer_untouched : (status : ℕ) (x : Endpoint) (out : List ℕ) → Untouched (answer s status x out) s out
  pub end_untouched : Untouched (end s) s []
  -- an end of stream in turn: 9
  pub end_fails : (end s).answer ≡ Accepted → Tells (end s).session (Failed UnexpectedEof) nowhere
  pub end_nine : (end s).answer ≡ Accepted → failure (outcome (end s).session) ≡ 9
  -- an empty piece in turn changes nothing
  pub nothing : (out : List ℕ) → (deliver s [] out).answer ≡ Accepted → deliver s [] out ≡ record { answer = Accepted; session = s; used = 0; sent = 0; output = out }
  -- the bytes behind what is sent are as they were
  pub deliver_behind : (piece out : List ℕ) → Behind (deliver s piece out) out
  pub answer_behind : (status : ℕ) (x : Endpoint) (out : List ℕ) → Given x → Behind (answer s status x out) out

-- the caller's answer to an end that was asked in a version, lent enough: the reply is sent, and the end is then open with its destination, or failed with 15 and the
-- status sent, and has none
pub record Answering (s : Server) (v : Version) (status : ℕ) (x : Endpoint) (out : List ℕ) : Type 0 where
  pub accepts : (answer s status x out).answer ≡ Accepted
  pub sends : take (answer s status x out).sent (answer s status x out).output ≡ reply_to v status x
  pub opens : status_to v status ≡ success v → Tells (answer s status x out).session Open (destination s)
  pub fails : (status_to v status ≡ success v → ⊥) → Tells (answer s status x out).session (Failed (Command (status_to v status))) nowhere
  pub fails_15 : (status_to v status ≡ success v → ⊥) → failure (outcome (answer s status x out).session) ≡ 15

abbrev pub AllAnswering : Type 0
AllAnswering = (s : Server) (v : Version) → s.stage ≡ stage.Asked v → (status : ℕ) (x : Endpoint) (out : List ℕ) → 262 ≤ length out → Answering s v status x out
