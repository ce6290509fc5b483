-- Demand 1 and F-7: what preparing returns; and of any session which call is in turn, what a refused one leaves, and what an accepted one does beside what demand 3 says.
use Rattle.std.specs.Prelude.{ℕ, ◌<◌, ◌≡◌, ◌⊎◌, true, false, List, [], ◌∷◌, length, drop}
use Rattle.protocol.specs.declared.Address.{Address}
use Rattle.protocol.specs.Answers.{Accepted, Refused}
use Rattle.protocol.specs.declared.Outcome.{Outcome}
use Rattle.protocol.specs.declared.Outcome.TheVariants.{Waiting, Open, Failed}
use Rattle.protocol.specs.declared.SocksError.{SocksError}
use Rattle.protocol.specs.declared.SocksError.TheVariants.{UnexpectedEof}
use Rattle.protocol.specs.Numbers.{answer_number, outcome_number}
use Rattle.protocol.specs.Bound.{unbound, address_of}
use Rattle.protocol.specs.Opening.{Opening, start_room, delivery_room, Condition, ◌↣◌, Answers}
use Rattle.address_format.specs.endpoint.Text.{bound_text}
use Rattle.address_format.specs.endpoint.Written.{unwritten, write_text}
use Rattle.client_session.specs.declared.Session.{Session}
use Rattle.client_session.specs.declared.Prepared.{Prepared}
use Rattle.client_session.specs.Session.{outcome, bound, write_bound}
use Rattle.client_session.specs.Calls.{Call, refusal, empty_session, start, deliver, end}
use Rattle.socks.specs.Demand3.{tunnel_of}
use Rattle.talk.specs.Tunnel.{Delivery, Behind}

-- what is told of a session, and how many bytes it holds (F-11)
pub record Tells (s : Session) (how : Outcome) (at : Address) (tries held : ℕ) : Type 0 where
  pub outcomes : outcome s ≡ how
  pub bounds : bound s ≡ at
  pub attempts : s.attempts ≡ tries
  pub holds : s.held ≡ held

abbrev pub no_address : Address
no_address = address_of unbound

-- ---- preparing, with any arguments

pub record Preparing (p : Prepared) (cs : List Condition) : Type 0 where
  -- each number comes exactly when its condition holds and none before it
  pub number : Answers (answer_number p.answer) cs
  -- an accepted one is not started, and waits
  pub unstarted : p.answer ≡ Accepted → p.session.started ≡ false
  pub waits : p.answer ≡ Accepted → Tells p.session Waiting no_address 0 0
  -- a refused one comes back empty, failed with that number
  pub empty : (e : SocksError) → p.answer ≡ Refused e → p.session ≡ empty_session e
  pub fails : (e : SocksError) → p.answer ≡ Refused e → Tells p.session (Failed e) no_address 0 0

-- ---- a start, a delivery, an end, and a bound address's text

-- a refused call uses, sends and changes nothing
abbrev pub Untouched : Call → Session → List ℕ → Type 0
Untouched c s out = (e : SocksError) → c.answer ≡ Refused e → c ≡ refusal e s out

-- of a session that asks for so much output at its start, and at a delivery
pub record InTurn (first next : ℕ) (s : Session) : Type 0 where
  -- 16 unless it waits, then 22 for a second start, and for a delivery or an end before it, then 1
  pub start_number : (out : List ℕ) → Answers (answer_number (start s out).answer) (((outcome s ≡ Waiting → ⊥) ↣ 16) ∷ ((s.started ≡ true) ↣ 22) ∷ ((length out < first) ↣ 1) ∷ [])
  pub deliver_number : (piece out : List ℕ)
      → Answers (answer_number (deliver s piece out).answer) (((outcome s ≡ Waiting → ⊥) ↣ 16) ∷ ((s.started ≡ false) ↣ 22) ∷ ((length out < next) ↣ 1) ∷ [])
  pub end_number : Answers (answer_number (end s).answer) (((outcome s ≡ Waiting → ⊥) ↣ 16) ∷ ((s.started ≡ false) ↣ 22) ∷ [])
  pub start_untouched : (out : List ℕ) → Untouched (start s out) s out
  pub deliver_untouched : (piece out : List ℕ) → Untouched (deliver s piece out) s out
  pub end_untouched : Untouched (end s) s []
  -- an accepted start has started it, and nothing else that is told changes
  pub start_marks : (out : List ℕ) → (start s out).answer ≡ Accepted → (start s out).session.started ≡ true
  pub start_keeps : (out : List ℕ) → (start s out).answer ≡ Accepted → Tells (start s out).session (outcome s) (bound s) s.attempts s.held
  -- a delivery leaves it started, or not, and an empty piece in turn changes nothing
  pub deliver_keeps : (piece out : List ℕ) → (deliver s piece out).session.started ≡ s.started
  pub nothing : (out : List ℕ) → (deliver s [] out).answer ≡ Accepted → deliver s [] out ≡ record { answer = Accepted; session = s; used = 0; sent = 0; output = out }
  -- an accepted end: 9
  pub end_fails : (end s).answer ≡ Accepted → Tells (end s).session (Failed UnexpectedEof) no_address s.attempts 0
  pub end_nine : (end s).answer ≡ Accepted → outcome_number (outcome (end s).session) ≡ 9
  -- the bytes behind what is sent are as they were
  pub start_behind : (out : List ℕ) → Behind (start s out) out
  pub deliver_behind : (piece out : List ℕ) → Behind (deliver s piece out) out
  -- F-1: 17 unless it is open, then 18 for a buffer shorter than the text; a refused call writes nothing, an accepted one the text and nothing behind it
  pub text_number : (buffer : List ℕ) → Answers (answer_number (write_bound s buffer).answer) (((outcome s ≡ Open → ⊥) ↣ 17) ∷ ((length buffer < length (bound_text (bound s))) ↣ 18) ∷ [])
  pub text_untouched : (buffer : List ℕ) (e : SocksError) → (write_bound s buffer).answer ≡ Refused e → write_bound s buffer ≡ unwritten e buffer
  pub text_writes : (buffer : List ℕ) → (write_bound s buffer).answer ≡ Accepted → write_bound s buffer ≡ write_text (bound_text (bound s)) buffer
  pub text_behind : (buffer : List ℕ) → drop (write_bound s buffer).len (write_bound s buffer).buffer ≡ drop (write_bound s buffer).len buffer
  pub text_size : (buffer : List ℕ) → length (write_bound s buffer).buffer ≡ length buffer

-- every session value asks as one of v5 or one of v4 does
abbrev pub AnyInTurn : Type 0
AnyInTurn = (s : Session) → InTurn 778 778 s ⊎ InTurn 1024 262 s

-- what preparing returned asks as its opening does, and so does every session behind a start and a list of deliveries
pub record Asking (p : Prepared) (o : Opening) : Type 0 where
  pub prepared : InTurn (start_room o) (delivery_room o) p.session
  pub begun : (out : List ℕ) → (start p.session out).answer ≡ Accepted → (ds : List Delivery) → InTurn (start_room o) (delivery_room o) (tunnel_of o (start p.session out).session [] ds).session
