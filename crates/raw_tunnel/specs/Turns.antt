-- Of any raw session: the numbers that its calls answer, lent 1,024 bytes. 1 is not met.
use Rattle.std.specs.Prelude.{ℕ, ◌<◌, ◌≡◌, List, [], ◌∷◌, length, drop}
use Rattle.protocol.specs.Answers.{Refused}
use Rattle.protocol.specs.declared.SocksError.{SocksError}
use Rattle.protocol.specs.Opening.{V5, V4, Condition, ◌↣◌, conditions5, conditions4, Answers}
use Rattle.address_format.specs.endpoint.Text.{bound_text}
use Rattle.client_session.specs.declared.Prepared.{Prepared}
use Rattle.client_session.specs.Session.{bound, write_bound}
use Rattle.client_session.specs.Calls.{Call, prepare5, prepare4, end}
use Rattle.socks.specs.Turns.{no_address}
use Rattle.raw_session.specs.declared.RawSession.{RawSession}
use Rattle.raw_session.specs.Raw.{session_of, raw_of, zeros}
use Rattle.protocol.specs.Numbers.{number, status, answer_number}
use Rattle.raw_session.specs.declared.RawOutcome.{RawOutcome}
use Rattle.raw_openings.specs.Given.{prepared_step}
use Rattle.raw_calls.specs.Calls.{step_by}
use Rattle.raw_told.specs.declared.RawAddress.{RawAddress}
use Rattle.raw_told.specs.Told.{raw_outcome, address_of, raw_bound, raw_attempts}
use Rattle.raw_tunnel.specs.Demand3.{returned, raw_start, raw_deliver}
use Rattle.talk.specs.Tunnel.{Answer, Behind}

abbrev pub raw_end : RawSession → Answer RawSession ℕ
raw_end r = returned (end (session_of r))

-- what is told of a session in numbers
pub record RawTells (r : RawSession) (how : RawOutcome) (at : RawAddress) (tries : ℕ) : Type 0 where
  pub outcomes : raw_outcome r ≡ how
  pub bounds : raw_bound r ≡ at
  pub attempts : raw_attempts r ≡ tries

-- a refused call uses and sends nothing, and leaves the output, and the session as its numbers are written
abbrev pub Untouched : Answer RawSession ℕ → RawSession → List ℕ → Type 0
Untouched a r out = (a.answer ≡ 0 → ⊥) → a ≡ record { answer = a.answer; session = raw_of (session_of r); used = 0; sent = 0; output = out }

pub record RawInTurn (r : RawSession) (out : List ℕ) : Type 0 where
  -- 16 unless it waits; then 22 for a second start, and for a delivery or an end before it
  pub start_number : Answers (raw_start r out).answer ((((raw_outcome r).state ≡ 0 → ⊥) ↣ 16) ∷ ((r.started ≡ 0 → ⊥) ↣ 22) ∷ [])
  pub deliver_number : (piece : List ℕ) → Answers (raw_deliver r piece out).answer ((((raw_outcome r).state ≡ 0 → ⊥) ↣ 16) ∷ ((r.started ≡ 0) ↣ 22) ∷ [])
  pub end_number : Answers (raw_end r).answer ((((raw_outcome r).state ≡ 0 → ⊥) ↣ 16) ∷ ((r.started ≡ 0) ↣ 22) ∷ [])
  pub start_untouched : Untouched (raw_start r out) r out
  pub deliver_untouched : (piece : List ℕ) → Untouched (raw_deliver r piece out) r out
  pub end_untouched : Untouched (raw_end r) r []
  -- a start uses nothing, an end uses and sends nothing
  pub start_used : (raw_start r out).used ≡ 0
  pub end_used : (raw_end r).used ≡ 0
  pub end_sent : (raw_end r).sent ≡ 0
  -- an accepted start marks the session started, and nothing else that is told changes; an accepted end fails it with 9
  pub start_marks : (raw_start r out).answer ≡ 0 → (raw_start r out).session.started ≡ 1
  pub start_keeps : (raw_start r out).answer ≡ 0 → RawTells (raw_start r out).session (raw_outcome r) (raw_bound r) (raw_attempts r)
  pub end_fails : (raw_end r).answer ≡ 0 → RawTells (raw_end r).session (record { state = 2; number = 9; status = 0 }) (address_of no_address) (raw_attempts r)
  -- the bytes behind what is sent are as they were
  pub start_behind : Behind (raw_start r out) out
  pub deliver_behind : (piece : List ℕ) → Behind (raw_deliver r piece out) out
  -- a text of a session that is not open is refused with 17, and of one that is with 18, which the exported call does not meet; nothing behind a text is touched
  pub text_number : (buffer : List ℕ)
      → Answers (answer_number (write_bound (session_of r) buffer).answer) ((((raw_outcome r).state ≡ 1 → ⊥) ↣ 17) ∷ ((length buffer < length (bound_text (bound (session_of r)))) ↣ 18) ∷ [])
  pub text_behind : (buffer : List ℕ) → drop (write_bound (session_of r) buffer).len (write_bound (session_of r) buffer).buffer ≡ drop (write_bound (session_of r) buffer).len buffer

abbrev pub RawTurns : Type 0
RawTurns = (r : RawSession) (out : List ℕ) → length out ≡ 1024 → RawInTurn r out

-- the outcome that a call returns is that of the session that it returns
abbrev pub StepsTold : Type 0
StepsTold = (c : Call) → (step_by c).outcome ≡ raw_outcome (step_by c).session

-- what a call that prepares returns: its number, no counts, and a session that waits, not started, or has failed with that number
pub record RawPreparing (p : Prepared) (cs : List Condition) : Type 0 where
  pub answers : Answers (prepared_step p).answer cs
  pub used : (prepared_step p).used ≡ 0
  pub sent : (prepared_step p).sent ≡ 0
  pub unstarted : (prepared_step p).answer ≡ 0 → (prepared_step p).session.started ≡ 0
  pub waits : (prepared_step p).answer ≡ 0 → RawTells (prepared_step p).session (record { state = 0; number = 0; status = 0 }) (address_of no_address) 0
  pub fails : (e : SocksError) → p.answer ≡ Refused e → RawTells (prepared_step p).session (record { state = 2; number = number e; status = status e }) (address_of no_address) 0

abbrev pub RawPrepares : Type 0
RawPrepares = ((a : V5) → RawPreparing (prepare5 a) (conditions5 a)) × ((a : V4) → RawPreparing (prepare4 a) (conditions4 a))

-- all zeros is a session that refuses everything
pub record Zeros : Type 0 where
  pub stands : raw_outcome zeros ≡ record { state = 2; number = 16; status = 0 }
  pub start : (out : List ℕ) → (raw_start zeros out).answer ≡ 16
  pub deliver : (piece out : List ℕ) → (raw_deliver zeros piece out).answer ≡ 16
  pub end : (raw_end zeros).answer ≡ 16
  pub text : (buffer : List ℕ) → answer_number (write_bound (session_of zeros) buffer).answer ≡ 17
