-- Of any lent bytes: the numbers that the calls on them answer, lent 1,024 bytes, so that 1 is not met; and what they leave.
use Rattle.std.specs.Prelude.{ℕ, ◌<◌, ◌≡◌, Bool, true, false, List, [], ◌∷◌, length, drop, replicate}
use Rattle.protocol.specs.Answers.{Accepted, Refused}
use Rattle.protocol.specs.declared.SocksError.{SocksError}
use Rattle.protocol.specs.Numbers.{number, status, answer_number}
use Rattle.protocol.specs.Bytes.{Bytes}
use Rattle.protocol.specs.Opening.{Condition, ◌↣◌, conditions5, conditions4, Answers}
use Rattle.address_format.specs.endpoint.Text.{bound_text}
use Rattle.client_session.specs.declared.Prepared.{Prepared}
use Rattle.client_session.specs.Session.{bound, write_bound}
use Rattle.client_session.specs.Calls.{prepare5, prepare4, end}
use Rattle.socks.specs.Turns.{no_address}
use Rattle.lent_numbers.specs.declared.told.RawOutcome.{RawOutcome}
use Rattle.lent_session.specs.declared.preparing.RawConfig.{RawConfig}
use Rattle.lent_session.specs.declared.telling.RawAddress.{RawAddress}
use Rattle.lent_session.specs.State.{session_at, state_of}
use Rattle.lent_session.specs.Given.{given5, given4}
use Rattle.lent_session.specs.Calls.{address_of, bound_at}
use Rattle.lent_tunnel.specs.Demand3.{returned, lent_start, lent_deliver, outcome_at, attempts_at}
use Rattle.talk.specs.Tunnel.{Answer, Behind}

abbrev pub lent_end : List ℕ → Answer (List ℕ) ℕ
lent_end s = returned s (end (session_at s))

abbrev pub started_at : List ℕ → Bool
started_at s = (session_at s).started

-- what is told of lent bytes
pub record LentTells (s : List ℕ) (how : RawOutcome) (at : RawAddress) (tries : ℕ) : Type 0 where
  pub outcomes : outcome_at s ≡ how
  pub bounds : bound_at s ≡ at
  pub attempts : attempts_at s ≡ tries

-- a refused call uses and sends nothing, and leaves every lent byte and the output as they were
abbrev pub Untouched : Answer (List ℕ) ℕ → List ℕ → List ℕ → Type 0
Untouched a s out = (a.answer ≡ 0 → ⊥) → a ≡ record { answer = a.answer; session = s; used = 0; sent = 0; output = out }

pub record LentInTurn (s : List ℕ) (out : List ℕ) : Type 0 where
  -- 16 unless it waits; then 22 for a second start, and for a delivery or an end before it
  pub start_number : Answers (lent_start s out).answer ((((outcome_at s).state ≡ 0 → ⊥) ↣ 16) ∷ ((started_at s ≡ true) ↣ 22) ∷ [])
  pub deliver_number : (piece : List ℕ) → Answers (lent_deliver s piece out).answer ((((outcome_at s).state ≡ 0 → ⊥) ↣ 16) ∷ ((started_at s ≡ false) ↣ 22) ∷ [])
  pub end_number : Answers (lent_end s).answer ((((outcome_at s).state ≡ 0 → ⊥) ↣ 16) ∷ ((started_at s ≡ false) ↣ 22) ∷ [])
  pub start_untouched : Untouched (lent_start s out) s out
  pub deliver_untouched : (piece : List ℕ) → Untouched (lent_deliver s piece out) s out
  pub end_untouched : Untouched (lent_end s) s []
  -- a start uses nothing, an end uses and sends nothing
  pub start_used : (lent_start s out).used ≡ 0
  pub end_used : (lent_end s).used ≡ 0
  pub end_sent : (lent_end s).sent ≡ 0
  -- an accepted start marks the session started, and nothing else that is told changes; an accepted end fails it with 9
  pub start_marks : (lent_start s out).answer ≡ 0 → started_at (lent_start s out).session ≡ true
  pub start_keeps : (lent_start s out).answer ≡ 0 → LentTells (lent_start s out).session (outcome_at s) (bound_at s) (attempts_at s)
  pub end_fails : (lent_end s).answer ≡ 0 → LentTells (lent_end s).session (record { state = 2; number = 9; status = 0 }) (address_of no_address) (attempts_at s)
  -- the bytes behind what is sent are as they were
  pub start_behind : Behind (lent_start s out) out
  pub deliver_behind : (piece : List ℕ) → Behind (lent_deliver s piece out) out
  -- a text of a session that is not open is refused with 17, and of one that is with 18, which the exported call does not meet; nothing behind a text is touched
  pub text_number : (buffer : List ℕ)
      → Answers (answer_number (write_bound (session_at s) buffer).answer) ((((outcome_at s).state ≡ 1 → ⊥) ↣ 17) ∷ ((length buffer < length (bound_text (bound (session_at s)))) ↣ 18) ∷ [])
  pub text_behind : (buffer : List ℕ) → drop (write_bound (session_at s) buffer).len (write_bound (session_at s) buffer).buffer ≡ drop (write_bound (session_at s) buffer).len buffer

-- what a call that prepares leaves: its number, and bytes that mean a session that waits, not started, or has failed with that number
pub record LentPreparing (p : Prepared) (cs : List Condition) : Type 0 where
  pub answers : Answers (answer_number p.answer) cs
  pub unstarted : p.answer ≡ Accepted → started_at (state_of p.session) ≡ false
  pub waits : p.answer ≡ Accepted → LentTells (state_of p.session) (record { state = 0; number = 0; status = 0 }) (address_of no_address) 0
  pub fails : (e : SocksError) → p.answer ≡ Refused e → LentTells (state_of p.session) (record { state = 2; number = number e; status = status e }) (address_of no_address) 0

-- of any bytes as many as a session has
abbrev pub LentTurns : Type 0
LentTurns = (s : List ℕ) → Bytes s → length s ≡ 1306 → (out : List ℕ) → length out ≡ 1024 → LentInTurn s out

-- for any arguments of the calls that prepare
abbrev pub LentPrepares : Type 0
LentPrepares =
    ((c : RawConfig) (host : List ℕ) (port : ℕ) (user password records : List ℕ)
    → LentPreparing (prepare5 (given5 c host port user password records)) (conditions5 (given5 c host port user password records)))
    × ((local_dns : ℕ) (host : List ℕ) (port : ℕ) (records : List ℕ) → LentPreparing (prepare4 (given4 local_dns host port records)) (conditions4 (given4 local_dns host port records)))

-- all zeros
abbrev pub zeros : List ℕ
zeros = replicate 1306 0

-- it refuses everything
pub record Zeros : Type 0 where
  pub stands : outcome_at zeros ≡ record { state = 2; number = 16; status = 0 }
  pub start : (out : List ℕ) → (lent_start zeros out).answer ≡ 16
  pub deliver : (piece out : List ℕ) → (lent_deliver zeros piece out).answer ≡ 16
  pub end : (lent_end zeros).answer ≡ 16
  pub text : (buffer : List ℕ) → answer_number (write_bound (session_at zeros) buffer).answer ≡ 17
