-- Of any end in numbers: the numbers that its calls answer, lent 1,024 bytes, so that 1 is not met; and what they leave.
use Rattle.std.specs.Prelude.{ℕ, ◌<◌, ◌≡◌, ◌⊎◌, List, [], ◌∷◌, length, take}
use Rattle.protocol.specs.declared.Version.{Version}
use Rattle.protocol.specs.Bound.{Endpoint}
use Rattle.protocol.specs.Opening.{◌↣◌, Answers}
use Rattle.proxy_spec.specs.declared.Stage.TheVariants.{Asked}
use Rattle.proxy_spec.specs.End.{reply_to, status_to, success}
use Rattle.proxy_session.specs.Calls.{Call, set_up, deliver, answer, end}
use Rattle.proxy.specs.Turns.{Given, nowhere}
use Rattle.raw_numbers.specs.Numbers.{truth}
use Rattle.raw_session.specs.declared.RawOutcome.{RawOutcome}
use Rattle.raw_server.specs.declared.RawServer.{RawServer}
use Rattle.raw_server.specs.Raw.{server_of, raw_of}
use Rattle.raw_proxy.specs.Calls.{set_up_served, served_by}
use Rattle.raw_asked.specs.declared.RawTarget.{RawTarget}
use Rattle.raw_asked.specs.Asked.{target_of}
use Rattle.raw_tunnel.specs.Served.{returned, raw_standing, raw_target}
use Rattle.talk.specs.Tunnel.{Answer, Behind}

-- what is told of an end in numbers
pub record RawTells (r : RawServer) (how : RawOutcome) (to : RawTarget) : Type 0 where
  pub standings : raw_standing r ≡ how
  pub targets : raw_target r ≡ to

abbrev pub stands : ℕ → ℕ → ℕ → RawOutcome
stands state number status = record { state = state; number = number; status = status }

abbrev pub raw_answer : RawServer → ℕ → Endpoint → List ℕ → Answer RawServer ℕ
raw_answer r status x out = returned (answer (server_of r) status x out)

abbrev pub raw_end : RawServer → Answer RawServer ℕ
raw_end r = returned (end (server_of r))

-- a refused call uses and sends nothing, and leaves the output, and the end as its numbers are written
abbrev pub Untouched : Answer RawServer ℕ → RawServer → List ℕ → Type 0
Untouched a r out = (a.answer ≡ 0 → ⊥) → a ≡ record { answer = a.answer; session = raw_of (server_of r); used = 0; sent = 0; output = out }

pub record RawInTurn (r : RawServer) (out : List ℕ) : Type 0 where
  -- 16 for bytes and an end unless it waits, and for the caller's answer unless it is asked
  pub deliver_number : (piece : List ℕ) → Answers (returned (deliver (server_of r) piece out)).answer ((((raw_standing r).state ≡ 0 → ⊥) ↣ 16) ∷ [])
  pub answering_number : (status : ℕ) (x : Endpoint) → Answers (raw_answer r status x out).answer ((((raw_standing r).state ≡ 3 → ⊥) ↣ 16) ∷ [])
  pub end_number : Answers (raw_end r).answer ((((raw_standing r).state ≡ 0 → ⊥) ↣ 16) ∷ [])
  pub deliver_untouched : (piece : List ℕ) → Untouched (returned (deliver (server_of r) piece out)) r out
  pub answer_untouched : (status : ℕ) (x : Endpoint) → Untouched (raw_answer r status x out) r out
  pub end_untouched : Untouched (raw_end r) r []
  -- an answer uses nothing, an end uses and sends nothing
  pub answer_used : (status : ℕ) (x : Endpoint) → (raw_answer r status x out).used ≡ 0
  pub end_used : (raw_end r).used ≡ 0
  pub end_sent : (raw_end r).sent ≡ 0
  -- the bytes behind what is sent are as they were
  pub deliver_behind : (piece : List ℕ) → Behind (returned (deliver (server_of r) piece out)) out
  pub answer_behind : (status : ℕ) (x : Endpoint) → Given x → Behind (raw_answer r status x out) out
  -- an accepted end fails it with 9
  pub end_fails : (raw_end r).answer ≡ 0 → RawTells (raw_end r).session (stands 2 9 0) (target_of nowhere)
  -- an answer to an end that was asked in a version: sent, and then open with its destination, or failed with 15 and the status sent
  pub answer_sends : (v : Version) → (server_of r).stage ≡ Asked v → (status : ℕ) (x : Endpoint) → take (raw_answer r status x out).sent (raw_answer r status x out).output ≡ reply_to v status x
  pub answer_opens : (v : Version) → (server_of r).stage ≡ Asked v → (status : ℕ) (x : Endpoint) → status_to v status ≡ success v
      → RawTells (raw_answer r status x out).session (stands 1 0 0) (raw_target r)
  pub answer_fails : (v : Version) → (server_of r).stage ≡ Asked v → (status : ℕ) (x : Endpoint) → (status_to v status ≡ success v → ⊥)
      → RawTells (raw_answer r status x out).session (stands 2 15 (status_to v status)) (target_of nowhere)

abbrev pub RawTurns : Type 0
RawTurns = (r : RawServer) (out : List ℕ) → length out ≡ 1024 → RawInTurn r out

-- how an end stands is told with every call
abbrev pub StandsTold : Type 0
StandsTold = (c : Call) → (served_by c).outcome ≡ raw_standing (served_by c).server

-- what a set-up returns: its number, no counts, and an end that waits, or has failed with 5
pub record RawSettingUp (authenticates : ℕ) (user password : List ℕ) : Type 0 where
  pub number : Answers (set_up_served (set_up (truth authenticates) user password)).answer ((((authenticates ≡ 0 → ⊥) × ((255 < length user) ⊎ (255 < length password))) ↣ 5) ∷ [])
  pub used : (set_up_served (set_up (truth authenticates) user password)).used ≡ 0
  pub sent : (set_up_served (set_up (truth authenticates) user password)).sent ≡ 0
  pub waits : (set_up_served (set_up (truth authenticates) user password)).answer ≡ 0 → RawTells (set_up_served (set_up (truth authenticates) user password)).server (stands 0 0 0) (target_of nowhere)
  pub fails : ((set_up_served (set_up (truth authenticates) user password)).answer ≡ 0 → ⊥) → RawTells (set_up_served (set_up (truth authenticates) user password)).server (stands 2 5 0) (target_of nowhere)
