-- F-3: of any lent bytes as a proxy's end: the numbers that the calls on them answer, lent 1,024 bytes, so that 1 is not met; and what they leave.
use Rattle.std.specs.Prelude.{ℕ, ◌<◌, ◌≡◌, ◌⊎◌, List, [], ◌∷◌, length, take}
use Rattle.protocol.specs.declared.Version.{Version}
use Rattle.protocol.specs.Bytes.{Bytes}
use Rattle.protocol.specs.Numbers.{answer_number}
use Rattle.protocol.specs.Bound.{Endpoint}
use Rattle.protocol.specs.Opening.{◌↣◌, Answers}
use Rattle.proxy_spec.specs.declared.Stage.TheVariants.{Asked}
use Rattle.proxy_spec.specs.End.{reply_to, status_to, success}
use Rattle.proxy_session.specs.Calls.{set_up, deliver, answer, end}
use Rattle.proxy.specs.Turns.{Given, nowhere}
use Rattle.raw_numbers.specs.Numbers.{truth}
use Rattle.lent_numbers.specs.declared.told.RawOutcome.{RawOutcome}
use Rattle.lent_proxy.specs.declared.telling.RawTarget.{RawTarget}
use Rattle.lent_proxy.specs.State.{server_at, state_of}
use Rattle.lent_proxy.specs.Calls.{step_by, target_of}
use Rattle.lent_tunnel.specs.Turns.{Untouched}
use Rattle.lent_tunnel.specs.Served.{lent_deliver, lent_answer, lent_end, standing_at, target_at}
use Rattle.talk.specs.Tunnel.{Behind}

-- what is told of lent bytes
pub record LentTells (s : List ℕ) (how : RawOutcome) (to : RawTarget) : Type 0 where
  pub standings : standing_at s ≡ how
  pub targets : target_at s ≡ to

abbrev pub stands : ℕ → ℕ → ℕ → RawOutcome
stands state number status = record { state = state; number = number; status = status }

pub record LentInTurn (s : List ℕ) (out : List ℕ) : Type 0 where
  -- 16 for bytes and an end unless it waits, and for the caller's answer unless it is asked
  pub deliver_number : (piece : List ℕ) → Answers (lent_deliver s piece out).answer ((((standing_at s).state ≡ 0 → ⊥) ↣ 16) ∷ [])
  pub answering_number : (status : ℕ) (x : Endpoint) → Answers (lent_answer s status x out).answer ((((standing_at s).state ≡ 3 → ⊥) ↣ 16) ∷ [])
  pub end_number : Answers (lent_end s).answer ((((standing_at s).state ≡ 0 → ⊥) ↣ 16) ∷ [])
  -- a refused call leaves every byte of them and of the output
  pub deliver_untouched : (piece : List ℕ) → Untouched (lent_deliver s piece out) s out
  pub answer_untouched : (status : ℕ) (x : Endpoint) → Untouched (lent_answer s status x out) s out
  pub end_untouched : Untouched (lent_end s) s []
  -- an answer uses nothing, an end uses and sends nothing
  pub answer_used : (status : ℕ) (x : Endpoint) → (lent_answer s status x out).used ≡ 0
  pub end_used : (lent_end s).used ≡ 0
  pub end_sent : (lent_end s).sent ≡ 0
  -- the bytes behind what is sent are as they were
  pub deliver_behind : (piece : List ℕ) → Behind (lent_deliver s piece out) out
  pub answer_behind : (status : ℕ) (x : Endpoint) → Given x → Behind (lent_answer s status x out) out
  -- how the end then stands is told with every call
  pub deliver_stands : (piece : List ℕ) → Bytes piece → (step_by (deliver (server_at s) piece out)).outcome ≡ standing_at (lent_deliver s piece out).session
  pub answer_stands : (status : ℕ) (x : Endpoint) → (step_by (answer (server_at s) status x out)).outcome ≡ standing_at (lent_answer s status x out).session
  pub end_stands : (step_by (end (server_at s))).outcome ≡ standing_at (lent_end s).session
  -- an accepted end fails it with 9
  pub end_fails : (lent_end s).answer ≡ 0 → LentTells (lent_end s).session (stands 2 9 0) (target_of nowhere)
  -- an answer to an end that was asked in a version: sent, and then open with its destination, or failed with 15 and the status sent
  pub answer_sends : (v : Version) → (server_at s).stage ≡ Asked v → (status : ℕ) (x : Endpoint) → take (lent_answer s status x out).sent (lent_answer s status x out).output ≡ reply_to v status x
  pub answer_opens : (v : Version) → (server_at s).stage ≡ Asked v → (status : ℕ) (x : Endpoint) → status_to v status ≡ success v
      → LentTells (lent_answer s status x out).session (stands 1 0 0) (target_at s)
  pub answer_fails : (v : Version) → (server_at s).stage ≡ Asked v → (status : ℕ) (x : Endpoint) → (status_to v status ≡ success v → ⊥)
      → LentTells (lent_answer s status x out).session (stands 2 15 (status_to v status)) (target_of nowhere)

-- of any bytes as many as an end has
abbrev pub LentTurns : Type 0
LentTurns = (s : List ℕ) → Bytes s → length s ≡ 1539 → (out : List ℕ) → length out ≡ 1024 → LentInTurn s out

-- what a set-up leaves: its number, and bytes that mean an end that waits, or has failed with 5
pub record LentSettingUp (authenticates : ℕ) (user password : List ℕ) : Type 0 where
  pub number : Answers (answer_number (set_up (truth authenticates) user password).answer) ((((authenticates ≡ 0 → ⊥) × ((255 < length user) ⊎ (255 < length password))) ↣ 5) ∷ [])
  pub waits : answer_number (set_up (truth authenticates) user password).answer ≡ 0 → LentTells (state_of (set_up (truth authenticates) user password).server) (stands 0 0 0) (target_of nowhere)
  pub fails : (answer_number (set_up (truth authenticates) user password).answer ≡ 0 → ⊥) → LentTells (state_of (set_up (truth authenticates) user password).server) (stands 2 5 0) (target_of nowhere)
