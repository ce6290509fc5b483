-- 01, "Delivery", and F-2: the turns of a delivery: what a stage does with the unread bytes.
use Rattle.std.specs.Prelude.{ℕ, ◌+◌, ◌≤◌, ◌≡◌, List, length, drop, Option, Some, None}
use Rattle.protocol.specs.declared.Reply.{Reply}
use Rattle.protocol.specs.Answers.{Decision, Undecided, Decided}
use Rattle.protocol.specs.Bound.{Endpoint, bound_by}
use Rattle.protocol.specs.Replies.{decide}
use Rattle.protocol.specs.Client.{Kept, talk_at, client}
use Rattle.client_stages.specs.declared.due.Lengths.{Lengths}
use Rattle.client_stages.specs.declared.due.Stage.{Stage}
use Rattle.client_stages.specs.declared.due.Stage.TheVariants.{Awaiting, Open, Failed}
use Rattle.client_stages.specs.due.Stages.{SideFed, session_at}
use Rattle.client_stages.specs.due.Parts.{part, requests_of}
use Rattle.client_stages.specs.due.Due.{due_judged, due_from, still_due}
use Rattle.client_delivery.specs.declared.turns.Turn.{Turn}
use Rattle.client_delivery.specs.bound_address.Named.{last_of, Whole}
use Rattle.talk.specs.Talk.{done, failed, ended, unmoved, feed}
use Rattle.talk.specs.Attempts.{decided_in}

-- requests of these lengths, whatever their bytes
abbrev pub kept_in : Lengths → List ℕ → Kept
kept_in l b = requests_of (record { lengths = l; bytes = b })

-- what bytes do at a stage; one that is open is bound to an address
abbrev pub on_stage : Kept → Stage → Endpoint → List ℕ → SideFed
on_stage c (Awaiting e) x bs = feed (client c) (talk_at c e) bs
on_stage c Open x bs = unmoved (ended (done x))
on_stage c (Failed y) x bs = unmoved (ended (failed y))

-- where a delivery stands behind a reply: at what its verdict makes due, with its bytes read and F-11 one more reply decided
abbrev pub turned : Lengths → Reply → Turn → Decision → Option Turn
turned l e t Undecided = None
turned l e t (Decided n v) =
    Some (record { stage = (due_judged l e v).stage; begin = t.place; place = t.place + n; sent = t.sent + (due_judged l e v).len; decided = t.decided + 1 })

-- how many replies bytes decide from a stage on
abbrev pub decided_at : Kept → Stage → List ℕ → ℕ
decided_at c (Awaiting e) bs = decided_in (client c) (talk_at c e) bs
decided_at c Open bs = 0
decided_at c (Failed x) bs = 0

-- nothing is left to do: the stage has ended, or its reply is undecided; what it then holds fits the hold
abbrev pub Rests : Stage → List ℕ → Type 0
Rests (Awaiting e) rest = (decide e rest ≡ Undecided) × (length rest ≤ 261)
Rests Open rest = Unit {0}
Rests (Failed x) rest = Unit {0}

-- what the last reply names, where a session that waited for a reply reads it at a place
abbrev pub named_at : Reply → ℕ → List ℕ → Endpoint
named_at e begin bytes = bound_by (last_of e) (drop begin bytes)

-- an open session has read the last reply whole
abbrev pub Ready : Stage → Reply → ℕ → List ℕ → Type 0
Ready (Awaiting w) e begin bytes = Unit {0}
Ready Open e begin bytes = (begin ≤ length bytes) × Whole e (drop begin bytes)
Ready (Failed x) e begin bytes = Unit {0}

-- a delivery worked through: all that the bytes do, whatever the bytes of the requests
pub record Worked (l : Lengths) (e : Reply) (bytes : List ℕ) (stage : Stage) (begin place sent decided : ℕ) : Type 0 where
  pub whole : (b : List ℕ) → feed (client (kept_in l b)) (talk_at (kept_in l b) e) bytes ≡ record { session = session_at stage (named_at e begin bytes) (drop place bytes); sent = part b (due_from l e) sent; place = place }
  pub decides : (b : List ℕ) → decided_in (client (kept_in l b)) (talk_at (kept_in l b) e) bytes ≡ decided
  pub most : decided ≤ 3
  pub inside : place ≤ length bytes
  pub rests : Rests stage (drop place bytes)
  pub ready : Ready stage e begin bytes
  pub few : sent ≤ still_due (Awaiting e)
