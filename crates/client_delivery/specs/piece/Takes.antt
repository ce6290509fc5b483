-- 01, "Delivery", and F-2: a piece taken: what it comes to, and what then stands at the hold's start.
use Rattle.std.specs.Prelude.{ℕ, ◌+◌, ◌-◌, ◌≤◌, ◌≡◌, List, ◌++◌, length, drop}
use Rattle.protocol.specs.declared.Reply.{Reply}
use Rattle.protocol.specs.declared.Bound.{Bound}
use Rattle.protocol.specs.Bound.{Endpoint, bytes_in, bound_of}
use Rattle.protocol.specs.Client.{talk_at, client}
use Rattle.client_stages.specs.declared.due.Lengths.{Lengths}
use Rattle.client_stages.specs.declared.due.Stage.{Stage}
use Rattle.client_stages.specs.declared.due.Stage.TheVariants.{Awaiting}
use Rattle.client_stages.specs.due.Stages.{SideSession, stage_of, holds_of, bound_after}
use Rattle.client_stages.specs.due.Parts.{part}
use Rattle.client_stages.specs.due.Due.{still_due}
use Rattle.client_delivery.specs.turns.Turns.{kept_in}
use Rattle.client_delivery.specs.declared.piece.Taken.{Taken}
use Rattle.talk.specs.Talk.{feed, held_by}
use Rattle.talk.specs.Attempts.{decided_in, one_if_waiting}

-- what a piece comes to where nothing is left to do behind a place: what a session then has stands at the hold's start
pub record Keeps (m : SideSession) (place : ℕ) (held piece hold : List ℕ) (bound : Bound) (decided : ℕ) (r : Taken) (hold' : List ℕ) : Type 0 where
  pub staged : r.stage ≡ stage_of m
  pub bounds : r.bound ≡ bound_after m bound
  pub counts : r.held ≡ length (holds_of m)
  pub holds : hold' ≡ holds_of m ++ drop (length (holds_of m)) hold
  pub uses : r.used ≡ place + length (held_by m) - length held
  pub within : r.used ≤ length piece
  pub tries : r.attempts ≡ decided + one_if_waiting m

-- a session that opens: what its last reply names stands at the hold's start
pub record Opens (x : Endpoint) (stage : Stage) (used from sent decided : ℕ) (hold : List ℕ) (r : Taken) (hold' : List ℕ) : Type 0 where
  pub is : r ≡ record { stage = stage; held = length (bytes_in x.address); used = used; from = from; sent = sent; bound = bound_of x; attempts = decided }
  pub holds : hold' ≡ bytes_in x.address ++ drop (length (bytes_in x.address)) hold

-- a piece taken: all that held bytes and piece do, whatever the bytes of the requests
pub record TakeResult (l : Lengths) (e : Reply) (held piece hold : List ℕ) (bound : Bound) (r : Taken) (hold' : List ℕ) : Type 0 where
  pub session : SideSession
  pub place : ℕ
  pub whole : (b : List ℕ) → feed (client (kept_in l b)) (talk_at (kept_in l b) e) (held ++ piece) ≡ record { session = session; sent = part b r.from r.sent; place = place }
  pub decided : ℕ
  pub decides : (b : List ℕ) → decided_in (client (kept_in l b)) (talk_at (kept_in l b) e) (held ++ piece) ≡ decided
  pub keeps : Keeps session place held piece hold bound decided r hold'
  pub few : r.sent ≤ still_due (Awaiting e)
  pub inside : r.from + r.sent ≤ 778
