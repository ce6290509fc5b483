-- F-3: the turns of a delivery: what a field and those behind it do with the unread bytes.
use Rattle.std.specs.Prelude.{ℕ, ◌-◌, ◌≤◌, ◌<◌, ◌≡◌, Option, Some, None, List, length, take, drop}
use Rattle.proxy_spec.specs.declared.Field.{Field}
use Rattle.proxy_spec.specs.declared.Stage.{Stage}
use Rattle.proxy_spec.specs.declared.Stage.TheVariants.{Awaiting, Asked, Open, Failed}
use Rattle.proxy_spec.specs.End.{Setup}
use Rattle.proxy_spec.specs.Side.{talk_at, server}
use Rattle.proxy_decisions.specs.decision.Due.{asks_at, session_at, rank}
use Rattle.proxy_decisions.specs.destination.Last.{Last}
use Rattle.proxy_delivery.specs.declared.turns.Turn.{Turn}
use Rattle.buffers.specs.write.Written.{Wrote}
use Rattle.talk.specs.Talk.{feed, moving, sending}

abbrev pub awaited_in : Stage → Option Field
awaited_in (Awaiting f) = Some f
awaited_in (Asked v) = None
awaited_in (Open v) = None
awaited_in (Failed e) = None

-- what is then held fits the hold
abbrev pub Rests : Stage → List ℕ → Type 0
Rests (Awaiting f) rest = length rest ≤ 1014
Rests (Asked v) rest = Unit {0}
Rests (Open v) rest = Unit {0}
Rests (Failed e) rest = Unit {0}

-- an end that asks has read a last field whole; none opens by itself
abbrev pub Ready : Stage → Field → List ℕ → Type 0
Ready (Awaiting f) last m = Unit {0}
Ready (Asked v) last m = Last last m
Ready (Open v) last m = ⊥
Ready (Failed e) last m = Unit {0}

-- the field that was read last
abbrev pub last_in : Turn → List ℕ → List ℕ
last_in t bytes = take (t.place - t.begin) (drop t.begin bytes)

-- worked through from a place on: all that the bytes do, and what was said from a place of the output on
pub record Worked (c : Setup) (f : Field) (bytes : List ℕ) (place : ℕ) (out : List ℕ) (sent : ℕ) (r : Turn) (out' : List ℕ) : Type 0 where
  pub said : List ℕ
  pub whole : feed (server c) (talk_at c f) (drop place bytes) ≡ record { session = session_at r.stage (asks_at r.last (last_in r bytes)) (drop r.place bytes); sent = said; place = r.place - place }
  pub wrote : Wrote out sent said r.sent out'
  pub onward : place ≤ r.begin
  pub spans : r.begin ≤ r.place
  pub inside : r.place ≤ length bytes
  pub rests : Rests r.stage (drop r.place bytes)
  pub ready : Ready r.stage r.last (last_in r bytes)

-- another turn follows at a next field, behind what was read and said
pub record Goes (c : Setup) (f : Field) (bytes : List ℕ) (place : ℕ) (out : List ℕ) (sent : ℕ) (t : Turn) (next : Field) (out' : List ℕ) : Type 0 where
  pub said : List ℕ
  pub whole : feed (server c) (talk_at c f) (drop place bytes) ≡ moving (t.place - place) (sending said (feed (server c) (talk_at c next) (drop t.place bytes)))
  pub wrote : Wrote out sent said t.sent out'
  pub falls : rank next < rank f
  pub few : length said ≤ 22
  pub onward : place ≤ t.place
  pub inside : t.place ≤ length bytes

pub record Steps (c : Setup) (f : Field) (bytes : List ℕ) (place : ℕ) (out : List ℕ) (sent : ℕ) (r : Turn × Option Field) (out' : List ℕ) : Type 0 where
  pub stops : r.1 ≡ None → Worked c f bytes place out sent r.0 out'
  pub goes : (next : Field) → r.1 ≡ Some next → Goes c f bytes place out sent r.0 next out'
