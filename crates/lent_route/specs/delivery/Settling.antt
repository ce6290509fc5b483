-- F-5: a delivery by its parts, as the code has it: a piece that is only held, and where another leaves the route.
use Rattle.std.specs.Prelude.{ℕ, ◌^◌, ◌≤◌, ◌<◌, min, ◌≡◌, List, drop}
use Rattle.protocol.specs.declared.Reply.{Reply}
use Rattle.client_stages.specs.declared.due.Lengths.{Lengths}
use Rattle.client_stages.specs.declared.due.Stage.TheVariants.{Awaiting}
use Rattle.lent_numbers.specs.declared.told.RawStep.{RawStep}
use Rattle.lent_session.specs.State as sessions
use Rattle.lent_session.specs.State.{two_at, session_at}
use Rattle.lent_session.specs.delivery.Quick.{Stays}
use Rattle.lent_session.specs.delivery.Changes.{accepted}
use Rattle.route_delivery.specs.declared.Spot.{Spot}
use Rattle.route_delivery.specs.declared.Relayed.{Relayed}
use Rattle.lent_route.specs.State.{count_at, spoken_at}

-- where the route stands that awaits a reply
abbrev pub spot_in : List ℕ → Reply → ℕ → ℕ → Spot
spot_in s e held last =
    record { behind = min (two_at s 12) last; stage = Awaiting e; held = held; bound = (session_at s).bound; attempts = (session_at s).attempts; sent = 0 }

-- some bytes that find room in the hold and do not decide the reply, and a count as this crate writes it
pub record Short (e : Reply) (s : List ℕ) (held len : ℕ) : Type 0 where
  pub some : len ≡ 0 → ⊥
  pub few : count_at s ≤ 8
  pub behind : two_at s 12 < count_at s
  pub stays : Stays e held (session_at s).hold len

abbrev pub lengths_by : List ℕ → ℕ → Lengths
lengths_by s behind =
    let l = (session_at s).requests.lengths in record { optimistic = l.optimistic; first = l.first; authentication = behind; proxy = l.proxy }

pub record Settles (s : List ℕ) (w : Relayed) (hold : List ℕ) (r : RawStep) (s' : List ℕ) : Type 0 where
  pub returned : r ≡ accepted w.used w.spot.sent w.spot.stage
  pub left : s' ≡ sessions.state_of (spoken_at w.spot (lengths_by s w.spot.behind) hold (drop 282 s))
  pub tries : w.spot.attempts < 2 ^ 64
  pub port : w.spot.bound.port < 65536
