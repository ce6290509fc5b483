-- F-5's promise, one claim over every list of deliveries to a route that was accepted: a field for each sentence.
use Rattle.std.specs.Prelude.{ℕ, ◌+◌, ◌-◌, ◌%◌, ◌^◌, ◌≤◌, ◌≡◌, ◌↔◌, cond, length, take, drop}
use mathlib.Core.List.{List, [], ◌∷◌, ◌++◌, Memᴰ}
use Rattle.protocol.specs.Answers as code
use Rattle.protocol.specs.declared.Outcome.{Outcome}
use Rattle.protocol.specs.declared.Outcome.TheVariants.{Waiting, Open, Failed}
use Rattle.protocol.specs.Bound.{address_of}
use Rattle.protocol.specs.Opening.{Opening}
use Rattle.protocol.specs.Machine.{machine}
use Rattle.client_session.specs.declared.Session.{Session}
use Rattle.client_session.specs.Session as session
use Rattle.client_session.specs.Calls as session-calls
use Rattle.protocol.specs.Bytes.{BytePieces}
use Rattle.socks.specs.InTwo.{in_two}
use Rattle.socks.specs.Attempts.{attempts_of}
use Rattle.route_session.specs.plan.Plan.{prepared_for}
use Rattle.route_spec.specs.Route as routing
use Rattle.route_spec.specs.Route.{Proxy, Asked, asked_by, room_for, openings, machines, used_in_turn, RepliedInTurn, JustOneRow}
use Rattle.route_session.specs.declared.calls.Route.{Route}
use Rattle.route_session.specs.calls.Calls.{outcome, bound, opening, deliver, end}
use Rattle.talk.specs.Tunnel.{Answer, Receiver, Delivery, lends, answer_to, after, joined, Tunnel, tunnel}

-- ---- a route takes pieces by the exported call; those deliveries to a route of so many openings count that lend 1,024 bytes for each

abbrev pub receiver : ℕ → Receiver Route code.Answer
receiver room = record { room = room; deliver = deliver }

abbrev pub receiver_of : List Opening → Receiver Route code.Answer
receiver_of os = receiver (room_for (length os))

abbrev pub tunnel_of : List Opening → Route → List ℕ → List Delivery → Tunnel Route
tunnel_of os r sent ds = tunnel (receiver_of os) r sent ds

abbrev pub joined_of : List Opening → List Delivery → List ℕ
joined_of os ds = joined (receiver_of os) ds

-- what two tunnels have alike
pub record Alike (t u : Tunnel Route) : Type 0 where
  pub outcomes : outcome t.session ≡ outcome u.session
  pub bounds : bound t.session ≡ bound u.session
  pub sent : t.sent ≡ u.sent
  pub count : t.count ≡ u.count
  pub rest : t.rest ≡ u.rest

-- ---- F-11: the attempts, each proxy's own, for what of each piece was handed to it

-- of a delivery behind joined bytes, what a proxy's machine leaves for the next: once it is open, what lies behind the place where it opened
abbrev pub left_by : Outcome → ℕ → List ℕ → List ℕ → List ℕ
left_by Waiting place before piece = []
left_by Open place before piece = drop (place - length before) piece
left_by (Failed e) place before piece = []

unfoldable pub handed_on : Opening → List ℕ → List Delivery → List Delivery
handed_on o before [] = []
handed_on o before (d ∷ ds) =
    let m = machine o (before ++ d.piece) in
    record { piece = left_by m.outcome m.place before d.piece; output = d.output } ∷ handed_on o (before ++ d.piece) ds

unfoldable pub attempts_in_turn : List Opening → List Delivery → ℕ
attempts_in_turn [] ds = 0
attempts_in_turn (o ∷ os) ds = attempts_of o [] ds + attempts_in_turn os (handed_on o [] ds)

-- the deliveries that lend what the route asks
unfoldable pub lending : List Opening → List Delivery → List Delivery
lending os [] = []
lending os (d ∷ ds) = cond (lends (receiver_of os) d) (d ∷ []) [] ++ lending os ds

-- ---- the claim, of the openings, the route that its opening returned and the bytes that this sent

pub record Routed (os : List Opening) (r : Route) (sent : List ℕ) (ds : List Delivery) : Type 0 where
  -- open exactly when the joined bytes begin with the grammars of its openings in that order
  pub opens_just : outcome (tunnel_of os r sent ds).session ≡ Open ↔ RepliedInTurn os (joined_of os ds)
  -- and then just one beginning is such a row, and the count is the sum of their lengths
  pub just_one : outcome (tunnel_of os r sent ds).session ≡ Open
      → JustOneRow os (joined_of os ds) (tunnel_of os r sent ds).count (machines os (joined_of os ds)).bound
  -- open or not, sent bytes, outcome with its status and count are those of the plain machines in turn
  pub sent_as : (tunnel_of os r sent ds).sent ≡ (machines os (joined_of os ds)).sent
  pub outcome_as : outcome (tunnel_of os r sent ds).session ≡ (machines os (joined_of os ds)).outcome
  pub count_as : (tunnel_of os r sent ds).count ≡ used_in_turn os (joined_of os ds)
  -- the bound address is the last proxy's
  pub bound_as : bound (tunnel_of os r sent ds).session ≡ address_of (machines os (joined_of os ds)).bound
  -- the rests joined are the joined bytes after the count
  pub rests_are : (tunnel_of os r sent ds).rest ≡ drop (tunnel_of os r sent ds).count (joined_of os ds)
  -- like lists are alike
  pub alike : (ds' : List Delivery) → joined_of os ds' ≡ joined_of os ds → Alike (tunnel_of os r sent ds') (tunnel_of os r sent ds)
  -- F-11: its attempts are the sum over its proxies
  pub attempts_are : (tunnel_of os r sent ds).session.attempts ≡ attempts_in_turn os (lending os ds) % 2 ^ 64

-- for every route whose opening is accepted, any output lent to that, and every list of deliveries
abbrev pub Through : routing.Route → Type 0
Through a =
    (out : List ℕ) → (opening a out).answer ≡ code.Accepted → (ds : List Delivery) → BytePieces ds
    → Routed (openings a) (opening a out).session (take (opening a out).sent (opening a out).output) ds

-- ---- a route of one proxy, and that proxy's session

-- what a call comes to
pub record Told : Type 0 where
  pub answer : code.Answer
  pub used : ℕ
  pub sent : List ℕ
  pub outcome : Outcome

abbrev pub told : {X : Type 0} → (X → Outcome) → Answer X code.Answer → Told
told how c = record { answer = c.answer; used = c.used; sent = take c.sent c.output; outcome = how c.session }

unfoldable pub told_by : {X : Type 0} → (X → Outcome) → Receiver X code.Answer → X → List Delivery → List Told
told_by how K s [] = []
told_by how K s (d ∷ ds) = told how (answer_to K s d) ∷ told_by how K (answer_to K s d).session ds

-- that proxy's session takes the same pieces
abbrev pub session_receiver : ℕ → Receiver Session code.Answer
session_receiver room = record { room = room; deliver = session-calls.deliver }

-- each lends 1,024 bytes or more
abbrev pub Lent : List Delivery → Type 0
Lent ds = (d : Delivery) → Memᴰ d ds → 1024 ≤ length d.output

-- the opening, every delivery and an end behind them
pub record AsOne (a : routing.Route) (b : Asked) (out : List ℕ) (ds : List Delivery) : Type 0 where
  pub first : told outcome (opening a out) ≡ told session.outcome (in_two (prepared_for b) out)
  pub deliveries : told_by outcome (receiver 1024) (opening a out).session ds
      ≡ told_by session.outcome (session_receiver 1024) (in_two (prepared_for b) out).session ds
  pub ending : told outcome (end (after (receiver 1024) (opening a out).session ds))
      ≡ told session.outcome (session-calls.end (after (session_receiver 1024) (in_two (prepared_for b) out).session ds))

-- for every route of one proxy, any output of 1,024 bytes or more, and every list of deliveries that lend as much
abbrev pub Single : Proxy → List ℕ → code.Port → Type 0
Single p host port =
    (out : List ℕ) → 1024 ≤ length out → (ds : List Delivery) → Lent ds
    → AsOne (record { proxies = p ∷ []; host = host; port = port }) (asked_by p.version p host port) out ds
