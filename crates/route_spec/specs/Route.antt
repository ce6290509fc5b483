-- F-5: a route of proxies, what each is asked for, the checks in their order, the plain machines in turn, and the grammars in that order.
use Rattle.std.specs.Prelude.{ℕ, ◌+◌, ◌*◌, ◌<◌, ◌≡◌, ◌⊎◌, Bool, false, ◌||◌, List, [], ◌∷◌, ◌++◌, map, length, drop, ltb, eqb}
use Rattle.protocol.specs.Answers.{Port, Answer, Accepted, Refused}
use Rattle.protocol.specs.declared.Outcome.{Outcome}
use Rattle.protocol.specs.declared.Outcome.TheVariants.{Waiting, Open, Failed}
use Rattle.protocol.specs.declared.SocksError.TheVariants.{ShortOutput, RouteLength}
use Rattle.protocol.specs.Bound.{Endpoint, unbound}
use Rattle.protocol.specs.Opening.{V5, V4, Condition, ◌↣◌, conditions5, conditions4, refuse, check5, check4, Opening, opening5, opening4}
use Rattle.protocol.specs.Machine.{Machine, has, machine, used_by}
use Rattle.protocol.specs.Grammar.{Sequence}
use Rattle.protocol.specs.declared.Version as version
use Rattle.protocol.specs.declared.Version.TheVariants as Version
use Rattle.talk.specs.Lawful.{Begins}

-- ---- the route

-- a proxy: its version, its own host and port, whether it is given credentials and which, and whether all its requests go at once
pub record Proxy : Type 0 where
  pub version : version.Version
  pub host : List ℕ
  pub port : Port
  pub authenticates : Bool
  pub optimistic : Bool
  pub user : List ℕ
  pub password : List ℕ

-- the proxies in a row, and the destination
pub record Route : Type 0 where
  pub proxies : List Proxy
  pub host : List ℕ
  pub port : Port

-- ---- each is asked for the next, the last for the destination; the first one's own host and port are not looked at

abbrev pub host_of : List Proxy → List ℕ → List ℕ
host_of [] host = host
host_of (p ∷ ps) host = p.host

abbrev pub port_of : List Proxy → Port → Port
port_of [] port = port
port_of (p ∷ ps) port = p.port

-- what is asked of a proxy: the arguments of its preparing, without local lookup. Over v4 credentials and the option are ignored
pub data Asked : Type 0 where
  over5 : V5 → Asked
  over4 : V4 → Asked

abbrev pub asked_by : version.Version → Proxy → List ℕ → Port → Asked
asked_by Version.V5 p host port =
    over5 (record {
      config = record { proxy_auth = p.authenticates; local_dns = false; optimistic = p.optimistic };
      host = host;
      port = port;
      user = p.user;
      password = p.password;
      records = [];
    })
asked_by Version.V4 p host port = over4 (record { local_dns = false; host = host; port = port; records = [] })

unfoldable pub asked_of : List Proxy → List ℕ → Port → List Asked
asked_of [] host port = []
asked_of (p ∷ ps) host port = asked_by p.version p (host_of ps host) (port_of ps port) ∷ asked_of ps host port

abbrev pub asked : Route → List Asked
asked r = asked_of r.proxies r.host r.port

abbrev pub opening_for : Asked → Opening
opening_for (over5 a) = opening5 a
opening_for (over4 a) = opening4 a

abbrev pub openings : Route → List Opening
openings r = map opening_for (asked r)

-- ---- the checks: 21, then 1 for the route's output, then the openings', the first proxy's first

-- the output that a route of so many proxies asks of its calls
abbrev pub room_for : ℕ → ℕ
room_for n = 1024 * n

abbrev pub conditions_for : Asked → List Condition
conditions_for (over5 a) = conditions5 a
conditions_for (over4 a) = conditions4 a

unfoldable pub conditions_in_turn : List Asked → List Condition
conditions_in_turn [] = []
conditions_in_turn (a ∷ later) = conditions_for a ++ conditions_in_turn later

-- with an output of so many bytes
abbrev pub conditions : Route → ℕ → List Condition
conditions r out =
    (((length r.proxies ≡ 0) ⊎ (8 < length r.proxies)) ↣ 21)
    ∷ ((out < room_for (length r.proxies)) ↣ 1)
    ∷ conditions_in_turn (asked r)

-- the same as tests
abbrev pub check_for : Asked → Answer
check_for (over5 a) = check5 a
check_for (over4 a) = check4 a

abbrev pub unless_refused : Answer → Answer → Answer
unless_refused Accepted later = later
unless_refused (Refused e) later = Refused e

unfoldable pub check_in_turn : List Asked → Answer
check_in_turn [] = Accepted
check_in_turn (a ∷ later) = unless_refused (check_for a) (check_in_turn later)

unfoldable pub check : Route → ℕ → Answer
check r out =
    refuse (eqb (length r.proxies) 0 || ltb 8 (length r.proxies)) RouteLength
    (refuse (ltb out (room_for (length r.proxies))) ShortOutput (check_in_turn (asked r)))

-- ---- the plain machines in turn: each is begun when the one before opens, and fed what that left

abbrev pub followed : Machine → Outcome → Machine → Machine
followed m Waiting next = m
followed m Open next = has (m.sent ++ next.sent) next.outcome next.bound (m.place + next.place)
followed m (Failed e) next = m

unfoldable pub machines_from : Opening → List Opening → List ℕ → Machine
machines_from o [] bs = machine o bs
machines_from o (p ∷ ps) bs = let m = machine o bs in followed m m.outcome (machines_from p ps (drop m.place bs))

abbrev pub machines : List Opening → List ℕ → Machine
machines [] bs = has [] Open unbound 0
machines (o ∷ os) bs = machines_from o os bs

-- the bytes used: all while waiting, otherwise up to the place
abbrev pub used_in_turn : List Opening → List ℕ → ℕ
used_in_turn os bs = let m = machines os bs in used_by m.outcome m.place bs

-- ---- the grammars of openings in a row, and the address that the last reply of all names

abbrev pub SequencesFrom : Opening → List Opening → List ℕ → Endpoint → Type 0
SequencesFrom o [] p x = Sequence o p x
SequencesFrom o (q ∷ qs) p x = (a : List ℕ) × (b : List ℕ) × (y : Endpoint) × (p ≡ a ++ b) × Sequence o a y × SequencesFrom q qs b x

abbrev pub Sequences : List Opening → List ℕ → Endpoint → Type 0
Sequences [] p x = (p ≡ []) × (x ≡ unbound)
Sequences (o ∷ os) p x = SequencesFrom o os p x

-- bytes begin with them
abbrev pub RepliedInTurn : List Opening → List ℕ → Type 0
RepliedInTurn os bs = (p : List ℕ) × (x : Endpoint) × Begins p bs × Sequences os p x

-- just one beginning is a row of reply sequences, it has so many bytes, and names this address and port
pub record JustOneRow (os : List Opening) (bs : List ℕ) (n : ℕ) (x : Endpoint) : Type 0 where
  pub begin : List ℕ
  pub begins : Begins begin bs
  pub is : Sequences os begin x
  pub only : (p : List ℕ) (y : Endpoint) → Begins p bs → Sequences os p y → (p ≡ begin) × (y ≡ x)
  pub long : n ≡ length begin
