-- F-3: both ends meet. A client prepared and started, an end set up, lists of deliveries to each, and the caller's answer of success.
use Rattle.std.specs.Prelude.{ℕ, ◌≤◌, ◌≡◌, Bool, List, [], ◌++◌, length, take}
use Rattle.protocol.specs.Answers as code
use Rattle.protocol.specs.declared.Outcome.TheVariants as client-is
use Rattle.protocol.specs.Bytes.{Bytes, BytePieces}
use Rattle.protocol.specs.Bound.{Endpoint, address_of}
use Rattle.protocol.specs.Opening.{Opening, V5, V4, Sixteen, opening5, opening4, delivery_room}
use Rattle.proxy_spec.specs.End.{success}
use Rattle.proxy_replies.specs.declared.stages.Outcome.TheVariants as end_is
use Rattle.client_session.specs.declared.Session.{Session}
use Rattle.client_session.specs.declared.Prepared.{Prepared}
use Rattle.client_session.specs.Session.{outcome, bound}
use Rattle.client_session.specs.Calls as client-calls
use Rattle.client_session.specs.Calls.{prepare5, prepare4, start}
use Rattle.proxy_session.specs.declared.Server.{Server}
use Rattle.proxy_session.specs.Server as server
use Rattle.proxy_session.specs.Calls as end-calls
use Rattle.proxy_session.specs.Calls.{Call, set_up, answer}
use Rattle.proxy.specs.Served.{setup_for, handed_out}
use Rattle.proxy.specs.Turns.{Given}
use Rattle.both_ends.specs.Ends.{version_of, wanted_by, SameCredentials, seen_of, all_replies, all_requests}
use Rattle.talk.specs.Tunnel.{Receiver, Delivery, joined, Tunnel, tunnel}

-- a client and an end take pieces by the exported calls; those deliveries count that lend what the opening's version asks, and 262 bytes
abbrev pub client_receiver : Opening → Receiver Session code.Answer
client_receiver o = record { room = delivery_room o; deliver = client-calls.deliver }

abbrev pub end_receiver : Receiver Server code.Answer
end_receiver = record { room = 262; deliver = end-calls.deliver }

abbrev pub client_tunnel : Opening → Session → List ℕ → List Delivery → Tunnel Session
client_tunnel o s sent ds = tunnel (client_receiver o) s sent ds

abbrev pub end_tunnel : Server → List Delivery → Tunnel Server
end_tunnel e es = tunnel end_receiver e [] es

-- the end, and the caller's answer to it behind its deliveries: refused, and nothing sent, unless it is awaited
abbrev pub answered : Opening → Server → List Delivery → Endpoint → List ℕ → Call
answered o e es x out = answer (end_tunnel e es).session (success (version_of o)) x out

-- all that the end has sent, its answer among it once it is asked
abbrev pub sent_by_end : Opening → Server → List Delivery → Endpoint → List ℕ → List ℕ
sent_by_end o e es x out = let c = answered o e es x out in (end_tunnel e es).sent ++ take c.sent c.output

-- whenever all that either has sent has reached the other, whatever the pieces, and with any bytes behind it
pub record Exchanged (o : Opening) (s : Session) (sent : List ℕ) (ds : List Delivery) (e : Server) (es : List Delivery) (x : Endpoint) (out tail tail' : List ℕ) : Type 0 where
  pub to_client : joined (client_receiver o) ds ≡ sent_by_end o e es x out ++ tail
  pub to_end : joined end_receiver es ≡ (client_tunnel o s sent ds).sent ++ tail'

-- both are open, with the same destination: kind, bytes and port
pub record Meeting (o : Opening) (s : Session) (sent : List ℕ) (ds : List Delivery) (e : Server) (es : List Delivery) (x : Endpoint) (out tail tail' : List ℕ) : Type 0 where
  pub client_open : outcome (client_tunnel o s sent ds).session ≡ client-is.Open
  pub end_open : server.outcome (answered o e es x out).session ≡ end_is.Open
  pub same_destination : server.destination (answered o e es x out).session ≡ handed_out (wanted_by o)
  -- the client's bound address is the one that the caller gave; over v4 an IPv6 one is 0.0.0.0 with its port
  pub same_bound : bound (client_tunnel o s sent ds).session ≡ address_of (seen_of (version_of o) x)
  -- the tails are unread
  pub client_rest : (client_tunnel o s sent ds).rest ≡ tail
  pub end_rest : (end_tunnel e es).rest ≡ tail'

-- for what preparing returned and any output with which it is started, every end set up with equal credentials (none over v4), every list of deliveries to each, and
-- an answer that is lent 262 bytes, with any bound address
abbrev pub Meets : Prepared → Opening → Type 0
Meets p o =
    (first : List ℕ) → p.answer ≡ code.Accepted → (start p.session first).answer ≡ code.Accepted
    → (authenticates : Bool) (user password : List ℕ) → (set_up authenticates user password).answer ≡ code.Accepted → SameCredentials o (setup_for authenticates user password)
    → (ds es : List Delivery) → BytePieces ds → BytePieces es
    → (x : Endpoint) → Given x → (out tail tail' : List ℕ) → 262 ≤ length out
    → (let s = (start p.session first).session in
    let sent = take (start p.session first).sent (start p.session first).output in
    let e = (set_up authenticates user password).server in
    Exchanged o s sent ds e es x out tail tail' → Meeting o s sent ds e es x out tail tail')

-- and there is such an exchange: lists of deliveries for which this holds, for any bytes behind
abbrev pub Exchanges : Prepared → Opening → Type 0
Exchanges p o =
    (first : List ℕ) → p.answer ≡ code.Accepted → (start p.session first).answer ≡ code.Accepted
    → (authenticates : Bool) (user password : List ℕ) → (set_up authenticates user password).answer ≡ code.Accepted → SameCredentials o (setup_for authenticates user password)
    → (x : Endpoint) → Given x → (out tail tail' : List ℕ) → 262 ≤ length out → Bytes (all_replies o x ++ tail) → Bytes (all_requests o ++ tail')
    → (let s = (start p.session first).session in
    let sent = take (start p.session first).sent (start p.session first).output in
    let e = (set_up authenticates user password).server in
    (ds : List Delivery) × (es : List Delivery) × BytePieces ds × BytePieces es × Exchanged o s sent ds e es x out tail tail')

-- over v5 and v4, for records of sixteen address bytes, as the array has
abbrev pub BothMeet : Type 0
BothMeet = ((a : V5) → Sixteen a.records → Meets (prepare5 a) (opening5 a)) × ((a : V4) → Sixteen a.records → Meets (prepare4 a) (opening4 a))

abbrev pub BothExchange : Type 0
BothExchange = ((a : V5) → Sixteen a.records → Exchanges (prepare5 a) (opening5 a)) × ((a : V4) → Sixteen a.records → Exchanges (prepare4 a) (opening4 a))
