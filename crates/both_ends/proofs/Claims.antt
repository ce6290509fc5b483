-- What a meeting comes to.
use Prim.Native.Nat.{ℕ, ◌≤◌}
use mathlib.Core.Path.{◌≡◌}
use mathlib.Core.Bool.{Bool}
use mathlib.Core.List.{List, ◌++◌}
use lib.ListN.{length, take}
use Rattle.protocol.specs.declared.Address.{Address}
use Rattle.protocol.specs.Answers.{Accepted}
use Rattle.protocol.specs.declared.Outcome as client-told
use Rattle.protocol.specs.declared.Outcome.TheVariants as client-is
use Rattle.protocol.specs.Bytes.{Bytes}
use Rattle.protocol.specs.Bound.{Endpoint, address_of}
use Rattle.protocol.specs.Opening.{Opening}
use Rattle.proxy_decisions.specs.declared.destination.Target.{Target}
use Rattle.proxy_replies.specs.declared.stages.Outcome as end-told
use Rattle.proxy_replies.specs.declared.stages.Outcome.TheVariants as end_is
use Rattle.client_session.specs.declared.Session.{Session}
use Rattle.client_session.specs.declared.Prepared.{Prepared}
use Rattle.client_session.specs.Session.{outcome, bound}
use Rattle.client_session.specs.Calls.{start}
use Rattle.proxy_session.specs.declared.Server.{Server}
use Rattle.proxy_session.specs.Server as server
use Rattle.proxy_session.specs.Calls.{set_up}
use Rattle.proxy.specs.Served.{setup_for, handed_out}
use Rattle.proxy.specs.Turns.{Given}
use Rattle.both_ends.specs.Ends.{version_of, wanted_by, SameCredentials, seen_of, all_replies, all_requests}
use Rattle.both_ends.specs.Meet.{client_tunnel, end_tunnel, answered, Meeting, Meets, Exchanges}
use Rattle.talk.specs.Tunnel.{Delivery, Tunnel}

-- all that is told of the client, and of the end once it is answered
abbrev client_told : Tunnel Session → client-told.Outcome × Address × List ℕ
client_told t = (outcome t.session, bound t.session, t.rest)

abbrev end_told : Server → List ℕ → end-told.Outcome × Target × List ℕ
end_told e rest = (server.outcome e, server.destination e, rest)

module _ (o : Opening) (s : Session) (sent : List ℕ) (ds : List Delivery) (e : Server) (es : List Delivery) (x : Endpoint) (out tail tail' : List ℕ) (m : Meeting o s sent ds e es x out tail tail') where
  pub client_met : client_told (client_tunnel o s sent ds) ≡ (client-is.Open, address_of (seen_of (version_of o) x), tail)
  client_met = λ i. (m.client_open i, m.same_bound i, m.client_rest i)

  pub end_met : end_told (answered o e es x out).session (end_tunnel e es).rest ≡ (end_is.Open, handed_out (wanted_by o), tail')
  end_met = λ i. (m.end_open i, m.same_destination i, m.end_rest i)

-- there are deliveries after which both have met, for any bytes behind
pub some_meeting : (p : Prepared) (o : Opening) → Meets p o → Exchanges p o
    → (first : List ℕ) → p.answer ≡ Accepted → (start p.session first).answer ≡ Accepted
    → (authenticates : Bool) (user password : List ℕ) → (set_up authenticates user password).answer ≡ Accepted → SameCredentials o (setup_for authenticates user password)
    → (x : Endpoint) → Given x → (out tail tail' : List ℕ) → 262 ≤ length out → Bytes (all_replies o x ++ tail) → Bytes (all_requests o ++ tail')
    → (ds : List Delivery) × (es : List Delivery)
    × Meeting o (start p.session first).session (take (start p.session first).sent (start p.session first).output) ds (set_up authenticates user password).server es x out tail tail'
some_meeting p o f g first a b authenticates user password q n x h out tail tail' l y z =
    let (ds, es, yd, ye, k) = g first a b authenticates user password q n x h out tail tail' l y z in
    (ds, es, f first a b authenticates user password q n ds es yd ye x h out tail tail' l k)
