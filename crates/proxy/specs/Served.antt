-- F-3's promise, one claim over every list of deliveries to the proxy's end, as demand 3's: a field for each sentence.
use Rattle.std.specs.Prelude.{◌≡◌, Bool, List, [], ℕ, length, drop}
use Rattle.protocol.specs.Answers.{Answer, Accepted}
use Rattle.protocol.specs.Bytes.{padded, BytePieces}
use Rattle.protocol.specs.Bound.{Endpoint, unbound, kind_in, bytes_in}
use Rattle.proxy_spec.specs.declared.Stage.TheVariants as stage
use Rattle.proxy_spec.specs.End as plain
use Rattle.proxy_spec.specs.End.{Setup, Standing, waits, asks, fails, machine, used}
use Rattle.proxy_decisions.specs.declared.destination.Target.{Target}
use Rattle.proxy_replies.specs.declared.stages.Outcome.{Outcome}
use Rattle.proxy_replies.specs.declared.stages.Outcome.TheVariants.{Waiting, Asked, Failed}
use Rattle.proxy_session.specs.declared.Server.{Server}
use Rattle.proxy_session.specs.Server.{outcome, destination}
use Rattle.proxy_session.specs.Calls.{set_up, deliver}
use Rattle.talk.specs.Tunnel.{Receiver, Delivery, joined, Tunnel, tunnel}

-- ---- the plain machine's state, as the calls tell it

abbrev pub setup_for : Bool → List ℕ → List ℕ → Setup
setup_for authenticates user password = record { authenticates = authenticates; user = user; password = password }

abbrev pub outcome_by : Standing → Outcome
outcome_by waits = Waiting
outcome_by (asks x) = Asked
outcome_by (fails e) = Failed e

abbrev pub target_by : Standing → Endpoint
target_by waits = unbound
target_by (asks x) = x.target
target_by (fails e) = unbound

-- as it is handed out: the bytes stand at the start of an array of zeros
abbrev pub handed_out : Endpoint → Target
handed_out x = record { kind = kind_in x.address; len = length (bytes_in x.address); bytes = padded 1014 (bytes_in x.address); port = x.port }

-- ---- deliveries, from an end that has sent nothing: it takes pieces by the exported call, and those count that lend 262 bytes

abbrev pub receiver : Receiver Server Answer
receiver = record { room = 262; deliver = deliver }

abbrev pub tunnel_of : Server → List Delivery → Tunnel Server
tunnel_of s ds = tunnel receiver s [] ds

abbrev pub joined_of : List Delivery → List ℕ
joined_of ds = joined receiver ds

-- what two tunnels have alike
pub record Alike (t u : Tunnel Server) : Type 0 where
  pub outcomes : outcome t.session ≡ outcome u.session
  pub destinations : destination t.session ≡ destination u.session
  pub sent : t.sent ≡ u.sent
  pub count : t.count ≡ u.count
  pub rest : t.rest ≡ u.rest

-- of what an end was set up with, and the end that set-up returned
pub record Served (c : Setup) (s : Server) (ds : List Delivery) : Type 0 where
  -- all sent bytes are the plain machine's on the joined bytes
  pub sent_as : (tunnel_of s ds).sent ≡ (machine c (joined_of ds)).sent
  -- so is how it stands: it waits, or asks for a destination in a version, or has failed with a number and status
  pub outcome_as : outcome (tunnel_of s ds).session ≡ outcome_by (machine c (joined_of ds)).standing
  pub asked_in : (x : plain.Asked) → (machine c (joined_of ds)).standing ≡ asks x → (tunnel_of s ds).session.stage ≡ stage.Asked x.version
  -- and the destination handed out: kind, length, bytes and port
  pub destination_as : destination (tunnel_of s ds).session ≡ handed_out (target_by (machine c (joined_of ds)).standing)
  -- so is the total count, and the rests joined are exactly the joined bytes after it
  pub count_as : (tunnel_of s ds).count ≡ used c (joined_of ds)
  pub rests_are : (tunnel_of s ds).rest ≡ drop (tunnel_of s ds).count (joined_of ds)
  -- two lists with equal joined bytes are alike in all of these
  pub alike : (ds' : List Delivery) → joined_of ds' ≡ joined_of ds → Alike (tunnel_of s ds') (tunnel_of s ds)

-- for every set-up that is accepted, and every list of deliveries of byte strings to what it returned
abbrev pub AllServed : Type 0
AllServed = (authenticates : Bool) (user password : List ℕ) → (set_up authenticates user password).answer ≡ Accepted → (ds : List Delivery) → BytePieces ds
    → Served (setup_for authenticates user password) (set_up authenticates user password).server ds
