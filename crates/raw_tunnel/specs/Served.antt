-- F-3's promise over the proxy's end as numbers, one claim over every list of deliveries: a field for each sentence, in the numbers that the calls return.
use Rattle.std.specs.Prelude.{ℕ, ◌≡◌, List, [], drop}
use Rattle.protocol.specs.Bytes.{BytePieces}
use Rattle.protocol.specs.Numbers.{number, status}
use Rattle.protocol.specs.Bound.{Endpoint}
use Rattle.proxy_spec.specs.End.{Setup, Standing, waits, asks, fails, success, machine, used}
use Rattle.proxy_session.specs.Server.{destination}
use Rattle.proxy_session.specs.Calls.{Call, set_up, deliver, answer, end}
use Rattle.proxy.specs.Served.{setup_for, target_by, handed_out}
use Rattle.raw_numbers.specs.Numbers.{truth}
use Rattle.raw_session.specs.declared.RawOutcome.{RawOutcome}
use Rattle.raw_server.specs.declared.RawServer.{RawServer}
use Rattle.raw_server.specs.Raw.{server_of, standing_of, zeros}
use Rattle.raw_asked.specs.declared.RawTarget.{RawTarget}
use Rattle.raw_proxy.specs.Calls.{set_up_served, served_by}
use Rattle.raw_asked.specs.Asked.{target_of}
use Rattle.raw_tunnel.specs.Demand3.{Lent}
use Rattle.talk.specs.Tunnel.{Answer, Receiver, Delivery, joined, Tunnel, tunnel}

-- what a call gives back: what the exported function returns, and the output that it leaves
abbrev pub returned : Call → Answer RawServer ℕ
returned c =
    record { answer = (served_by c).answer; session = (served_by c).server; used = (served_by c).used; sent = (served_by c).sent; output = c.output }

abbrev pub receiver : Receiver RawServer ℕ
receiver = record { room = 1024; deliver = λ r piece out. returned (deliver (server_of r) piece out) }

abbrev pub raw_standing : RawServer → RawOutcome
raw_standing r = standing_of (server_of r).stage

abbrev pub raw_target : RawServer → RawTarget
raw_target r = target_of (destination (server_of r))

-- the plain machine's state in numbers
abbrev pub standing_numbers : Standing → RawOutcome
standing_numbers waits = record { state = 0; number = 0; status = 0 }
standing_numbers (asks x) = record { state = 3; number = 0; status = success x.version }
standing_numbers (fails e) = record { state = 2; number = number e; status = status e }

abbrev pub tunnel_of : RawServer → List Delivery → Tunnel RawServer
tunnel_of r ds = tunnel receiver r [] ds

abbrev pub joined_of : List Delivery → List ℕ
joined_of ds = joined receiver ds

-- what two tunnels have alike
pub record Alike (t u : Tunnel RawServer) : Type 0 where
  pub standings : raw_standing t.session ≡ raw_standing u.session
  pub targets : raw_target t.session ≡ raw_target u.session
  pub sent : t.sent ≡ u.sent
  pub count : t.count ≡ u.count
  pub rest : t.rest ≡ u.rest

-- of what an end was set up with, and the end that set-up returned
pub record RawServes (c : Setup) (r : RawServer) (ds : List Delivery) : Type 0 where
  -- all sent bytes are the plain machine's on the joined bytes, and so is how the end stands, and the destination handed out
  pub sent_as : (tunnel_of r ds).sent ≡ (machine c (joined_of ds)).sent
  pub standing_as : raw_standing (tunnel_of r ds).session ≡ standing_numbers (machine c (joined_of ds)).standing
  pub destination_as : raw_target (tunnel_of r ds).session ≡ target_of (handed_out (target_by (machine c (joined_of ds)).standing))
  -- so is the total count, and the rests joined are exactly the joined bytes after it
  pub count_as : (tunnel_of r ds).count ≡ used c (joined_of ds)
  pub rests_are : (tunnel_of r ds).rest ≡ drop (tunnel_of r ds).count (joined_of ds)
  -- two lists with equal joined bytes are alike in all of these
  pub alike : (ds' : List Delivery) → BytePieces ds' → Lent ds' → joined_of ds' ≡ joined_of ds → Alike (tunnel_of r ds') (tunnel_of r ds)

-- for any arguments of the set-up, if it answers 0
abbrev pub RawServing : Type 0
RawServing = (authenticates : ℕ) (user password : List ℕ) → (set_up_served (set_up (truth authenticates) user password)).answer ≡ 0 → (ds : List Delivery) → BytePieces ds → Lent ds
    → RawServes (setup_for (truth authenticates) user password) (set_up_served (set_up (truth authenticates) user password)).server ds

-- all zeros is an end that refuses everything
pub record Zeros : Type 0 where
  pub stands : raw_standing zeros ≡ record { state = 2; number = 16; status = 0 }
  pub deliver : (piece out : List ℕ) → (returned (deliver (server_of zeros) piece out)).answer ≡ 16
  pub answer : (status : ℕ) (x : Endpoint) (out : List ℕ) → (returned (answer (server_of zeros) status x out)).answer ≡ 16
  pub end : (returned (end (server_of zeros))).answer ≡ 16
