-- F-3's promise over the proxy's end in lent bytes, one claim over every list of deliveries: a field for each sentence, in the numbers that the calls tell. A call lends
-- 1,024 bytes of output, so that every piece counts.
use Rattle.std.specs.Prelude.{ℕ, ◌≡◌, List, [], drop, replicate}
use Rattle.protocol.specs.Bytes.{BytePieces}
use Rattle.protocol.specs.Numbers.{number, status, answer_number}
use Rattle.protocol.specs.Bound.{Endpoint}
use Rattle.proxy_spec.specs.End.{Setup, Standing, waits, asks, fails, success, machine, used}
use Rattle.proxy_session.specs.Server.{destination}
use Rattle.proxy_session.specs.Calls.{Call, set_up, deliver, answer, end}
use Rattle.proxy.specs.Served.{setup_for, target_by, handed_out}
use Rattle.raw_numbers.specs.Numbers.{truth}
use Rattle.lent_numbers.specs.declared.told.RawOutcome.{RawOutcome}
use Rattle.lent_proxy.specs.declared.telling.RawTarget.{RawTarget}
use Rattle.lent_proxy.specs.State.{server_at, state_of}
use Rattle.lent_proxy.specs.Calls.{standing_of, step_by, left_by, target_of}
use Rattle.lent_tunnel.specs.Demand3.{Lent}
use Rattle.talk.specs.Tunnel.{Answer, Receiver, Delivery, joined, Tunnel, tunnel}

-- what a call gives back: what the exported function returns, and the lent bytes and the output that it leaves
abbrev pub returned : List ℕ → Call → Answer (List ℕ) ℕ
returned state c =
    record { answer = (step_by c).answer; session = left_by c.answer c.session state; used = (step_by c).used; sent = (step_by c).sent; output = c.output }

abbrev pub lent_deliver : List ℕ → List ℕ → List ℕ → Answer (List ℕ) ℕ
lent_deliver s piece out = returned s (deliver (server_at s) piece out)

abbrev pub lent_answer : List ℕ → ℕ → Endpoint → List ℕ → Answer (List ℕ) ℕ
lent_answer s status x out = returned s (answer (server_at s) status x out)

abbrev pub lent_end : List ℕ → Answer (List ℕ) ℕ
lent_end s = returned s (end (server_at s))

abbrev pub receiver : Receiver (List ℕ) ℕ
receiver = record { room = 1024; deliver = lent_deliver }

abbrev pub standing_at : List ℕ → RawOutcome
standing_at s = standing_of (server_at s).stage

abbrev pub target_at : List ℕ → RawTarget
target_at s = target_of (destination (server_at s))

-- the plain machine's state in numbers
abbrev pub standing_numbers : Standing → RawOutcome
standing_numbers waits = record { state = 0; number = 0; status = 0 }
standing_numbers (asks x) = record { state = 3; number = 0; status = success x.version }
standing_numbers (fails e) = record { state = 2; number = number e; status = status e }

abbrev pub tunnel_of : List ℕ → List Delivery → Tunnel (List ℕ)
tunnel_of s ds = tunnel receiver s [] ds

abbrev pub joined_of : List Delivery → List ℕ
joined_of ds = joined receiver ds

-- what two tunnels have alike
pub record Alike (t u : Tunnel (List ℕ)) : Type 0 where
  pub standings : standing_at t.session ≡ standing_at u.session
  pub targets : target_at t.session ≡ target_at u.session
  pub sent : t.sent ≡ u.sent
  pub count : t.count ≡ u.count
  pub rest : t.rest ≡ u.rest

-- of what an end was set up with, and the bytes that set-up left
pub record LentServes (c : Setup) (s : List ℕ) (ds : List Delivery) : Type 0 where
  -- all sent bytes are the plain machine's on the joined bytes, and so is how the end stands, and the destination handed out
  pub sent_as : (tunnel_of s ds).sent ≡ (machine c (joined_of ds)).sent
  pub standing_as : standing_at (tunnel_of s ds).session ≡ standing_numbers (machine c (joined_of ds)).standing
  pub destination_as : target_at (tunnel_of s ds).session ≡ target_of (handed_out (target_by (machine c (joined_of ds)).standing))
  -- so is the total count, and the rests joined are exactly the joined bytes after it
  pub count_as : (tunnel_of s ds).count ≡ used c (joined_of ds)
  pub rests_are : (tunnel_of s ds).rest ≡ drop (tunnel_of s ds).count (joined_of ds)
  -- the lent bytes are the one writing of the end that they mean
  pub written : (tunnel_of s ds).session ≡ state_of (server_at (tunnel_of s ds).session)
  -- two lists with equal joined bytes are alike in all of these
  pub alike : (ds' : List Delivery) → BytePieces ds' → Lent ds' → joined_of ds' ≡ joined_of ds → Alike (tunnel_of s ds') (tunnel_of s ds)

-- for any arguments of the set-up, if it answers 0
abbrev pub LentServing : Type 0
LentServing = (authenticates : ℕ) (user password : List ℕ) → answer_number (set_up (truth authenticates) user password).answer ≡ 0 → (ds : List Delivery) → BytePieces ds → Lent ds
    → LentServes (setup_for (truth authenticates) user password) (state_of (set_up (truth authenticates) user password).server) ds

-- all zeros
abbrev pub zeros : List ℕ
zeros = replicate 1539 0

-- it refuses everything
pub record Zeros : Type 0 where
  pub stands : standing_at zeros ≡ record { state = 2; number = 16; status = 0 }
  pub deliver : (piece out : List ℕ) → (lent_deliver zeros piece out).answer ≡ 16
  pub answer : (status : ℕ) (x : Endpoint) (out : List ℕ) → (lent_answer zeros status x out).answer ≡ 16
  pub end : (lent_end zeros).answer ≡ 16
