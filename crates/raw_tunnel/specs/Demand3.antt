-- Demand 3 over raw sessions, one claim over every list of deliveries: a field for each sentence, in the numbers that the calls return. A call lends 1,024 bytes of
-- output, which is what the most of them ask, so that every piece counts.
use Rattle.std.specs.Prelude.{ℕ, ◌%◌, ◌^◌, ◌≡◌, ◌↔◌, length, take, drop}
use mathlib.Core.List.{List, [], Memᴰ}
use Rattle.protocol.specs.Bytes.{BytePieces}
use Rattle.protocol.specs.Bound as endpoints
use Rattle.protocol.specs.Opening.{Opening, opening5, opening4}
use Rattle.protocol.specs.Machine.{machine, used}
use Rattle.protocol.specs.Grammar.{Replied, JustOne}
use Rattle.client_session.specs.Calls.{Call, prepare5, prepare4, start, deliver}
use Rattle.socks.specs.Attempts.{attempts_of}
use Rattle.raw_session.specs.declared.RawSession.{RawSession}
use Rattle.raw_session.specs.Raw.{session_of, outcome_of}
use Rattle.raw_session.specs.declared.RawStep.{RawStep}
use Rattle.raw_openings.specs.declared.RawConfig.{RawConfig}
use Rattle.raw_openings.specs.Given.{given5, given4, prepared_step}
use Rattle.raw_calls.specs.Calls.{step_by}
use Rattle.raw_told.specs.Told.{raw_outcome, address_of, raw_bound, raw_attempts}
use Rattle.talk.specs.Tunnel.{Answer, Receiver, Delivery, joined, Tunnel, tunnel}

-- what a call gives back: what the exported function returns, and the output that it leaves
abbrev pub returned : Call → Answer RawSession ℕ
returned c =
    record { answer = (step_by c).answer; session = (step_by c).session; used = (step_by c).used; sent = (step_by c).sent; output = c.output }

abbrev pub raw_start : RawSession → List ℕ → Answer RawSession ℕ
raw_start r out = returned (start (session_of r) out)

abbrev pub raw_deliver : RawSession → List ℕ → List ℕ → Answer RawSession ℕ
raw_deliver r piece out = returned (deliver (session_of r) piece out)

abbrev pub receiver : Receiver RawSession ℕ
receiver = record { room = 1024; deliver = raw_deliver }

-- each delivery lends 1,024 bytes
abbrev pub Lent : List Delivery → Type 0
Lent ds = (d : Delivery) → Memᴰ d ds → length d.output ≡ 1024

-- what two tunnels have alike
pub record Alike (t u : Tunnel RawSession) : Type 0 where
  pub outcomes : raw_outcome t.session ≡ raw_outcome u.session
  pub bounds : raw_bound t.session ≡ raw_bound u.session
  pub sent : t.sent ≡ u.sent
  pub count : t.count ≡ u.count
  pub rest : t.rest ≡ u.rest

abbrev pub tunnel_of : RawSession → List ℕ → List Delivery → Tunnel RawSession
tunnel_of r sent ds = tunnel receiver r sent ds

abbrev pub joined_of : List Delivery → List ℕ
joined_of ds = joined receiver ds

-- of an opening, the session that its start returned and the bytes that this sent
pub record RawDemand3 (o : Opening) (r : RawSession) (sent : List ℕ) (ds : List Delivery) : Type 0 where
  -- open, which is 1, exactly when the joined bytes begin with a reply sequence of the opening's grammar
  pub opens_just : (raw_outcome (tunnel_of r sent ds).session).state ≡ 1 ↔ Replied o (joined_of ds)
  -- if open, just one beginning is such a sequence, and the total count is its length
  pub just_one : (raw_outcome (tunnel_of r sent ds).session).state ≡ 1 → JustOne o (joined_of ds) (tunnel_of r sent ds).count (machine o (joined_of ds)).bound
  -- open or not, the bound address is the plain machine's
  pub bound_as : raw_bound (tunnel_of r sent ds).session ≡ address_of (endpoints.address_of (machine o (joined_of ds)).bound)
  -- open or not, the rests joined are exactly the joined bytes after the total count
  pub rests_are : (tunnel_of r sent ds).rest ≡ drop (tunnel_of r sent ds).count (joined_of ds)
  -- all sent bytes, the outcome with its number and status and the total count equal the plain machine's
  pub sent_as : (tunnel_of r sent ds).sent ≡ (machine o (joined_of ds)).sent
  pub outcome_as : raw_outcome (tunnel_of r sent ds).session ≡ outcome_of (machine o (joined_of ds)).outcome
  pub count_as : (tunnel_of r sent ds).count ≡ used o (joined_of ds)
  -- F-11: the attempts are those that the plain machine's decisions come to
  pub attempts_are : raw_attempts (tunnel_of r sent ds).session ≡ attempts_of o [] ds % 2 ^ 64
  -- two lists with equal joined bytes are alike in all of these
  pub alike : (ds' : List Delivery) → Lent ds' → joined_of ds' ≡ joined_of ds → Alike (tunnel_of r sent ds') (tunnel_of r sent ds)

-- what preparing returned, if it answers 0, starts with any 1,024 bytes of output; and then every list of deliveries
abbrev pub RawTunnelled : RawStep → Opening → Type 0
RawTunnelled p o =
    p.answer ≡ 0 → (out : List ℕ) → length out ≡ 1024
    → ((raw_start p.session out).answer ≡ 0)
    × ((ds : List Delivery) → BytePieces ds → Lent ds
    → RawDemand3 o (raw_start p.session out).session (take (raw_start p.session out).sent (raw_start p.session out).output) ds)

-- for any arguments of the calls that prepare
abbrev pub RawTunnelled5 : Type 0
RawTunnelled5 = (c : RawConfig) (host : List ℕ) (port : ℕ) (user password records : List ℕ)
    → RawTunnelled (prepared_step (prepare5 (given5 c host port user password records))) (opening5 (given5 c host port user password records))

abbrev pub RawTunnelled4 : Type 0
RawTunnelled4 = (local_dns : ℕ) (host : List ℕ) (port : ℕ) (records : List ℕ)
    → RawTunnelled (prepared_step (prepare4 (given4 local_dns host port records))) (opening4 (given4 local_dns host port records))
