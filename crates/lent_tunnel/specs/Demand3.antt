-- Demand 3 over sessions in lent bytes, one claim over every list of deliveries: a field for each sentence, in the numbers that the calls tell. A call lends 1,024
-- bytes of output, which is what the most of them ask, so that every piece counts.
use Rattle.std.specs.Prelude.{ℕ, ◌%◌, ◌^◌, ◌≤◌, ◌≡◌, ◌↔◌, length, take, drop, replicate}
use mathlib.Core.List.{List, [], Memᴰ}
use Rattle.protocol.specs.Bytes.{Bytes, BytePieces}
use Rattle.protocol.specs.Bound as endpoints
use Rattle.protocol.specs.Numbers.{answer_number}
use Rattle.protocol.specs.Opening.{Opening, opening5, opening4}
use Rattle.protocol.specs.Machine.{machine, used}
use Rattle.protocol.specs.Grammar.{Replied, JustOne}
use Rattle.protocol.specs.Wants.{WantedBy}
use Rattle.client_session.specs.declared.Prepared.{Prepared}
use Rattle.client_session.specs.Session.{outcome, wants}
use Rattle.client_session.specs.Calls.{Call, prepare5, prepare4, start, deliver}
use Rattle.socks.specs.Attempts.{attempts_of}
use Rattle.lent_numbers.specs.declared.told.RawOutcome.{RawOutcome}
use Rattle.lent_numbers.specs.told.Told.{outcome_of}
use Rattle.lent_session.specs.declared.preparing.RawConfig.{RawConfig}
use Rattle.lent_session.specs.Given.{given5, given4}
use Rattle.lent_session.specs.State.{session_at, state_of}
use Rattle.lent_session.specs.Calls.{step_by, left_by, address_of, bound_at, wiped}
use Rattle.talk.specs.Tunnel.{Answer, Receiver, Delivery, joined, Tunnel, tunnel}

-- what a call gives back: what the exported function returns, and the lent bytes and the output that it leaves
abbrev pub returned : List ℕ → Call → Answer (List ℕ) ℕ
returned state c =
    record { answer = (step_by c).answer; session = left_by c.answer c.session state; used = (step_by c).used; sent = (step_by c).sent; output = c.output }

abbrev pub lent_start : List ℕ → List ℕ → Answer (List ℕ) ℕ
lent_start s out = returned s (start (session_at s) out)

abbrev pub lent_deliver : List ℕ → List ℕ → List ℕ → Answer (List ℕ) ℕ
lent_deliver s piece out = returned s (deliver (session_at s) piece out)

abbrev pub receiver : Receiver (List ℕ) ℕ
receiver = record { room = 1024; deliver = lent_deliver }

abbrev pub outcome_at : List ℕ → RawOutcome
outcome_at s = outcome_of (outcome (session_at s))

abbrev pub attempts_at : List ℕ → ℕ
attempts_at s = (session_at s).attempts

abbrev pub wants_at : List ℕ → ℕ
wants_at s = wants (session_at s)

-- each delivery lends 1,024 bytes
abbrev pub Lent : List Delivery → Type 0
Lent ds = (d : Delivery) → Memᴰ d ds → length d.output ≡ 1024

-- what two tunnels have alike
pub record Alike (t u : Tunnel (List ℕ)) : Type 0 where
  pub outcomes : outcome_at t.session ≡ outcome_at u.session
  pub bounds : bound_at t.session ≡ bound_at u.session
  pub sent : t.sent ≡ u.sent
  pub count : t.count ≡ u.count
  pub rest : t.rest ≡ u.rest

abbrev pub tunnel_of : List ℕ → List ℕ → List Delivery → Tunnel (List ℕ)
tunnel_of s sent ds = tunnel receiver s sent ds

abbrev pub joined_of : List Delivery → List ℕ
joined_of ds = joined receiver ds

-- of an opening, the bytes that its start left and those that this sent
pub record LentDemand3 (o : Opening) (s : List ℕ) (sent : List ℕ) (ds : List Delivery) : Type 0 where
  -- open, which is 1, exactly when the joined bytes begin with a reply sequence of the opening's grammar
  pub opens_just : (outcome_at (tunnel_of s sent ds).session).state ≡ 1 ↔ Replied o (joined_of ds)
  -- if open, just one beginning is such a sequence, and the total count is its length
  pub just_one : (outcome_at (tunnel_of s sent ds).session).state ≡ 1 → JustOne o (joined_of ds) (tunnel_of s sent ds).count (machine o (joined_of ds)).bound
  -- open or not, the bound address is the plain machine's
  pub bound_as : bound_at (tunnel_of s sent ds).session ≡ address_of (endpoints.address_of (machine o (joined_of ds)).bound)
  -- open or not, the rests joined are exactly the joined bytes after the total count
  pub rests_are : (tunnel_of s sent ds).rest ≡ drop (tunnel_of s sent ds).count (joined_of ds)
  -- all sent bytes, the outcome with its number and status and the total count equal the plain machine's
  pub sent_as : (tunnel_of s sent ds).sent ≡ (machine o (joined_of ds)).sent
  pub outcome_as : outcome_at (tunnel_of s sent ds).session ≡ outcome_of (machine o (joined_of ds)).outcome
  pub count_as : (tunnel_of s sent ds).count ≡ used o (joined_of ds)
  -- F-11: the attempts are those that the plain machine's decisions come to
  pub attempts_are : attempts_at (tunnel_of s sent ds).session ≡ attempts_of o [] ds % 2 ^ 64
  -- what it wants: the shortest stream that completes the joined bytes to a reply sequence, or settles the plain machine; and no more than that is never too much
  pub wanted : WantedBy o (joined_of ds) (wants_at (tunnel_of s sent ds).session)
  pub never_past : (piece out : List ℕ) → Bytes piece → length piece ≤ wants_at (tunnel_of s sent ds).session → (outcome_at (lent_deliver (tunnel_of s sent ds).session piece out).session).state ≡ 1
      → (lent_deliver (tunnel_of s sent ds).session piece out).used ≡ length piece
  -- the lent bytes are the one writing of the session that they mean, and wiped they are all zeros
  pub written : (tunnel_of s sent ds).session ≡ state_of (session_at (tunnel_of s sent ds).session)
  pub wiped_all : wiped (tunnel_of s sent ds).session ≡ replicate 1306 0
  -- two lists with equal joined bytes are alike in all of these
  pub alike : (ds' : List Delivery) → BytePieces ds' → Lent ds' → joined_of ds' ≡ joined_of ds → Alike (tunnel_of s sent ds') (tunnel_of s sent ds)

-- the bytes that preparing left, if it answers 0, start with any 1,024 bytes of output; and then every list of deliveries
abbrev pub LentTunnelled : Prepared → Opening → Type 0
LentTunnelled p o =
    answer_number p.answer ≡ 0 → (out : List ℕ) → length out ≡ 1024
    → ((lent_start (state_of p.session) out).answer ≡ 0)
    × ((ds : List Delivery) → BytePieces ds → Lent ds
    → LentDemand3 o (lent_start (state_of p.session) out).session (take (lent_start (state_of p.session) out).sent (lent_start (state_of p.session) out).output) ds)

-- for any arguments of the calls that prepare
abbrev pub LentTunnelled5 : Type 0
LentTunnelled5 = (c : RawConfig) (host : List ℕ) (port : ℕ) (user password records : List ℕ)
    → LentTunnelled (prepare5 (given5 c host port user password records)) (opening5 (given5 c host port user password records))

abbrev pub LentTunnelled4 : Type 0
LentTunnelled4 = (local_dns : ℕ) (host : List ℕ) (port : ℕ) (records : List ℕ)
    → LentTunnelled (prepare4 (given4 local_dns host port records)) (opening4 (given4 local_dns host port records))
