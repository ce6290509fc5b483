-- What the claims over lent bytes come to. Each of their fields is used here.
use Prim.Native.Nat.{ℕ, ◌+◌, ◌%◌, ◌^◌, ◌≤◌}
use native.Mathlib.Omega.{arith}
use mathlib.Core.Path.{◌≡◌, ap, ◌∙◌}
use mathlib.Core.Bool.{true, false}
use mathlib.Core.List.{List, []}
use lib.ListN.{length, drop}
use lib.Dec.{lit<}
use Rattle.protocol.specs.Answers.{Refused}
use Rattle.protocol.specs.declared.SocksError.{SocksError}
use Rattle.protocol.specs.Bytes.{Bytes, BytePieces}
use Rattle.protocol.specs.Bound as endpoints
use Rattle.protocol.specs.Numbers.{number, status, answer_number}
use Rattle.protocol.specs.Opening.{Opening, Condition, None}
use Rattle.protocol.specs.Machine.{machine, used}
use Rattle.protocol.specs.Grammar.{Replied, JustOne}
use Rattle.protocol.specs.Wants.{WantedBy}
use Rattle.protocol.proofs.Limits.{number_accepted}
use Rattle.client_session.specs.declared.Prepared.{Prepared}
use Rattle.client_session.specs.Session.{write_bound}
use Rattle.socks.specs.Attempts.{attempts_of}
use Rattle.socks.specs.Turns.{no_address}
use Rattle.socks.proofs.Claims.{holds}
use Rattle.lent_numbers.specs.declared.told.RawOutcome.{RawOutcome}
use Rattle.lent_numbers.specs.told.Told.{outcome_of}
use Rattle.lent_session.specs.declared.telling.RawAddress.{RawAddress}
use Rattle.lent_session.specs.State.{session_at, state_of}
use Rattle.lent_session.specs.Calls.{address_of, bound_at, wiped}
use Rattle.lent_tunnel.specs.Demand3.{lent_start, lent_deliver, outcome_at, attempts_at, wants_at, Lent, tunnel_of, joined_of, LentDemand3}
use Rattle.lent_tunnel.specs.Turns.{lent_end, started_at, LentTells, LentInTurn, LentPreparing, zeros, Zeros}
use Rattle.talk.specs.Tunnel.{Delivery, Tunnel}

-- ---- a session in lent bytes

abbrev pub told : Tunnel (List ℕ) → RawOutcome × (RawAddress × (ℕ × (List ℕ × (ℕ × List ℕ))))
told t = (outcome_at t.session, (bound_at t.session, (attempts_at t.session, (t.sent, (t.count, t.rest)))))

module _ (o : Opening) (r : List ℕ) (sent : List ℕ) (ds : List Delivery) (d : LentDemand3 o r sent ds) where
  abbrev bs : List ℕ
  bs = joined_of ds

  -- all that is told of a tunnel is the plain machine's
  pub as_machine : told (tunnel_of r sent ds)
      ≡ (outcome_of (machine o bs).outcome, (address_of (endpoints.address_of (machine o bs).bound), (attempts_of o [] ds % 2 ^ 64, ((machine o bs).sent, (used o bs, drop (used o bs) bs)))))
  as_machine = λ i. (d.outcome_as i, (d.bound_as i, (d.attempts_are i, (d.sent_as i, (d.count_as i, (d.rests_are ∙ ap (λ (n : ℕ). drop n bs) d.count_as) i)))))

  -- state 1 on a reply sequence, of which so many bytes were used
  pub opens_when : Replied o bs → JustOne o bs (tunnel_of r sent ds).count (machine o bs).bound
  opens_when w = d.just_one (d.opens_just.1 w)

  -- the bytes are written in one way, and none of them is left by a wipe
  pub written_once : ((tunnel_of r sent ds).session ≡ state_of (session_at (tunnel_of r sent ds).session)) × (wiped (tunnel_of r sent ds).session ≡ zeros)
  written_once = (d.written, d.wiped_all)

  -- a read of no more than it wants leaves nothing over once it is open
  pub reads_exactly : WantedBy o bs (wants_at (tunnel_of r sent ds).session) × ((piece out : List ℕ) → Bytes piece → length piece ≤ wants_at (tunnel_of r sent ds).session
      → (outcome_at (lent_deliver (tunnel_of r sent ds).session piece out).session).state ≡ 1 → (lent_deliver (tunnel_of r sent ds).session piece out).used ≡ length piece)
  reads_exactly = (d.wanted, d.never_past)

  -- another cut tells the same
  pub cut_anew : (ds' : List Delivery) → BytePieces ds' → Lent ds' → joined_of ds' ≡ bs
      → (outcome_at (tunnel_of r sent ds').session ≡ outcome_at (tunnel_of r sent ds).session) × (bound_at (tunnel_of r sent ds').session ≡ bound_at (tunnel_of r sent ds).session)
      × ((tunnel_of r sent ds').sent ≡ (tunnel_of r sent ds).sent) × ((tunnel_of r sent ds').count ≡ (tunnel_of r sent ds).count) × ((tunnel_of r sent ds').rest ≡ (tunnel_of r sent ds).rest)
  cut_anew ds' b l e = let a = d.alike ds' b l e in (a.outcomes, a.bounds, a.sent, a.count, a.rest)

abbrev pub shown : List ℕ → RawOutcome × (RawAddress × ℕ)
shown r = (outcome_at r, (bound_at r, attempts_at r))

pub same_shown : {r : List ℕ} {how : RawOutcome} {at : RawAddress} {tries : ℕ} → LentTells r how at tries → shown r ≡ (how, (at, tries))
same_shown w = λ i. (w.outcomes i, (w.bounds i, w.attempts i))

module _ (r : List ℕ) (out : List ℕ) (t : LentInTurn r out) where
  -- a session that does not wait refuses every call with 16, and nothing comes of them
  pub settled_16 : ((outcome_at r).state ≡ 0 → ⊥) → (piece : List ℕ) → ((lent_start r out).answer ≡ 16) × ((lent_deliver r piece out).answer ≡ 16) × ((lent_end r).answer ≡ 16)
  settled_16 w piece = (holds t.start_number (lit< tt) w, holds (t.deliver_number piece) (lit< tt) w, holds t.end_number (lit< tt) w)

  pub refused_leaves : (piece : List ℕ) → ((lent_start r out).answer ≡ 0 → ⊥) → ((lent_deliver r piece out).answer ≡ 0 → ⊥) → ((lent_end r).answer ≡ 0 → ⊥)
      → ((lent_start r out).session ≡ r) × ((lent_deliver r piece out).output ≡ out) × ((lent_end r).session ≡ r)
  refused_leaves piece a b c = (λ i. (t.start_untouched a i).session, λ i. (t.deliver_untouched piece b i).output, λ i. (t.end_untouched c i).session)

  -- what an accepted start and an accepted end tell, and that they count nothing
  pub started_told : (lent_start r out).answer ≡ 0 → (started_at (lent_start r out).session ≡ true) × ((lent_start r out).used ≡ 0) × (shown (lent_start r out).session ≡ shown r)
  started_told q = (t.start_marks q, t.start_used, same_shown (t.start_keeps q))

  pub ended_told : (lent_end r).answer ≡ 0 → ((lent_end r).used + (lent_end r).sent ≡ 0) × (shown (lent_end r).session ≡ (record { state = 2; number = 9; status = 0 }, (address_of no_address, attempts_at r)))
  ended_told q = (omega (arith, t.end_used, t.end_sent), same_shown (t.end_fails q))

  -- nothing is written behind what is sent, nor behind a text
  pub written_only : (piece : List ℕ) → (length (lent_start r out).output ≡ length out) × (drop (lent_deliver r piece out).sent (lent_deliver r piece out).output ≡ drop (lent_deliver r piece out).sent out)
  written_only piece = (t.start_behind.size, (t.deliver_behind piece).bytes)

  pub text_17 : ((outcome_at r).state ≡ 1 → ⊥) → (buffer : List ℕ)
      → (answer_number (write_bound (session_at r) buffer).answer ≡ 17)
      × (drop (write_bound (session_at r) buffer).len (write_bound (session_at r) buffer).buffer ≡ drop (write_bound (session_at r) buffer).len buffer)
  text_17 w buffer = (holds (t.text_number buffer) (lit< tt) w, t.text_behind buffer)

module _ (p : Prepared) (cs : List Condition) (t : LentPreparing p cs) where
  pub prepared_told : None cs → (started_at (state_of p.session) ≡ false) × (shown (state_of p.session) ≡ (record { state = 0; number = 0; status = 0 }, (address_of no_address, 0)))
  prepared_told n = let q = number_accepted _ (t.answers.accepts.1 n) in (t.unstarted q, same_shown (t.waits q))

  pub refused_told : (e : SocksError) → p.answer ≡ Refused e → shown (state_of p.session) ≡ (record { state = 2; number = number e; status = status e }, (address_of no_address, 0))
  refused_told e q = same_shown (t.fails e q)

-- ---- all zeros

-- each call on such a session tells 16, and the text 17
pub zeros_16 : Zeros → (piece out : List ℕ)
    → ((outcome_at zeros).number ≡ 16) × ((lent_start zeros out).answer ≡ 16) × ((lent_deliver zeros piece out).answer ≡ 16) × ((lent_end zeros).answer ≡ 16) × (answer_number (write_bound (session_at zeros) out).answer ≡ 17)
zeros_16 z piece out = (λ i. (z.stands i).number, z.start out, z.deliver piece out, z.end, z.text out)
