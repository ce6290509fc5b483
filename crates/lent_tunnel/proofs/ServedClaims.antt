-- F-3: what the claims over a proxy's end in lent bytes come to. Each of their fields is used here.
use Prim.Native.Nat.{ℕ, ◌+◌, ◌<◌}
use native.Mathlib.Omega.{arith}
use mathlib.Core.Path.{◌≡◌, ap, sym, ◌∙◌}
use mathlib.Core.Logic.{◌⊎◌, inl}
use mathlib.Core.List.{List}
use lib.ListN.{length, take, drop}
use lib.Dec.{lit<}
use Rattle.protocol.specs.declared.Version.{Version}
use Rattle.protocol.specs.Bytes.{Bytes, BytePieces}
use Rattle.protocol.specs.Numbers.{answer_number}
use Rattle.protocol.specs.Bound.{Endpoint}
use Rattle.proxy_spec.specs.declared.Stage.TheVariants.{Asked}
use Rattle.proxy_spec.specs.End as plain
use Rattle.proxy_spec.specs.End.{Setup, reply_to, status_to, success}
use Rattle.socks.proofs.Claims.{holds}
use Rattle.proxy_session.specs.declared.SetUp.{SetUp}
use Rattle.proxy_session.specs.Calls.{set_up, deliver, answer, end}
use Rattle.proxy.specs.Served.{target_by, handed_out}
use Rattle.proxy.specs.Turns.{Given, nowhere}
use Rattle.raw_numbers.specs.Numbers.{truth}
use Rattle.lent_numbers.specs.declared.told.RawOutcome.{RawOutcome}
use Rattle.lent_proxy.specs.declared.telling.RawTarget.{RawTarget}
use Rattle.lent_proxy.specs.State.{server_at, state_of}
use Rattle.lent_proxy.specs.Calls.{step_by, target_of}
use Rattle.lent_tunnel.specs.Demand3.{Lent}
use Rattle.lent_tunnel.specs.Served.{lent_deliver, lent_answer, lent_end, standing_at, target_at, standing_numbers, tunnel_of, joined_of, LentServes, zeros, Zeros}
use Rattle.lent_tunnel.specs.ServedTurns.{LentTells, stands, LentInTurn, LentSettingUp}
use Rattle.talk.specs.Tunnel.{Delivery, Tunnel}

-- ---- an end in lent bytes

abbrev told : Tunnel (List ℕ) → RawOutcome × (RawTarget × (List ℕ × (ℕ × List ℕ)))
told t = (standing_at t.session, (target_at t.session, (t.sent, (t.count, t.rest))))

module _ (c : Setup) (s : List ℕ) (ds : List Delivery) (d : LentServes c s ds) where
  abbrev bs : List ℕ
  bs = joined_of ds

  -- all that is told of a tunnel is the plain machine's
  pub served_as : told (tunnel_of s ds)
      ≡ (standing_numbers (plain.machine c bs).standing, (target_of (handed_out (target_by (plain.machine c bs).standing)), ((plain.machine c bs).sent, (plain.used c bs, drop (plain.used c bs) bs))))
  served_as = λ i. (d.standing_as i, (d.destination_as i, (d.sent_as i, (d.count_as i, (d.rests_are ∙ ap (λ (n : ℕ). drop n bs) d.count_as) i))))

  -- two ends that mean the same have the same bytes
  pub written_once : (z : List ℕ) → z ≡ state_of (server_at z) → server_at z ≡ server_at (tunnel_of s ds).session → z ≡ (tunnel_of s ds).session
  written_once z w e = w ∙ ap state_of e ∙ sym d.written

  -- another cut is served alike
  pub served_anew : (ds' : List Delivery) → BytePieces ds' → Lent ds' → joined_of ds' ≡ bs → told (tunnel_of s ds') ≡ told (tunnel_of s ds)
  served_anew ds' b l e = let a = d.alike ds' b l e in λ i. (a.standings i, (a.targets i, (a.sent i, (a.count i, a.rest i))))

abbrev seen : List ℕ → RawOutcome × RawTarget
seen s = (standing_at s, target_at s)

same_seen : {s : List ℕ} {how : RawOutcome} {to : RawTarget} → LentTells s how to → seen s ≡ (how, to)
same_seen w = λ i. (w.standings i, w.targets i)

module _ (s : List ℕ) (out : List ℕ) (t : LentInTurn s out) where
  module _ (v : Version) (q : (server_at s).stage ≡ Asked v) (status : ℕ) (x : Endpoint) where
    -- an answer is sent, counts nothing as used, and writes nothing behind it
    pub answered_told : Given x
        → (take (lent_answer s status x out).sent (lent_answer s status x out).output ≡ reply_to v status x) × ((lent_answer s status x out).used ≡ 0) × (length (lent_answer s status x out).output ≡ length out)
    answered_told g = (t.answer_sends v q status x, t.answer_used status x, (t.answer_behind status x g).size)

    -- 1 with its destination, or 2 with 15 and the status sent: as the step tells it
    pub success_told : status_to v status ≡ success v → (seen (lent_answer s status x out).session ≡ (stands 1 0 0, target_at s)) × ((step_by (answer (server_at s) status x out)).outcome ≡ stands 1 0 0)
    success_told z = let w = t.answer_opens v q status x z in (same_seen w, t.answer_stands status x ∙ w.standings)

    pub failure_told : (status_to v status ≡ success v → ⊥) → seen (lent_answer s status x out).session ≡ (stands 2 15 (status_to v status), target_of nowhere)
    failure_told z = same_seen (t.answer_fails v q status x z)

  module _ (piece : List ℕ) where
    -- one that neither waits nor is asked refuses every call with 16
    pub settled_16 : ((standing_at s).state ≡ 0 → ⊥) → ((standing_at s).state ≡ 3 → ⊥) → (status : ℕ) (x : Endpoint)
        → ((lent_deliver s piece out).answer ≡ 16) × ((lent_answer s status x out).answer ≡ 16) × ((lent_end s).answer ≡ 16)
    settled_16 w a status x = (holds (t.deliver_number piece) (lit< tt) w, holds (t.answering_number status x) (lit< tt) a, holds t.end_number (lit< tt) w)

    -- and a refused call leaves every byte
    pub refused_leaves : (status : ℕ) (x : Endpoint) → ((lent_deliver s piece out).answer ≡ 0 → ⊥) → ((lent_answer s status x out).answer ≡ 0 → ⊥) → ((lent_end s).answer ≡ 0 → ⊥)
        → ((lent_deliver s piece out).session ≡ s) × ((lent_deliver s piece out).output ≡ out) × ((lent_answer s status x out).session ≡ s) × ((lent_end s).session ≡ s)
    refused_leaves status x a b c =
        (λ i. (t.deliver_untouched piece a i).session, λ i. (t.deliver_untouched piece a i).output, λ i. (t.answer_untouched status x b i).session, λ i. (t.end_untouched c i).session)

    -- nothing is written behind what a delivery sends, and its step tells how the end then stands
    pub delivered_told : Bytes piece
        → (drop (lent_deliver s piece out).sent (lent_deliver s piece out).output ≡ drop (lent_deliver s piece out).sent out)
        × ((step_by (deliver (server_at s) piece out)).outcome ≡ standing_at (lent_deliver s piece out).session)
    delivered_told y = ((t.deliver_behind piece).bytes, t.deliver_stands piece y)

  pub ended_told : (lent_end s).answer ≡ 0 → ((lent_end s).used + (lent_end s).sent ≡ 0) × (seen (lent_end s).session ≡ (stands 2 9 0, target_of nowhere)) × ((step_by (end (server_at s))).outcome.number ≡ 9)
  ended_told q = let w = t.end_fails q in (omega (arith, t.end_used, t.end_sent), same_seen w, λ i. ((t.end_stands ∙ w.standings) i).number)

-- a set-up: without credentials too long it waits, with them it is refused with 5
module _ (authenticates : ℕ) (user password : List ℕ) (t : LentSettingUp authenticates user password) where
  abbrev set : SetUp
  set = set_up (truth authenticates) user password

  pub set_up_told : ((authenticates ≡ 0 → ⊥) × ((255 < length user) ⊎ (255 < length password)) → ⊥) → seen (state_of set.server) ≡ (stands 0 0 0, target_of nowhere)
  set_up_told w = same_seen (t.waits (t.number.accepts.1 (w, tt)))

  pub set_up_5 : (authenticates ≡ 0 → ⊥) → 255 < length user → (answer_number set.answer ≡ 5) × (seen (state_of set.server) ≡ (stands 2 5 0, target_of nowhere))
  set_up_5 w h =
      let q = holds t.number (lit< tt) (w, inl h) in
      (q, same_seen (t.fails (λ z. absurd (omega (arith, q, z)))))

-- each call on all zeros tells 16
pub zeros_16 : Zeros → (status : ℕ) (x : Endpoint) (piece out : List ℕ)
    → ((standing_at zeros).number ≡ 16) × ((lent_deliver zeros piece out).answer ≡ 16) × ((lent_answer zeros status x out).answer ≡ 16) × ((lent_end zeros).answer ≡ 16)
zeros_16 z status x piece out = (λ i. (z.stands i).number, z.deliver piece out, z.answer status x out, z.end)
