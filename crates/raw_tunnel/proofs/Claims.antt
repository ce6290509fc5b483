-- What the claims in numbers come to. Each of their fields is used here.
use Prim.Native.Nat.{ℕ, ◌+◌, ◌%◌, ◌^◌, ◌<◌}
use native.Mathlib.Omega.{arith}
use mathlib.Core.Path.{◌≡◌, ap, ◌∙◌}
use mathlib.Core.Logic.{◌⊎◌, inl}
use mathlib.Core.List.{List, []}
use lib.ListN.{length, take, drop}
use lib.Dec.{lit<}
use Rattle.protocol.specs.Answers.{Refused}
use Rattle.protocol.specs.declared.SocksError.{SocksError}
use Rattle.protocol.specs.declared.Version.{Version}
use Rattle.protocol.specs.Bytes.{BytePieces}
use Rattle.protocol.specs.Bound as endpoints
use Rattle.protocol.specs.Bound.{Endpoint}
use Rattle.protocol.specs.Numbers.{number, status, answer_number}
use Rattle.protocol.specs.Opening.{Opening, Condition, None}
use Rattle.protocol.specs.Machine.{machine, used}
use Rattle.protocol.specs.Grammar.{Replied, JustOne}
use Rattle.proxy_spec.specs.declared.Stage.TheVariants.{Asked}
use Rattle.proxy_spec.specs.End as plain
use Rattle.proxy_spec.specs.End.{Setup, reply_to, status_to, success}
use Rattle.client_session.specs.declared.Prepared.{Prepared}
use Rattle.client_session.specs.Session.{write_bound}
use Rattle.socks.specs.Attempts.{attempts_of}
use Rattle.socks.specs.Turns.{no_address}
use Rattle.socks.proofs.Claims.{holds}
use Rattle.proxy_session.specs.Calls.{set_up}
use Rattle.proxy.specs.Served.{target_by, handed_out}
use Rattle.raw_numbers.specs.Numbers.{truth}
use Rattle.proxy.specs.Turns.{Given, nowhere}
use Rattle.raw_session.specs.declared.RawOutcome.{RawOutcome}
use Rattle.raw_session.specs.declared.RawSession.{RawSession}
use Rattle.raw_session.specs.Raw.{session_of, raw_of, outcome_of, zeros}
use Rattle.raw_told.specs.declared.RawAddress.{RawAddress}
use Rattle.raw_told.specs.Told.{raw_outcome, address_of, raw_bound, raw_attempts}
use Rattle.raw_openings.specs.Given.{prepared_step}
use Rattle.raw_server.specs.declared.RawServer.{RawServer}
use Rattle.raw_server.specs.Raw as servers
use Rattle.raw_server.specs.Raw.{server_of}
use Rattle.raw_server.specs.declared.RawServed.{RawServed}
use Rattle.raw_proxy.specs.Calls.{set_up_served}
use Rattle.raw_asked.specs.declared.RawTarget.{RawTarget}
use Rattle.raw_asked.specs.Asked.{target_of}
use Rattle.raw_tunnel.specs.Demand3.{raw_start, raw_deliver, Lent, tunnel_of, joined_of, RawDemand3}
use Rattle.raw_tunnel.specs.Turns.{raw_end, RawTells, RawInTurn, RawPreparing, Zeros}
use Rattle.raw_tunnel.specs.Served as served
use Rattle.raw_tunnel.specs.Served.{raw_standing, raw_target, standing_numbers, RawServes}
use Rattle.raw_tunnel.specs.ServedTurns as ends
use Rattle.raw_tunnel.specs.ServedTurns.{stands, raw_answer, RawSettingUp}
use Rattle.talk.specs.Tunnel.{Delivery, Tunnel}

-- ---- a session in numbers

abbrev told : Tunnel RawSession → RawOutcome × (RawAddress × (ℕ × (List ℕ × (ℕ × List ℕ))))
told t = (raw_outcome t.session, (raw_bound t.session, (raw_attempts t.session, (t.sent, (t.count, t.rest)))))

module _ (o : Opening) (r : RawSession) (sent : List ℕ) (ds : List Delivery) (d : RawDemand3 o r sent ds) where
  abbrev bs : List ℕ
  bs = joined_of ds

  -- all that is told of a tunnel is the plain machine's
  pub as_machine : told (tunnel_of r sent ds)
      ≡ (outcome_of (machine o bs).outcome, (address_of (endpoints.address_of (machine o bs).bound), (attempts_of o [] ds % 2 ^ 64, ((machine o bs).sent, (used o bs, drop (used o bs) bs)))))
  as_machine = λ i. (d.outcome_as i, (d.bound_as i, (d.attempts_are i, (d.sent_as i, (d.count_as i, (d.rests_are ∙ ap (λ (n : ℕ). drop n bs) d.count_as) i)))))

  -- state 1 on a reply sequence, of which so many bytes were used
  pub opens_when : Replied o bs → JustOne o bs (tunnel_of r sent ds).count (machine o bs).bound
  opens_when w = d.just_one (d.opens_just.1 w)

  -- another cut tells the same
  pub cut_anew : (ds' : List Delivery) → Lent ds' → joined_of ds' ≡ bs
      → (raw_outcome (tunnel_of r sent ds').session ≡ raw_outcome (tunnel_of r sent ds).session) × (raw_bound (tunnel_of r sent ds').session ≡ raw_bound (tunnel_of r sent ds).session)
      × ((tunnel_of r sent ds').sent ≡ (tunnel_of r sent ds).sent) × ((tunnel_of r sent ds').count ≡ (tunnel_of r sent ds).count) × ((tunnel_of r sent ds').rest ≡ (tunnel_of r sent ds).rest)
  cut_anew ds' l e = let a = d.alike ds' l e in (a.outcomes, a.bounds, a.sent, a.count, a.rest)

abbrev shown : RawSession → RawOutcome × (RawAddress × ℕ)
shown r = (raw_outcome r, (raw_bound r, raw_attempts r))

same_shown : {r : RawSession} {how : RawOutcome} {at : RawAddress} {tries : ℕ} → RawTells r how at tries → shown r ≡ (how, (at, tries))
same_shown w = λ i. (w.outcomes i, (w.bounds i, w.attempts i))

module _ (r : RawSession) (out : List ℕ) (t : RawInTurn r out) where
  -- a session that does not wait refuses every call with 16, and nothing comes of them
  pub settled_16 : ((raw_outcome r).state ≡ 0 → ⊥) → (piece : List ℕ) → ((raw_start r out).answer ≡ 16) × ((raw_deliver r piece out).answer ≡ 16) × ((raw_end r).answer ≡ 16)
  settled_16 w piece = (holds t.start_number (lit< tt) w, holds (t.deliver_number piece) (lit< tt) w, holds t.end_number (lit< tt) w)

  pub refused_leaves : (piece : List ℕ) → ((raw_start r out).answer ≡ 0 → ⊥) → ((raw_deliver r piece out).answer ≡ 0 → ⊥) → ((raw_end r).answer ≡ 0 → ⊥)
      → ((raw_start r out).session ≡ raw_of (session_of r)) × ((raw_deliver r piece out).output ≡ out) × ((raw_end r).session ≡ raw_of (session_of r))
  refused_leaves piece a b c = (λ i. (t.start_untouched a i).session, λ i. (t.deliver_untouched piece b i).output, λ i. (t.end_untouched c i).session)

  -- what an accepted start and an accepted end tell, and that they count nothing
  pub started_told : (raw_start r out).answer ≡ 0 → ((raw_start r out).session.started ≡ 1) × ((raw_start r out).used ≡ 0) × (shown (raw_start r out).session ≡ shown r)
  started_told q = (t.start_marks q, t.start_used, same_shown (t.start_keeps q))

  pub ended_told : (raw_end r).answer ≡ 0 → ((raw_end r).used + (raw_end r).sent ≡ 0) × (shown (raw_end r).session ≡ (record { state = 2; number = 9; status = 0 }, (address_of no_address, raw_attempts r)))
  ended_told q = (omega (arith, t.end_used, t.end_sent), same_shown (t.end_fails q))

  -- nothing is written behind what is sent, nor behind a text
  pub written_only : (piece : List ℕ) → (length (raw_start r out).output ≡ length out) × (drop (raw_deliver r piece out).sent (raw_deliver r piece out).output ≡ drop (raw_deliver r piece out).sent out)
  written_only piece = (t.start_behind.size, (t.deliver_behind piece).bytes)

  pub text_17 : ((raw_outcome r).state ≡ 1 → ⊥) → (buffer : List ℕ)
      → (answer_number (write_bound (session_of r) buffer).answer ≡ 17)
      × (drop (write_bound (session_of r) buffer).len (write_bound (session_of r) buffer).buffer ≡ drop (write_bound (session_of r) buffer).len buffer)
  text_17 w buffer = (holds (t.text_number buffer) (lit< tt) w, t.text_behind buffer)

module _ (p : Prepared) (cs : List Condition) (t : RawPreparing p cs) where
  pub prepared_told : None cs → ((prepared_step p).used + (prepared_step p).sent ≡ 0) × ((prepared_step p).session.started ≡ 0) × (shown (prepared_step p).session ≡ (record { state = 0; number = 0; status = 0 }, (address_of no_address, 0)))
  prepared_told n = let q = t.answers.accepts.1 n in (omega (arith, t.used, t.sent), t.unstarted q, same_shown (t.waits q))

  pub refused_told : (e : SocksError) → p.answer ≡ Refused e → shown (prepared_step p).session ≡ (record { state = 2; number = number e; status = status e }, (address_of no_address, 0))
  refused_told e q = same_shown (t.fails e q)

-- ---- an end in numbers

abbrev served_told : Tunnel RawServer → RawOutcome × (RawTarget × (List ℕ × (ℕ × List ℕ)))
served_told t = (raw_standing t.session, (raw_target t.session, (t.sent, (t.count, t.rest))))

module _ (c : Setup) (r : RawServer) (ds : List Delivery) (d : RawServes c r ds) where
  pub served_as : (let bs = served.joined_of ds in
      let m = plain.machine c bs in
      let t = served.tunnel_of r ds in
      (raw_standing t.session ≡ standing_numbers m.standing) × (raw_target t.session ≡ target_of (handed_out (target_by m.standing))) × (t.sent ≡ m.sent)
      × (t.count ≡ plain.used c bs) × (t.rest ≡ drop (plain.used c bs) bs))
  served_as = (d.standing_as, d.destination_as, d.sent_as, d.count_as, d.rests_are ∙ ap (λ (n : ℕ). drop n (served.joined_of ds)) d.count_as)

  -- another cut is served alike
  pub served_anew : (ds' : List Delivery) → BytePieces ds' → Lent ds' → served.joined_of ds' ≡ served.joined_of ds → served_told (served.tunnel_of r ds') ≡ served_told (served.tunnel_of r ds)
  served_anew ds' b l e = let a = d.alike ds' b l e in λ i. (a.standings i, (a.targets i, (a.sent i, (a.count i, a.rest i))))

abbrev seen : RawServer → RawOutcome × RawTarget
seen r = (raw_standing r, raw_target r)

same_seen : {r : RawServer} {how : RawOutcome} {to : RawTarget} → ends.RawTells r how to → seen r ≡ (how, to)
same_seen w = λ i. (w.standings i, w.targets i)

module _ (r : RawServer) (out : List ℕ) (t : ends.RawInTurn r out) (v : Version) (q : (server_of r).stage ≡ Asked v) (status : ℕ) (x : Endpoint) where
  -- an answer is sent, counts nothing as used, and is told
  pub answered_told : Given x → (take (raw_answer r status x out).sent (raw_answer r status x out).output ≡ reply_to v status x) × ((raw_answer r status x out).used ≡ 0) × (length (raw_answer r status x out).output ≡ length out)
  answered_told g = (t.answer_sends v q status x, t.answer_used status x, (t.answer_behind status x g).size)

  pub success_told : status_to v status ≡ success v → seen (raw_answer r status x out).session ≡ (stands 1 0 0, raw_target r)
  success_told z = same_seen (t.answer_opens v q status x z)

  pub failure_told : (status_to v status ≡ success v → ⊥) → seen (raw_answer r status x out).session ≡ (stands 2 15 (status_to v status), target_of nowhere)
  failure_told z = same_seen (t.answer_fails v q status x z)

module _ (r : RawServer) (out : List ℕ) (t : ends.RawInTurn r out) (piece : List ℕ) where
  -- one that neither waits nor is asked refuses every call with 16
  pub end_settled_16 : ((raw_standing r).state ≡ 0 → ⊥) → ((raw_standing r).state ≡ 3 → ⊥) → (status : ℕ) (x : Endpoint)
      → (((served.receiver).deliver r piece out).answer ≡ 16) × ((raw_answer r status x out).answer ≡ 16) × ((ends.raw_end r).answer ≡ 16)
  end_settled_16 w a status x = (holds (t.deliver_number piece) (lit< tt) w, holds (t.answering_number status x) (lit< tt) a, holds t.end_number (lit< tt) w)

  pub end_refused_leaves : (status : ℕ) (x : Endpoint) → (((served.receiver).deliver r piece out).answer ≡ 0 → ⊥) → ((raw_answer r status x out).answer ≡ 0 → ⊥) → ((ends.raw_end r).answer ≡ 0 → ⊥)
      → (((served.receiver).deliver r piece out).output ≡ out) × ((raw_answer r status x out).output ≡ out) × ((ends.raw_end r).sent ≡ 0)
  end_refused_leaves status x a b c = (λ i. (t.deliver_untouched piece a i).output, λ i. (t.answer_untouched status x b i).output, λ i. (t.end_untouched c i).sent)

  pub end_ended_told : (ends.raw_end r).answer ≡ 0 → ((ends.raw_end r).used + (ends.raw_end r).sent ≡ 0) × (seen (ends.raw_end r).session ≡ (stands 2 9 0, target_of nowhere))
  end_ended_told q = (omega (arith, t.end_used, t.end_sent), same_seen (t.end_fails q))

  pub end_written_only : drop ((served.receiver).deliver r piece out).sent ((served.receiver).deliver r piece out).output ≡ drop ((served.receiver).deliver r piece out).sent out
  end_written_only = (t.deliver_behind piece).bytes

-- a set-up: without credentials too long it waits, with them it is refused with 5; it counts nothing
module _ (authenticates : ℕ) (user password : List ℕ) (t : RawSettingUp authenticates user password) where
  abbrev set : RawServed
  set = set_up_served (set_up (truth authenticates) user password)

  pub set_up_told : ((authenticates ≡ 0 → ⊥) × ((255 < length user) ⊎ (255 < length password)) → ⊥) → (set.used + set.sent ≡ 0) × (seen set.server ≡ (stands 0 0 0, target_of nowhere))
  set_up_told w = (omega (arith, t.used, t.sent), same_seen (t.waits (t.number.accepts.1 (w, tt))))

  pub set_up_5 : (authenticates ≡ 0 → ⊥) → 255 < length user → (set.answer ≡ 5) × (seen set.server ≡ (stands 2 5 0, target_of nowhere))
  set_up_5 w h =
      let q = holds t.number (lit< tt) (w, inl h) in
      (q, same_seen (t.fails (λ z. absurd (omega (arith, q, z)))))

-- ---- all zeros

-- each call on such a session or end tells 16, and the text 17
pub zeros_16 : Zeros → (piece out : List ℕ)
    → ((raw_outcome zeros).number ≡ 16) × ((raw_start zeros out).answer ≡ 16) × ((raw_deliver zeros piece out).answer ≡ 16) × ((raw_end zeros).answer ≡ 16) × (answer_number (write_bound (session_of zeros) out).answer ≡ 17)
zeros_16 z piece out = (λ i. (z.stands i).number, z.start out, z.deliver piece out, z.end, z.text out)

pub end_zeros_16 : served.Zeros → (status : ℕ) (x : Endpoint) (piece out : List ℕ)
    → ((raw_standing servers.zeros).number ≡ 16) × (((served.receiver).deliver servers.zeros piece out).answer ≡ 16) × ((raw_answer servers.zeros status x out).answer ≡ 16) × ((ends.raw_end servers.zeros).answer ≡ 16)
end_zeros_16 z status x piece out = (λ i. (z.stands i).number, z.deliver piece out, z.answer status x out, z.end)
