-- What the claims over routes in lent bytes come to. Each of their fields is used here.
use Prim.Native.Nat.{ℕ, ◌+◌, ◌%◌, ◌^◌, ◌≤◌, ◌<◌}
use native.Mathlib.Omega.{arith}
use mathlib.Core.Path.{◌≡◌, refl, ap, sym, subst, ◌∙◌}
use mathlib.Core.Logic.{inl, inr}
use mathlib.Core.Bool.{true, false, true≢false}
use mathlib.Core.List.{List, ◌++◌, map}
use lib.ListN.{length, take, drop}
use lib.Seq.{drop-append_seam}
use lib.Dec.{lit<}
use Rattle.protocol.specs.Answers.{Accepted, Refused}
use Rattle.protocol.specs.declared.SocksError.{SocksError}
use Rattle.protocol.specs.declared.SocksError.TheVariants.{RouteLength}
use Rattle.protocol.specs.Bytes.{BytePieces}
use Rattle.protocol.specs.Bound as endpoints
use Rattle.protocol.specs.Bound.{Endpoint}
use Rattle.protocol.specs.Numbers.{number, status, answer_number}
use Rattle.protocol.specs.Opening.{Opening}
use Rattle.client_session.specs.Session.{write_bound}
use Rattle.socks.specs.Turns.{no_address}
use Rattle.socks.proofs.Claims.{holds, holds_second}
use Rattle.lent_numbers.specs.declared.told.RawOutcome.{RawOutcome}
use Rattle.lent_numbers.specs.told.Told.{outcome_of}
use Rattle.lent_session.specs.State.{session_at}
use Rattle.lent_session.specs.Calls.{address_of, bound_at}
use Rattle.route_spec.specs.Route.{Asked, opening_for, machines, used_in_turn, Sequences, RepliedInTurn}
use Rattle.route_spec.proofs.Asked.{asked_each}
use Rattle.route_session.specs.declared.calls.Route.{Route}
use Rattle.route_session.specs.calls.Calls.{empty_route, opening}
use Rattle.route.specs.Routed as routed
use Rattle.route.specs.Routed.{attempts_in_turn}
use Rattle.lent_route.specs.State.{count_at, state_of}
use Rattle.lent_route.specs.Calls.{hop_told, hopped}
use Rattle.lent_route.specs.Together.{begun, all_hopped, all_told}
use Rattle.lent_tunnel.specs.Demand3.{outcome_at, attempts_at}
use Rattle.lent_tunnel.specs.Turns.{started_at}
use Rattle.lent_tunnel.specs.Routed.{Hop, asked_for, lent_open, lent_deliver, Lent, tunnel_of, joined_of, LentRouted, LentRoutes}
use Rattle.lent_tunnel.specs.RoutedTurns.{lent_end, Late, RouteInTurn, zeros, RouteZeros}
use Rattle.lent_tunnel.proofs.Claims.{told, shown, same_shown}
use Rattle.talk.specs.Tunnel.{Delivery}
use Rattle.talk.specs.Lawful.{Begins}

-- ---- a route in lent bytes

-- any hops, if all their calls answer 0, and then an opening: the promise holds of their openings, of the bytes that were left, and of the route that these mean
abbrev Promised : List Asked → Type 0
Promised asks =
    answer_number (all_told asks begun) ≡ 0 → 0 < length asks → (out : List ℕ) → length out ≡ 8192
    → (let c = lent_open (all_hopped asks begun) out in
    (c.answer ≡ 0) × ((ds : List Delivery) → BytePieces ds → Lent ds → (r : Route) × LentRouted (map opening_for asks) r c.session (take c.sent c.output) ds))

pub any_hops : LentRoutes → (hops : List Hop) → Promised (map asked_for hops)
any_hops w hops =
    let (a, e, f) = w hops in
    subst Promised e
    (λ told some out l.
    let (opens, g) = f told (omega (arith, some, asked_each a.proxies a.host a.port)) out l in
    (opens, λ ds b m. ((opening a out).session, g ds b m)))

module _ (os : List Opening) (r : Route) (s : List ℕ) (sent : List ℕ) (ds : List Delivery) (d : LentRouted os r s sent ds) where
  abbrev bs : List ℕ
  bs = joined_of ds

  -- all that is told of a tunnel is the plain machines' in turn
  pub as_machines : told (tunnel_of s sent ds)
      ≡ (outcome_of (machines os bs).outcome, (address_of (endpoints.address_of (machines os bs).bound), (attempts_in_turn os ds % 2 ^ 64, ((machines os bs).sent, (used_in_turn os bs, drop (used_in_turn os bs) bs)))))
  as_machines = λ i. (d.outcome_as i, (d.bound_as i, (d.attempts_are i, (d.sent_as i, (d.count_as i, (d.rests_are ∙ ap (λ (n : ℕ). drop n bs) d.count_as) i)))))

  -- rows of reply sequences open it, and what follows them is the rests
  pub opened_then_rest : (p : List ℕ) (x : Endpoint) → Begins p bs → Sequences os p x → ((outcome_at (tunnel_of s sent ds).session).state ≡ 1) × (bs ≡ p ++ (tunnel_of s sent ds).rest)
  opened_then_rest p x (f, b) w =
      let q = d.opens_just.1 (p, x, (f, b), w) in
      let j = d.just_one q in
      let l : (tunnel_of s sent ds).count ≡ length p = j.long ∙ ap length (sym (j.only p x (f, b) w).0) in
      let e : drop (tunnel_of s sent ds).count bs ≡ f = rw (l, b) (drop-append_seam p f) in
      (q, b ∙ ap (λ (z : List ℕ). p ++ z) (sym (d.rests_are ∙ e)))

  pub opened_by : (outcome_at (tunnel_of s sent ds).session).state ≡ 1 → RepliedInTurn os bs
  opened_by q = d.opens_just.0 q

  -- the bytes are the one writing of the route that the library's own tunnel ends with
  pub written_once : (tunnel_of s sent ds).session ≡ state_of (routed.tunnel_of os r sent ds).session
  written_once = d.written ∙ ap state_of d.means

  -- another cut tells the same
  pub cut_anew : (ds' : List Delivery) → BytePieces ds' → Lent ds' → joined_of ds' ≡ bs
      → (outcome_at (tunnel_of s sent ds').session ≡ outcome_at (tunnel_of s sent ds).session) × (bound_at (tunnel_of s sent ds').session ≡ bound_at (tunnel_of s sent ds).session)
      × ((tunnel_of s sent ds').sent ≡ (tunnel_of s sent ds).sent) × ((tunnel_of s sent ds').count ≡ (tunnel_of s sent ds).count) × ((tunnel_of s sent ds').rest ≡ (tunnel_of s sent ds).rest)
  cut_anew ds' b l e = let a = d.alike ds' b l e in (a.outcomes, a.bounds, a.sent, a.count, a.rest)

-- ---- single calls

module _ (s : List ℕ) (out : List ℕ) (t : RouteInTurn s out) where
  -- a route that does not wait refuses every call with 16
  pub settled_16 : ((outcome_at s).state ≡ 0 → ⊥) → (a : Asked) (piece : List ℕ)
      → (answer_number (hop_told a s) ≡ 16) × ((lent_open s out).answer ≡ 16) × ((lent_deliver s piece out).answer ≡ 16) × ((lent_end s).answer ≡ 16)
  settled_16 w a piece = (holds (t.hop_number a) (lit< tt) w, holds t.open_number (lit< tt) w, holds (t.deliver_number piece) (lit< tt) w, holds t.end_number (lit< tt) w)

  -- one that waits and is opened a hop and another opening with 22, and one that is not a delivery and an end
  pub opened_22 : (outcome_at s).state ≡ 0 → started_at s ≡ true → (a : Asked) → (answer_number (hop_told a s) ≡ 22) × ((lent_open s out).answer ≡ 22)
  opened_22 w o a = (holds_second (t.hop_number a) (lit< tt) (λ f. f w) o, holds_second t.open_number (lit< tt) (λ f. f w) o)

  pub unopened_22 : (outcome_at s).state ≡ 0 → started_at s ≡ false → (piece : List ℕ) → ((lent_deliver s piece out).answer ≡ 22) × ((lent_end s).answer ≡ 22)
  unopened_22 w o piece = (holds_second (t.deliver_number piece) (lit< tt) (λ f. f w) o, holds_second t.end_number (lit< tt) (λ f. f w) o)

  -- a ninth hop, and an opening of none, which then has failed
  pub ninth_21 : (outcome_at s).state ≡ 0 → started_at s ≡ false → 8 ≤ count_at s → (a : Asked) → answer_number (hop_told a s) ≡ 21
  ninth_21 w o n a = ((t.hop_number a).refuses 21 (lit< tt)).1 (inr (λ f. f w, inr (λ q. true≢false (sym q ∙ o), inl (n, refl))))

  pub none_21 : (outcome_at s).state ≡ 0 → started_at s ≡ false → count_at s ≡ 0 → lent_open s out ≡ record { answer = 21; session = state_of (empty_route RouteLength); used = 0; sent = 0; output = out }
  none_21 w o n = t.open_none ((t.open_number.refuses 21 (lit< tt)).1 (inr (λ f. f w, inr (λ q. true≢false (sym q ∙ o), inl (n, refl)))))

  -- out of turn nothing is touched
  pub late_leaves : Late s → (a : Asked) → (hopped a s ≡ s) × ((lent_open s out).session ≡ s) × ((lent_open s out).output ≡ out)
  late_leaves w a = (t.hop_untouched a w, λ i. (t.open_untouched w i).session, λ i. (t.open_untouched w i).output)

  pub refused_leaves : (piece : List ℕ) → ((lent_deliver s piece out).answer ≡ 0 → ⊥) → ((lent_end s).answer ≡ 0 → ⊥)
      → ((lent_deliver s piece out).session ≡ s) × ((lent_deliver s piece out).output ≡ out) × ((lent_end s).session ≡ s)
  refused_leaves piece a b = (λ i. (t.deliver_untouched piece a i).session, λ i. (t.deliver_untouched piece a i).output, λ i. (t.end_untouched b i).session)

  -- a refused hop in turn fails the route, with that number
  pub hop_failed : (a : Asked) (e : SocksError) → (Late s → ⊥) → hop_told a s ≡ Refused e
      → (hopped a s ≡ state_of (empty_route e)) × (shown (hopped a s) ≡ (record { state = 2; number = number e; status = status e }, (address_of no_address, 0)))
  hop_failed a e n q = (t.hop_empties a e n q, same_shown (t.hop_fails a e n q))

  -- an accepted one can be opened
  pub hop_then_open : (a : Asked) → hop_told a s ≡ Accepted → RouteInTurn (hopped a s) out → (lent_open (hopped a s) out).answer ≡ 0
  hop_then_open a q u =
      let few : 8 ≤ count_at s → ⊥ = ((t.hop_number a).accepts.0 (ap answer_number q)).1.1.0 in
      let n = t.hop_counts a q in
      let w : (outcome_at (hopped a s)).state ≡ 0 = ap (λ (x : RawOutcome). x.state) (t.hop_keeps a q).outcomes in
      u.open_number.accepts.1 (λ f. f w, (λ o. true≢false (sym o ∙ t.hop_unmarked a q), (λ z. omega (arith, n, z), (λ z. omega (arith, n, z, few), tt))))

  -- what an accepted opening and an accepted end tell, and that they count nothing
  pub opened_told : (lent_open s out).answer ≡ 0
      → (started_at (lent_open s out).session ≡ true) × ((lent_open s out).used ≡ 0) × (shown (lent_open s out).session ≡ (record { state = 0; number = 0; status = 0 }, (address_of no_address, 0)))
  opened_told q = (t.open_marks q, t.open_used, same_shown (t.open_waits q))

  pub ended_told : (lent_end s).answer ≡ 0 → ((lent_end s).used + (lent_end s).sent ≡ 0) × (shown (lent_end s).session ≡ (record { state = 2; number = 9; status = 0 }, (address_of no_address, attempts_at s)))
  ended_told q = (omega (arith, t.end_used, t.end_sent), same_shown (t.end_fails q))

  -- nothing is written behind what is sent, nor behind a text
  pub written_only : (piece : List ℕ) → (length (lent_open s out).output ≡ length out) × (drop (lent_deliver s piece out).sent (lent_deliver s piece out).output ≡ drop (lent_deliver s piece out).sent out)
  written_only piece = (t.open_behind.size, (t.deliver_behind piece).bytes)

  pub text_17 : ((outcome_at s).state ≡ 1 → ⊥) → (buffer : List ℕ)
      → (answer_number (write_bound (session_at s) buffer).answer ≡ 17)
      × (drop (write_bound (session_at s) buffer).len (write_bound (session_at s) buffer).buffer ≡ drop (write_bound (session_at s) buffer).len buffer)
  text_17 w buffer = (holds (t.text_number buffer) (lit< tt) w, t.text_behind buffer)

-- ---- all zeros

-- each call on such a route tells 16, and the text 17
pub zeros_16 : RouteZeros → (a : Asked) (piece out : List ℕ)
    → ((outcome_at zeros).number ≡ 16) × (answer_number (hop_told a zeros) ≡ 16) × ((lent_open zeros out).answer ≡ 16) × ((lent_deliver zeros piece out).answer ≡ 16) × ((lent_end zeros).answer ≡ 16)
    × (answer_number (write_bound (session_at zeros) out).answer ≡ 17)
zeros_16 z a piece out = (λ i. (z.stands i).number, z.hop a, z.opens out, z.deliver piece out, z.end, z.text out)
