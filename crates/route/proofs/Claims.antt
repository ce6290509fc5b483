-- What F-5's promise and the claims on a route's single calls come to. Each of their fields is used here.
use Prim.Native.Nat.{ℕ, ◌+◌, ◌≤◌, ◌<◌}
use native.Mathlib.Omega.{arith}
use mathlib.Core.Path.{◌≡◌, ap, sym, ◌∙◌}
use mathlib.Core.List.{List, [], ◌∷◌, ◌++◌, append-nil}
use lib.ListN.{length, drop}
use lib.Seq.{drop-append_seam, drop-length}
use lib.Dec.{lit<}
use Rattle.protocol.specs.declared.Address.{Address}
use Rattle.protocol.specs.Answers.{Accepted, Refused}
use Rattle.protocol.specs.declared.Outcome.{Outcome}
use Rattle.protocol.specs.declared.Outcome.TheVariants.{Waiting, Open, Failed}
use Rattle.protocol.specs.declared.SocksError.{SocksError}
use Rattle.protocol.specs.declared.SocksError.TheVariants.{UnexpectedEof}
use Rattle.protocol.specs.Numbers.{answer_number, outcome_number}
use Rattle.protocol.specs.Bytes.{Bytes, BytePieces}
use Rattle.protocol.specs.Wants.{Some}
use Rattle.protocol.specs.Bound.{Endpoint, address_of}
use Rattle.protocol.specs.Opening.{Opening, None}
use Rattle.protocol.proofs.Limits.{number_accepted}
use Rattle.client_session.specs.Session as session
use Rattle.client_session.specs.Calls as session-calls
use Rattle.socks.specs.InTwo.{in_two}
use Rattle.socks.specs.Turns.{no_address}
use Rattle.route_session.specs.plan.Plan.{prepared_for}
use Rattle.socks.proofs.Claims.{holds, holds_second}
use Rattle.route_spec.specs.Route as routing
use Rattle.route_spec.specs.Route.{Asked, room_for, openings, conditions, machines, used_in_turn, Sequences}
use Rattle.route_session.specs.declared.calls.Route.{Route}
use Rattle.route_session.specs.calls.Calls.{Call, outcome, wants, bound, opening, deliver, end}
use Rattle.route.specs.Routed as routed
use Rattle.route.specs.Routed.{receiver, session_receiver, told_by, tunnel_of, joined_of, attempts_in_turn, lending, Routed, AsOne}
use Rattle.route.specs.Turns.{Tells, InTurn, OpensInTurn}
use Rattle.route.specs.Wants.{CompletesInTurn, SettlesInTurn, AnyWants, Reads, shortest_of, shortest_row, Read}
use Rattle.talk.specs.Tunnel.{Delivery, after, Tunnel}
use Rattle.talk.specs.Lawful.{Begins}

-- ---- the promise

-- what is told of a route's tunnel: outcome with status, bound address, sent bytes, count and rests
abbrev told : Tunnel Route → Outcome × (Address × (List ℕ × (ℕ × List ℕ)))
told t = (outcome t.session, (bound t.session, (t.sent, (t.count, t.rest))))

module _ (os : List Opening) (r : Route) (sent : List ℕ) (ds : List Delivery) (d : Routed os r sent ds) where
  abbrev bs : List ℕ
  bs = joined_of os ds

  -- all of it is the plain machines' in turn on the joined bytes
  pub as_machines : told (tunnel_of os r sent ds) ≡ ((machines os bs).outcome, (address_of (machines os bs).bound, ((machines os bs).sent, (used_in_turn os bs, drop (used_in_turn os bs) bs))))
  as_machines = λ i. (d.outcome_as i, (d.bound_as i, (d.sent_as i, (d.count_as i, (d.rests_are ∙ ap (λ (n : ℕ). drop n bs) d.count_as) i))))

  -- and the same for every other cut of them
  pub cut_anew : (ds' : List Delivery) → joined_of os ds' ≡ bs → told (tunnel_of os r sent ds') ≡ told (tunnel_of os r sent ds)
  cut_anew ds' e = let a = d.alike ds' e in λ i. (a.outcomes i, (a.bounds i, (a.sent i, (a.count i, a.rest i))))

  -- rows of reply sequences open it, and what follows them is the rests
  pub opened_then_rest : (p : List ℕ) (x : Endpoint) → Begins p bs → Sequences os p x → (outcome (tunnel_of os r sent ds).session ≡ Open) × (bs ≡ p ++ (tunnel_of os r sent ds).rest)
  opened_then_rest p x (f, b) w =
      let q = d.opens_just.1 (p, x, (f, b), w) in
      let j = d.just_one q in
      let l : (tunnel_of os r sent ds).count ≡ length p = j.long ∙ ap length (sym (j.only p x (f, b) w).0) in
      let e : drop (tunnel_of os r sent ds).count bs ≡ f = rw (l, b) (drop-append_seam p f) in
      (q, b ∙ ap (λ (z : List ℕ). p ++ z) (sym (d.rests_are ∙ e)))

  -- F-11: what it carries is no more than the sum
  pub few_told : (tunnel_of os r sent ds).session.attempts ≤ attempts_in_turn os (lending os ds)
  few_told = omega (arith, d.attempts_are)

-- ---- single calls

abbrev shown : Route → Outcome × (Address × (ℕ × ℕ))
shown r = (outcome r, (bound r, (r.attempts, r.held)))

same_shown : {r : Route} {how : Outcome} {at : Address} {tries held : ℕ} → Tells r how at tries held → shown r ≡ (how, (at, (tries, held)))
same_shown w = λ i. (w.outcomes i, (w.bounds i, (w.attempts i, w.holds i)))

module _ (room : ℕ) (r : Route) (t : InTurn room r) where
  -- a settled route refuses every call with 16, one that waits a delivery that lends too little with 1
  pub settled_16 : (outcome r ≡ Waiting → ⊥) → (piece out : List ℕ) → (answer_number (deliver r piece out).answer ≡ 16) × (answer_number (end r).answer ≡ 16)
  settled_16 w piece out = (holds (t.deliver_number piece out) (lit< tt) w, holds t.end_number (lit< tt) w)

  pub short_1 : outcome r ≡ Waiting → (piece out : List ℕ) → length out < room → answer_number (deliver r piece out).answer ≡ 1
  short_1 w piece out h = holds_second (t.deliver_number piece out) (lit< tt) (λ f. f w) h

  -- a refused call leaves route and output
  pub refused_leaves : (e f : SocksError) (piece out : List ℕ) → (deliver r piece out).answer ≡ Refused e → (end r).answer ≡ Refused f
      → ((deliver r piece out).session ≡ r) × ((deliver r piece out).output ≡ out) × ((end r).session ≡ r)
  refused_leaves e f piece out p q =
      let c = t.deliver_untouched piece out e p in
      (ap (λ (c : Call). c.session) c, ap (λ (c : Call). c.output) c, ap (λ (c : Call). c.session) (t.end_untouched f q))

  -- an empty piece in turn tells nothing new
  pub empty_leaves : (out : List ℕ) → (deliver r [] out).answer ≡ Accepted → ((deliver r [] out).used + (deliver r [] out).sent ≡ 0) × (shown (deliver r [] out).session ≡ shown r)
  empty_leaves out p = (omega (arith, (t.nothing out p).0, (t.nothing out p).1), same_shown (t.nothing_told out p))

  -- an end told by numbers: 9, no address, and the attempts that there were
  pub ended_9 : (end r).answer ≡ Accepted → (outcome_number (outcome (end r).session) ≡ 9) × (shown (end r).session ≡ (Failed UnexpectedEof, (no_address, (r.attempts, 0))))
  ended_9 p = (t.end_nine p, same_shown (t.end_fails p))

  -- no delivery writes behind what it sends
  pub written_only : (piece out : List ℕ) → (drop (deliver r piece out).sent (deliver r piece out).output ≡ drop (deliver r piece out).sent out) × (length (deliver r piece out).output ≡ length out)
  written_only piece out = ((t.deliver_behind piece out).bytes, (t.deliver_behind piece out).size)

module _ (a : routing.Route) (out : List ℕ) (t : OpensInTurn a out) where
  -- a refused opening is failed, and leaves the output
  pub refused_is : (e : SocksError) → (opening a out).answer ≡ Refused e → (shown (opening a out).session ≡ (Failed e, (no_address, (0, 0)))) × ((opening a out).sent ≡ 0) × ((opening a out).output ≡ out)
  refused_is e q = (same_shown (t.fails e q), t.unsent e q, t.unwritten e q)

  -- one that meets no condition waits, and then refuses a delivery that lends less than it was lent itself must be
  pub opened_1 : None (conditions a (length out)) → (piece less : List ℕ) → length less < room_for (length (openings a)) → answer_number (deliver (opening a out).session piece less).answer ≡ 1
  unfolding after
  opened_1 n piece less h =
      let q = number_accepted (opening a out).answer (t.number.accepts.1 n) in
      short_1 (room_for (length (openings a))) _ (t.asks q []) (t.waits q).outcomes piece less h

  pub opened_only : length (opening a out).output ≡ length out
  opened_only = t.behind.size

-- ---- a route of one proxy

-- call by call, from the opening to an end behind every delivery, what is told of it is told of that proxy's session
module _ (a : routing.Route) (b : Asked) (out : List ℕ) (ds : List Delivery) (k : AsOne a b out ds) where
  abbrev r : Route
  r = (opening a out).session

  pub as_session : routed.told outcome (opening a out) ∷ (told_by outcome (receiver 1024) r ds ++ (routed.told outcome (end (after (receiver 1024) r ds)) ∷ []))
      ≡ (let c = in_two (prepared_for b) out in
      routed.told session.outcome c ∷ (told_by session.outcome (session_receiver 1024) c.session ds ++ (routed.told session.outcome (session-calls.end (after (session_receiver 1024) c.session ds)) ∷ [])))
  as_session = λ i. k.first i ∷ (k.deliveries i ++ (k.ending i ∷ []))

-- ---- how many bytes may be read

module _ (os : List Opening) (r : Route) (came : List ℕ) (t : Reads os r came) where
  waits_still : (machines os came).outcome ≡ Waiting → SettlesInTurn os came [] → ⊥
  waits_still e f = f (ap (λ (l : List ℕ). (machines os l).outcome) (append-nil came) ∙ e)

  -- once it is settled, none; a reader that never asks for more leaves nothing behind an open route
  pub settled_reads_none : ((machines os came).outcome ≡ Waiting → ⊥) → wants r ≡ 0
  settled_reads_none f = t.wanted.settled (λ q. f (ap (λ (l : List ℕ). (machines os l).outcome) (sym (append-nil came)) ∙ q))

  pub nothing_left : (piece out : List ℕ) → Bytes piece → length piece ≤ wants r → outcome (deliver r piece out).session ≡ Open → drop (deliver r piece out).used piece ≡ []
  nothing_left piece out y l q = rw (t.never_past piece out y l q) (drop-length piece)

  -- so many bytes, at least one, complete it to the grammars in their order, and no fewer; so many settle one that nothing opens, and no fewer
  pub opens_by : outcome r ≡ Waiting → (machines os came).outcome ≡ Waiting → (bs : List ℕ) → Bytes bs → CompletesInTurn os came bs
      → (1 ≤ wants r) × (wants r ≤ length bs) × ((p : List ℕ) × Bytes p × CompletesInTurn os came p × (length p ≡ wants r))
  opens_by w q bs y c = let l = t.wanted.opens (waits_still q) (bs, y, c) in (t.some w, l.none_shorter bs y c, (l.stream, l.bytes, l.is, l.long))

  pub settles_by : (machines os came).outcome ≡ Waiting → (Some (CompletesInTurn os came) → ⊥) → (bs : List ℕ) → Bytes bs → SettlesInTurn os came bs
      → (wants r ≤ length bs) × ((p : List ℕ) × ((machines os (came ++ p)).outcome ≡ Waiting → ⊥) × (length p ≡ wants r))
  settles_by q n bs y c = let l = t.wanted.fails (waits_still q) n in (l.none_shorter bs y c, (l.stream, l.is, l.long))

-- an accepted route of two proxies begins with the sum of both, and goes on so behind every list of deliveries
pub two_begin : (a : routing.Route) (out : List ℕ) → Read a out → (o p : Opening) → openings a ≡ o ∷ p ∷ [] → wants (opening a out).session ≡ shortest_of o + (shortest_of p + 0)
unfolding shortest_row
two_begin a out t o p e = t.begins ∙ ap shortest_row e

pub some_behind : (a : routing.Route) (out : List ℕ) → Read a out → (ds : List Delivery) → BytePieces ds
    → (let r = (tunnel_of (openings a) (opening a out).session [] ds).session in outcome r ≡ Waiting → 0 < wants r)
some_behind a out t ds y q = (t.reads ds y).some q

-- of any route value
pub wants_by : (r : Route) → AnyWants r → (outcome r ≡ Open → wants r ≡ 0) × (outcome r ≡ Waiting → 0 < wants r)
wants_by r t = (λ q. t.settled (λ w. let z : ◌≡◌ {A = ℕ} 0 1 = cc in absurd (omega arith)), t.some)
