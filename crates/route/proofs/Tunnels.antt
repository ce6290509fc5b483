-- Deliveries to a route are deliveries to the route's side; and F-5's promise of a route that stands for its openings' talks, but its attempts.
use Prim.Native.Nat.{ℕ, ◌%◌, ◌^◌, ◌≤◌, min}
use native.Mathlib.Omega.{arith}
use mathlib.Core.Path.{◌≡◌, refl, ap, sym, subst, ◌∙◌}
use mathlib.Core.Bool.{Bool, true, false, cond}
use mathlib.Core.List.{List, [], ◌∷◌, map}
use lib.ListN.{length, drop}
use lib.Seq.{take-append_seam}
use lib.Dec.{leb}
use Rattle.protocol.specs.declared.SocksError.TheVariants.{ShortOutput, Settled}
use Rattle.protocol.specs.declared.Reply.{Reply}
use Rattle.protocol.specs.declared.Outcome.TheVariants as Out
use Rattle.protocol.specs.Bytes.{BytePieces}
use Rattle.protocol.specs.Bound.{address_of}
use Rattle.protocol.specs.Opening.{Opening}
use Rattle.protocol.specs.Machine.{Machine}
use Rattle.protocol.specs.Client as client
use Rattle.protocol.proofs.Bytes.{joined_bytes}
use Rattle.client_stages.specs.due.Stages.{SideSession}
use Rattle.client_session.specs.Session.{view}
use Rattle.route_delivery.specs.declared.Hop as relaying
use Rattle.route_delivery.specs.Relay.{Relay, relayed}
use Rattle.route_spec.specs.Route.{room_for, machines, used_in_turn}
use Rattle.route_spec.specs.Hops.{hop_of, route_side, route_talk, RouteSession, RouteFed, outcome_in, bound_in}
use Rattle.route_spec.proofs.Lawful.{route_lawful, through_shaped}
use Rattle.route_spec.proofs.Machines.{machines_feed, used_in_turn_lem}
use Rattle.route_spec.proofs.Sequences.{in_turn_just, in_turn_one}
use Rattle.route_session.specs.declared.calls.Route.{Route}
use Rattle.route_session.specs.calls.Calls.{behind_in, room_in, session_in, with_session, outcome, bound, refusal, takes, deliver}
use Rattle.route.specs.Routed.{receiver, tunnel_of, joined_of, Alike, attempts_in_turn, lending, Routed}
use Rattle.route.proofs.Relays.{kept_at, stands_at, Onward, relayed_onward}
use Rattle.talk.specs.Talk as talk
use Rattle.talk.specs.Talk.{done, failed, waiting, ended, feed, reached}
use Rattle.talk.specs.Tunnel as side
use Rattle.talk.specs.Tunnel.{Delivery, answer_to, after, given, refusing, accepting}
use Rattle.talk.specs.Follow as like
use Rattle.talk.proofs.Feed.{Ready}
use Rattle.talk.proofs.Pieces.{pieces}
use Rattle.talk.proofs.Follow as follow

-- ---- one delivery

-- a route stands for a session of the route's side, and its deliveries ask for so much output
pub record Stands (room : ℕ) (r : Route) (m : RouteSession) : Type 0 where
  pub asks : room_in r ≡ room
  pub seen : stands_at r.hops r.bytes (behind_in r) (view (session_in r)) ≡ m
  pub ready : Ready (client.client (kept_at r.hops r.bytes (behind_in r))) (view (session_in r))
  -- open only with no proxy behind
  pub last : outcome r ≡ Out.Open → behind_in r ≡ 0

fits : (n b l : ℕ) → n ≤ min b l → min n l ≡ n
fits n b l h = omega arith

module _ (r : Route) where
  abbrev seen_as : SideSession → RouteSession
  seen_as v = stands_at r.hops r.bytes (behind_in r) v

  moved : (q : Relay) (f : RouteFed) (before : ℕ) → Onward r.hops r.bytes (behind_in r) f before q → Stands (room_in r) (with_session r q.behind q.session) f.session
  moved q f before w =
      let n = fits q.behind r.behind _ w.within in
      record {
        asks = refl;
        seen = rw n w.session;
        ready = rw n w.ready;
        last = λ o. n ∙ w.last o;
      }

  takes_alike : (e : Reply) (h p out : List ℕ) → view (session_in r) ≡ waiting e h → Ready (client.client (kept_at r.hops r.bytes (behind_in r))) (waiting e h)
      → like.Alike (Stands (room_in r)) (takes r p out) (accepting route_side (seen_as (waiting e h)) (given route_side (seen_as (waiting e h)) p) out)
  takes_alike e h p out v y =
      let w = relayed_onward r.hops r.bytes (behind_in r) (session_in r) e h p refl refl v y in
      record {
        session = moved (relayed r.hops r.bytes (behind_in r) (session_in r) p) (given route_side (seen_as (waiting e h)) p) (length h) w;
        used = w.used;
        sent = take-append_seam _ _ ∙ w.sent ∙ sym (take-append_seam _ _);
      }

  module _ (w : Ready (client.client (kept_at r.hops r.bytes (behind_in r))) (view (session_in r))) (l : outcome r ≡ Out.Open → behind_in r ≡ 0) where
    itself : Stands (room_in r) r (seen_as (view (session_in r)))
    itself = record { asks = refl; seen = refl; ready = w; last = l }

    -- by what the proxy that is spoken to stands for, and whether enough is lent
    answers_alike : (v : SideSession) → view (session_in r) ≡ v → (b : Bool) (p out : List ℕ)
        → like.Alike (Stands (room_in r)) (cond (talk.is_over v) (refusal Settled r out) (cond b (takes r p out) (refusal ShortOutput r out)))
        (cond (talk.is_over (seen_as v)) (refusing Settled (seen_as v) out) (cond b (accepting route_side (seen_as v) (given route_side (seen_as v) p) out) (refusing ShortOutput (seen_as v) out)))
    answers_alike (waiting e h) q true p out = takes_alike e h p out q (subst (λ (v : SideSession). Ready (client.client (kept_at r.hops r.bytes (behind_in r))) v) q w)
    answers_alike (waiting e h) q false p out = record { session = subst (λ (v : SideSession). Stands (room_in r) r (seen_as v)) q itself; used = refl; sent = refl }
    answers_alike (ended (done x)) q b p out = record { session = subst (λ (v : SideSession). Stands (room_in r) r (seen_as v)) q itself; used = refl; sent = refl }
    answers_alike (ended (failed e)) q b p out = record { session = subst (λ (v : SideSession). Stands (room_in r) r (seen_as v)) q itself; used = refl; sent = refl }

    alike : (d : Delivery) → like.Alike (Stands (room_in r)) (answer_to (receiver (room_in r)) r d) (answer_to (side.receiver route_side (room_in r)) (seen_as (view (session_in r))) d)
    unfolding deliver side.deliver
    alike d = answers_alike (view (session_in r)) refl (leb (room_in r) (length d.output)) d.piece d.output

pub step : (room : ℕ) (r : Route) (m : RouteSession) → Stands room r m → (d : Delivery) → like.Alike (Stands room) (answer_to (receiver room) r d) (answer_to (side.receiver route_side room) m d)
step room r m t d =
    subst (λ (n : RouteSession). like.Alike (Stands room) (answer_to (receiver room) r d) (answer_to (side.receiver route_side room) n d)) t.seen
    (subst (λ (k : ℕ). like.Alike (Stands k) (answer_to (receiver k) r d) (answer_to (side.receiver route_side k) (seen_as r (view (session_in r))) d)) t.asks
    (alike r t.ready t.last d))

-- ---- a route that stands for its openings' talks

-- what an opening returned: it stands for the talks fed with no byte, and this was sent
pub record Begun (os : List Opening) (r : Route) (sent : List ℕ) : Type 0 where
  pub stands : Stands (room_for (length os)) r (feed route_side (route_talk (map hop_of os)) []).session
  pub sends : sent ≡ (feed route_side (route_talk (map hop_of os)) []).sent

-- after any deliveries it stands for the talks fed with the joined bytes
pub record Followed (os : List Opening) (r : Route) (sent : List ℕ) (ds : List Delivery) : Type 0 where
  pub stands : Stands (room_for (length os)) (tunnel_of os r sent ds).session (feed route_side (route_talk (map hop_of os)) (joined_of os ds)).session
  pub sends : (tunnel_of os r sent ds).sent ≡ (feed route_side (route_talk (map hop_of os)) (joined_of os ds)).sent
  pub count : (tunnel_of os r sent ds).count ≡ reached (feed route_side (route_talk (map hop_of os)) (joined_of os ds))
  pub rest : (tunnel_of os r sent ds).rest ≡ drop (tunnel_of os r sent ds).count (joined_of os ds)

pub followed : (os : List Opening) (r : Route) (sent : List ℕ) → Begun os r sent → (ds : List Delivery) → Followed os r sent ds
followed os r sent b ds =
    let room = room_for (length os) in
    let t = route_talk (map hop_of os) in
    let f = feed route_side t [] in
    let w = follow.follows (Stands room) (receiver room) (side.receiver route_side room) refl (step room) ds r f.session b.stands in
    let j = follow.joined_same (Stands room) (receiver room) (side.receiver route_side room) refl (step room) ds in
    let p = pieces route_side route_lawful room t (through_shaped (map hop_of os) _) ds in
    record {
      stands = subst (λ (m : RouteSession). Stands room (after (receiver room) r ds) m) (p.session ∙ rw j) w.session;
      sends = rw (b.sends, w.sent) (p.sent ∙ rw j);
      count = w.count ∙ p.count ∙ rw j;
      rest = w.rest ∙ p.rest ∙ rw (w.count, j);
    }

-- ---- the promise

module _ (hops : List relaying.Hop) (bytes : List ℕ) (n : ℕ) where
  same_outcome : (v : SideSession) → client.outcome_of v ≡ outcome_in (stands_at hops bytes n v)
  same_outcome (waiting e h) = refl
  same_outcome (ended (done x)) = refl
  same_outcome (ended (failed e)) = refl

  same_bound : (v : SideSession) → client.bound_in v ≡ bound_in (stands_at hops bytes n v)
  same_bound (waiting e h) = refl
  same_bound (ended (done x)) = refl
  same_bound (ended (failed e)) = refl

pub stands_outcome : {room : ℕ} {r : Route} {m : RouteSession} → Stands room r m → outcome r ≡ outcome_in m
stands_outcome {room} {r} t = same_outcome r.hops r.bytes (behind_in r) (view (session_in r)) ∙ ap outcome_in t.seen

pub stands_bound : {room : ℕ} {r : Route} {m : RouteSession} → Stands room r m → bound r ≡ address_of (bound_in m)
stands_bound {room} {r} t = ap address_of (same_bound r.hops r.bytes (behind_in r) (view (session_in r)) ∙ ap bound_in t.seen)

record Fed (os : List Opening) (r : Route) (sent : List ℕ) (ds : List Delivery) : Type 0 where
  outcomes : outcome (tunnel_of os r sent ds).session ≡ (machines os (joined_of os ds)).outcome
  bounds : bound (tunnel_of os r sent ds).session ≡ address_of (machines os (joined_of os ds)).bound
  sends : (tunnel_of os r sent ds).sent ≡ (machines os (joined_of os ds)).sent
  count : (tunnel_of os r sent ds).count ≡ used_in_turn os (joined_of os ds)
  rest : (tunnel_of os r sent ds).rest ≡ drop (used_in_turn os (joined_of os ds)) (joined_of os ds)

fed : (o : Opening) (os : List Opening) (r : Route) (sent : List ℕ) → Begun (o ∷ os) r sent → (ds : List Delivery) → Fed (o ∷ os) r sent ds
fed o os r sent b ds =
    let w = followed (o ∷ os) r sent b ds in
    let bs = joined_of (o ∷ os) ds in
    let m = sym (machines_feed o os bs) in
    let c = w.count ∙ sym (used_in_turn_lem o os bs) in
    record {
      outcomes = stands_outcome w.stands ∙ ap (λ (x : Machine). x.outcome) m;
      bounds = stands_bound w.stands ∙ ap (λ (x : Machine). address_of x.bound) m;
      sends = w.sends ∙ ap (λ (x : Machine). x.sent) m;
      count = c;
      rest = w.rest ∙ ap (λ (k : ℕ). drop k bs) c;
    }

-- of a route with an opening, as soon as its attempts are known
pub routed_with : (o : Opening) (os : List Opening) (r : Route) (sent : List ℕ) → Begun (o ∷ os) r sent → (ds : List Delivery) → BytePieces ds
    → (tunnel_of (o ∷ os) r sent ds).session.attempts ≡ attempts_in_turn (o ∷ os) (lending (o ∷ os) ds) % 2 ^ 64
    → Routed (o ∷ os) r sent ds
routed_with o os r sent b ds pieces_are attempts =
    let y = joined_bytes (receiver (room_for (length (o ∷ os)))) ds pieces_are in
    let f = fed o os r sent b ds in
    let bs = joined_of (o ∷ os) ds in
    record {
      opens_just = (λ q. (in_turn_just o os bs y).0 (sym f.outcomes ∙ q), λ z. f.outcomes ∙ (in_turn_just o os bs y).1 z);
      just_one = λ q. rw f.count (in_turn_one o os bs y (sym f.outcomes ∙ q));
      sent_as = f.sends;
      outcome_as = f.outcomes;
      count_as = f.count;
      bound_as = f.bounds;
      rests_are = rw f.count f.rest;
      alike = λ ds' e.
          let g = fed o os r sent b ds' in
          record {
            outcomes = g.outcomes ∙ ap (λ (l : List ℕ). (machines (o ∷ os) l).outcome) e ∙ sym f.outcomes;
            bounds = g.bounds ∙ ap (λ (l : List ℕ). address_of (machines (o ∷ os) l).bound) e ∙ sym f.bounds;
            sent = g.sends ∙ ap (λ (l : List ℕ). (machines (o ∷ os) l).sent) e ∙ sym f.sends;
            count = g.count ∙ ap (used_in_turn (o ∷ os)) e ∙ sym f.count;
            rest = g.rest ∙ ap (λ (l : List ℕ). drop (used_in_turn (o ∷ os) l) l) e ∙ sym f.rest;
          };
      attempts_are = attempts;
    }
