-- The route that an opening returns stands for its openings' talks; and F-5's promise of it, as soon as its attempts are known.
use Prim.Native.Nat.{ℕ, suc, ◌+◌, ◌-◌, ◌%◌, ◌^◌, ◌≤◌, ◌<◌, min, zero-le}
use native.Mathlib.Omega.{arith}
use mathlib.Core.Path.{◌≡◌, refl, ap, sym, subst, ◌∙◌}
use mathlib.Core.Bool.{true, false}
use mathlib.Core.List.{List, [], ◌∷◌, ◌++◌, map, append_assoc}
use lib.ListN.{length, take}
use lib.Seq.{take-append_seam}
use Rattle.protocol.specs.declared.AuthMethod.TheVariants.{UserPass}
use Rattle.protocol.specs.Answers as code
use Rattle.protocol.specs.Requests.{negotiation_req, authentication_req, proxy_req}
use Rattle.protocol.specs.Bound.{unbound}
use Rattle.protocol.specs.Opening.{Opening, v5, v4, no_auth, user_pass, first_reply, at_opening, Limits}
use Rattle.protocol.specs.Machine.{sends}
use Rattle.protocol.specs.Client as client
use Rattle.client_stages.specs.due.Parts.{requests_of, first_of}
use Rattle.client_session.specs.Calls.{kept_by}
use Rattle.client_session.specs.Session.{view}
use Rattle.client_opening.proofs.common.KeptBy.{kept_parts, kept_by_lem}
use Rattle.protocol.specs.Bytes.{BytePieces}
use Rattle.protocol.proofs.Openings.{clash}
use Rattle.route_delivery.specs.declared.Hop as relaying
use Rattle.route_session.specs.plan.Plan.{hop_for, hops_for, bytes_for}
use Rattle.route_spec.specs.Route as routing
use Rattle.route_spec.specs.Route.{room_for, openings}
use Rattle.route_spec.specs.Hops.{hop_of, at, route_side, route_talk, RouteFed}
use Rattle.route_spec.proofs.Steps.{through_begins}
use Rattle.route_spec.proofs.Rooms.{EachLimits}
use Rattle.route_session.specs.declared.calls.Route.{Route}
use Rattle.route_session.specs.calls.Calls.{Call, behind_in, room_in, session_in, started_for, begins, open_by, opening}
use Rattle.route.specs.Routed.{tunnel_of, attempts_in_turn, lending, Routed, Through}
use Rattle.route.proofs.Refusals.{opened_some, opened_eight, opened_limits}
use Rattle.route.proofs.Relays.{waits_open, kept_at, hop_on, ahead_of, stands_at}
use Rattle.route.proofs.Tunnels.{Stands, Begun, routed_with}
use Rattle.route_session.proofs.opening.Kept.{hop_at_lem, requests_at_lem, hops_row, bytes_row}
use Rattle.talk.specs.Talk.{waiting, feed}
use Rattle.talk.specs.Tunnel.{Delivery}

-- ---- of what an opening keeps, what goes first is what goes at the opening

pub first_goes : (o : Opening) → Limits o → first_of (first_reply o) (kept_by o) ≡ sends (at_opening o) []
first_goes (v5 no_auth d port false) l = (kept_parts (v5 no_auth d port false) l).0
first_goes (v5 no_auth d port true) l = let k = kept_parts (v5 no_auth d port true) l in λ i. k.0 i ++ (k.1 i ++ k.2 i)
first_goes (v5 (user_pass u p) d port false) l = (kept_parts (v5 (user_pass u p) d port false) l).0
first_goes (v5 (user_pass u p) d port true) l =
    let k = kept_parts (v5 (user_pass u p) d port true) l in
    (λ i. k.0 i ++ (k.1 i ++ k.2 i)) ∙ sym (append_assoc (negotiation_req UserPass) (authentication_req u p) (proxy_req d port))
first_goes (v4 d port) l = kept_parts (v4 d port) l

-- ---- each of the proxies behind is its opening's, where all are kept one behind the other

hop_on_lem : (o : Opening) (os : List Opening) (w : EachLimits (o ∷ os)) (hops : List relaying.Hop) (bytes : List ℕ) → hop_on (hops_for os ++ (hop_for o ∷ hops)) (bytes_for os ++ ((kept_by o).bytes ++ bytes)) (length os) ≡ hop_of o
hop_on_lem o os w hops bytes =
    let h = hop_at_lem o os w hops bytes in
    let q = requests_at_lem o os w hops bytes in
    (λ i. record { goes = first_of (h i).first (q i); first = (h i).first; kept = requests_of (q i) })
    ∙ (λ i. record { goes = first_goes o w.0 i; first = first_reply o; kept = kept_by_lem o w.0 i })

pub ahead_of_lem : (os : List Opening) → EachLimits os → (hops : List relaying.Hop) (bytes : List ℕ) → ahead_of (hops_for os ++ hops) (bytes_for os ++ bytes) (length os) ≡ map hop_of os
unfolding ahead_of
ahead_of_lem [] w hops bytes = refl
ahead_of_lem (o ∷ os) w hops bytes =
    (λ i. ahead_of (hops_row o os w hops bytes i) (bytes_row o os w hops bytes i) (length (o ∷ os)))
    ∙ (λ i. hop_on_lem o os w hops bytes i ∷ ahead_of_lem os w.1 (hop_for o ∷ hops) ((kept_by o).bytes ++ bytes) i)

-- ---- the route that an accepted opening returns

module _ (o : Opening) (os : List Opening) (w : EachLimits (o ∷ os)) (hops : List relaying.Hop) (bytes : List ℕ) where
  -- what the first proxy keeps, and those behind it
  pub kept_first : kept_at (hops_for (o ∷ os) ++ hops) (bytes_for (o ∷ os) ++ bytes) (length os) ≡ client.kept o
  kept_first =
      (λ i. kept_at (hops_row o os w hops bytes i) (bytes_row o os w hops bytes i) (length os)) ∙ ap requests_of (requests_at_lem o os w hops bytes) ∙ kept_by_lem o w.0

  pub ahead_first : ahead_of (hops_for (o ∷ os) ++ hops) (bytes_for (o ∷ os) ++ bytes) (length os) ≡ map hop_of os
  ahead_first =
      (λ i. ahead_of (hops_row o os w hops bytes i) (bytes_row o os w hops bytes i) (length os)) ∙ ahead_of_lem os w.1 (hop_for o ∷ hops) ((kept_by o).bytes ++ bytes)

  stands_first : (r : Route) → r.hops ≡ hops_for (o ∷ os) ++ hops → r.bytes ≡ bytes_for (o ∷ os) ++ bytes → behind_in r ≡ length os → view (session_in r) ≡ waiting (first_reply o) []
      → room_in r ≡ room_for (length (o ∷ os)) → Stands (room_for (length (o ∷ os))) r (feed route_side (route_talk (map hop_of (o ∷ os))) []).session
  stands_first r h b n v a =
      record {
        asks = a;
        seen =
            (λ i. stands_at (h i) (b i) (n i) (v i)) ∙ (λ i. waiting (at (kept_first i) (ahead_first i) (first_reply o)) [])
            ∙ ap (λ (f : RouteFed). f.session) (sym (through_begins (hop_of o) (map hop_of os) unbound));
        ready = λ more. rw v zero-le;
        last = λ q. absurd (waits_open (sym (ap client.outcome_of v) ∙ q));
      }

all_behind : (n : ℕ) → n ≤ 7 → min n (min (suc n - 1) 7) ≡ n
all_behind n h = omega arith

all_asked : (n : ℕ) → n ≤ 7 → room_for (suc (min (suc n - 1) 7)) ≡ room_for (suc n)
all_asked n h = omega arith

pub started_begun : (o : Opening) (os : List Opening) → EachLimits (o ∷ os) → length os ≤ 7 → (out : List ℕ)
    → (let c = begins (started_for o os) (first_of (first_reply o) (kept_by o)) out in Begun (o ∷ os) c.session (take c.sent c.output))
started_begun o os w h out =
    record {
      stands = stands_first o os w _ _ (started_for o os) refl refl (all_behind (length os) h) refl (all_asked (length os) h);
      sends = take-append_seam _ _ ∙ first_goes o w.0 ∙ ap (λ (f : RouteFed). f.sent) (sym (through_begins (hop_of o) (map hop_of os) unbound));
    }

-- an opening is accepted: its openings, and the call
pub record OpenedAs (a : routing.Route) (out : List ℕ) : Type 0 where
  pub first : Opening
  pub later : List Opening
  pub are : openings a ≡ first ∷ later
  pub limits : EachLimits (first ∷ later)
  pub few : length later ≤ 7
  pub is : opening a out ≡ begins (started_for first later) (first_of (first_reply first) (kept_by first)) out

accepted_by : (x : code.Answer) (os : List Opening) (out : List ℕ) → (open_by x os out).answer ≡ code.Accepted
    → (x ≡ code.Accepted) × ((o : Opening) × (rest : List Opening) × (os ≡ o ∷ rest) × (open_by x os out ≡ begins (started_for o rest) (first_of (first_reply o) (kept_by o)) out))
accepted_by code.Accepted [] out q = absurd (clash (sym q))
accepted_by code.Accepted (o ∷ os) out q = (refl, (o, os, refl, refl))
accepted_by (code.Refused e) os out q = absurd (clash (sym q))

module _ (a : routing.Route) (out : List ℕ) (q : (opening a out).answer ≡ code.Accepted) where
  pub opened_as : OpenedAs a out
  unfolding opening
  opened_as =
      let (o, os, e, c) = (accepted_by (routing.check a (length out)) (openings a) out q).1 in
      record { first = o; later = os; are = e; limits = subst EachLimits e (opened_limits a out q); few = omega (arith, opened_eight a out q, ap length e); is = c }

  -- the route stands for the openings' talks, and what was sent is what these send ahead of any byte
  pub opened_begun : Begun (openings a) (opening a out).session (take (opening a out).sent (opening a out).output)
  opened_begun =
      let w = opened_as in
      subst (λ (os : List Opening). Begun os (opening a out).session (take (opening a out).sent (opening a out).output)) (sym w.are)
      (subst (λ (c : Call). Begun (w.first ∷ w.later) c.session (take c.sent c.output)) (sym w.is) (started_begun w.first w.later w.limits w.few out))

-- ---- the promise

-- its last sentence, on a route's attempts
abbrev pub Attempted : routing.Route → Type 0
Attempted a =
    (out : List ℕ) → (opening a out).answer ≡ code.Accepted → (ds : List Delivery) → BytePieces ds
    → (tunnel_of (openings a) (opening a out).session (take (opening a out).sent (opening a out).output) ds).session.attempts
    ≡ attempts_in_turn (openings a) (lending (openings a) ds) % 2 ^ 64

routed_some : (os : List Opening) → 0 < length os → (r : Route) (sent : List ℕ) → Begun os r sent → (ds : List Delivery) → BytePieces ds
    → (tunnel_of os r sent ds).session.attempts ≡ attempts_in_turn os (lending os ds) % 2 ^ 64 → Routed os r sent ds
routed_some [] h = absurd (omega arith)
routed_some (o ∷ os) h = routed_with o os

pub through_with : (a : routing.Route) → Attempted a → Through a
through_with a attempts out q ds y = routed_some (openings a) (opened_some a out q) _ _ (opened_begun a out q) ds y (attempts out q ds y)
