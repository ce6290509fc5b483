-- F-5's promise over routes in lent bytes: that over the routes that they mean.
use Prim.Native.Nat.{ℕ, ◌≤◌, ◌<◌, ◌%◌, ◌^◌}
use native.Mathlib.Omega.{arith}
use mathlib.Core.Path.{◌≡◌, refl, ap, sym, subst, ◌∙◌}
use mathlib.Core.Bool.{Bool, true, false}
use mathlib.Core.List.Memᴰ
use mathlib.Core.List.{List, [], ◌∷◌, map}
use lib.ListN.{length, take, drop}
use lib.Dec.{leb, ltb}
use borrow.Author.Tests.{le-leb, ltb-false, le-ltb, ne_eqb}
use Rattle.protocol.specs.Answers.{Port, Missing, Answer, Accepted, Refused}
use Rattle.protocol.specs.declared.SocksError.TheVariants.{RouteLength}
use Rattle.protocol.specs.declared.Version.TheVariants as Version
use Rattle.protocol.specs.Bytes.{Bytes, BytePieces}
use Rattle.protocol.specs.Numbers.{answer_number}
use Rattle.protocol.specs.Opening.{Opening, refuse}
use Rattle.protocol.proofs.Openings.{clash}
use Rattle.protocol.proofs.Limits.{number_accepted}
use Rattle.client_stages.specs.declared.due.Stage.{Stage}
use Rattle.client_stages.specs.declared.due.Stage.TheVariants.{Awaiting, Open, Failed}
use Rattle.client_session.specs.declared.Session.{Session}
use Rattle.lent_numbers.specs.declared.told.RawOutcome.{RawOutcome}
use Rattle.lent_numbers.specs.told.Told.{outcome_of}
use Rattle.raw_numbers.specs.Numbers as raw
use Rattle.lent_session.specs.Calls.{address_of, bound_at}
use Rattle.route_spec.specs.Route as routing
use Rattle.route_spec.specs.Route.{Proxy, host_of, port_of, Asked, asked_by, asked_of, asked, openings, room_for, unless_refused, check_in_turn, RepliedInTurn}
use Rattle.route_spec.proofs.Asked.{asked_each}
use Rattle.route_spec.proofs.Rooms.{EachLimits}
use Rattle.route_session.specs.declared.calls.Route.{Route}
use Rattle.route_session.specs.calls.Calls.{Call, outcome, bound, open_by, started_for, opening, deliver}
use Rattle.route.specs.Routed.{receiver_of, attempts_in_turn, lending, Routed}
use Rattle.route.proofs.Openings.{opened_as}
use Rattle.route.proofs.Attempts.{through}
use Rattle.lent_route.specs.State.{Phase, preparing, opened, over, phase_by, phase_at, count_at, route_at, state_of}
use Rattle.lent_route.specs.Together.{begun, all_hopped, all_told, open_told, open_leaves, verdict, reached, at_once, Together}
use Rattle.lent_route.proofs.Together.{together}
use Rattle.lent_tunnel.specs.Demand3.{outcome_at}
use Rattle.lent_tunnel.specs.Routed as lent
use Rattle.lent_tunnel.specs.Routed.{Hop, hop5, hop4, asked_for, returned, opens_in, lent_open, called_in, Lent, LentRouted, LentThrough, LentRoutes}
use Rattle.lent_tunnel.proofs.Carried.{Carried, carries}
use Rattle.lent_tunnel.proofs.Turns.{open_number}
use Rattle.lent_tunnel.proofs.Hopped.{all_prepare, begun_prepares}
use Rattle.lent_tunnel.proofs.RoutedTurns.{open_answers}
use Rattle.lent_tunnel.proofs.RoutesKept.{Written, is_written, session_is, means, deliver_written, start_written}
use Rattle.talk.specs.Tunnel as tunnels
use Rattle.talk.specs.Tunnel.{Delivery, answer_to, after}
use Rattle.talk.specs.Follow.{Alike}

-- ---- a delivery

not_preparing : (x : Stage) (s out : List ℕ) (c : Call) → called_in (phase_by x true) s out c ≡ returned s c
not_preparing (Awaiting e) s out c = refl
not_preparing Open s out c = refl
not_preparing (Failed e) s out c = refl

-- 8,192 bytes are enough for eight proxies
enough : (n : ℕ) → n ≤ 8 → (d : Delivery) → length d.output ≡ 8192 → (leb 8192 (length d.output) ≡ true) × (leb (room_for n) (length d.output) ≡ true)
enough n h d l = (le-leb 8192 (length d.output) (omega (arith, l)), le-leb (room_for n) (length d.output) (omega (arith, l, h)))

lending_all : (os : List Opening) → length os ≤ 8 → (ds : List Delivery) → Lent ds → lending os ds ≡ ds
unfolding lending
lending_all os h [] l = refl
lending_all os h (d ∷ ds) l = rw (enough (length os) h d (l d (Memᴰ.head refl))).1 (ap (λ (t : List Delivery). d ∷ t) (lending_all os h ds (λ e m. l e (Memᴰ.tail m))))

module _ (o : Opening) (os : List Opening) (w : EachLimits (o ∷ os)) (few : length os ≤ 7) where
  abbrev all : List Opening
  all = o ∷ os

  abbrev Stands : List ℕ → Route → Type 0
  Stands = Written o os w few

  step : (s : List ℕ) (r : Route) → Stands s r → (d : Delivery) → Bytes d.piece → Alike Stands (answer_to lent.receiver s d) (answer_to (receiver_of all) r d)
  step s r v d y =
      let q = session_is o os w few s r v in
      let p : phase_at s ≡ phase_by r.stage true = ap (λ (x : Session). phase_by x.stage x.started) q in
      let e : lent.lent_deliver s d.piece d.output ≡ returned s (deliver r d.piece d.output) =
      (λ i. called_in (p i) s d.output (deliver (means o os w few s r v i) d.piece d.output)) ∙ not_preparing r.stage s d.output (deliver r d.piece d.output) in
      subst (λ (a : tunnels.Answer (List ℕ) ℕ). Alike Stands a (answer_to (receiver_of all) r d)) (sym e) (record { session = deliver_written o os w few s r v d.piece d.output y; used = refl; sent = refl })

  module _ (s : List ℕ) (r : Route) (v : Stands s r) where
    module _ (ds : List Delivery) (y : BytePieces ds) (l : Lent ds) where
      carried : Carried Stands lent.receiver (receiver_of all) s r ds
      carried = carries Stands lent.receiver (receiver_of all) step ds y (λ d m. let k = enough (length all) (omega arith) d (l d m) in k.0 ∙ sym k.1) s r v

      same : route_at (after lent.receiver s ds) ≡ after (receiver_of all) r ds
      same = means o os w few _ _ carried.follows.session

      outcomes : outcome_at (after lent.receiver s ds) ≡ outcome_of (outcome (after (receiver_of all) r ds))
      outcomes = ap (λ (t : Route). outcome_of (outcome t)) same

      bounds : bound_at (after lent.receiver s ds) ≡ address_of (bound (after (receiver_of all) r ds))
      bounds = ap (λ (t : Route). address_of (bound t)) same

    lent_routed : (sent : List ℕ) (ds : List Delivery) → BytePieces ds → Lent ds → Routed all r sent ds → LentRouted all r s sent ds
    lent_routed sent ds b l h =
        let k = carried ds b l in
        let f = k.follows in
        let x = outcome (after (receiver_of all) r ds) in
        let e = ap (λ (x : RawOutcome). x.state) (outcomes ds b l) in
        record {
          opens_just = (λ q. rw k.joins (h.opens_just.0 ((open_number x).0 (sym e ∙ q))), λ q. e ∙ (open_number x).1 (h.opens_just.1 (subst (RepliedInTurn all) k.joins q)));
          just_one = λ q. rw (k.joins, f.count) (h.just_one ((open_number x).0 (sym e ∙ q)));
          sent_as = rw (k.joins, f.sent) h.sent_as;
          outcome_as = outcomes ds b l ∙ ap outcome_of h.outcome_as ∙ rw k.joins;
          count_as = rw (k.joins, f.count) h.count_as;
          bound_as = bounds ds b l ∙ ap address_of h.bound_as ∙ rw k.joins;
          rests_are = f.rest ∙ h.rests_are ∙ (λ i. drop (sym f.count i) (sym k.joins i));
          alike = λ ds' b' l' q.
              let k' = carried ds' b' l' in
              let f' = k'.follows in
              let a = h.alike ds' (sym k'.joins ∙ q ∙ k.joins) in
              record {
                outcomes = outcomes ds' b' l' ∙ ap outcome_of a.outcomes ∙ sym (outcomes ds b l);
                bounds = bounds ds' b' l' ∙ ap address_of a.bounds ∙ sym (bounds ds b l);
                sent = rw (f'.sent, f.sent) a.sent;
                count = f'.count ∙ a.count ∙ sym f.count;
                rest = f'.rest ∙ a.rest ∙ sym f.rest;
              };
          attempts_are = ap (λ (t : Route). t.attempts) (same ds b l) ∙ h.attempts_are ∙ ap (λ (t : List Delivery). attempts_in_turn all t % 2 ^ 64) (lending_all all (omega arith) ds l);
          means = same ds b l;
          written = is_written o os w few _ _ f.session ∙ ap state_of (sym (same ds b l));
        }

-- ---- the calls together: where it starts

open_told_lem : (p : Phase) (s out : List ℕ) → (opens_in p s out).answer ≡ answer_number (open_told p s out)
open_told_lem preparing s out = refl
open_told_lem opened s out = refl
open_told_lem over s out = refl

open_left : (p : Phase) (s out : List ℕ) → (opens_in p s out).session ≡ open_leaves p s out
open_left preparing s out = refl
open_left opened s out = refl
open_left over s out = refl

by_verdict : (x : Answer) (os : List Opening) (out : List ℕ) → (open_by x os out).answer ≡ Accepted → x ≡ Accepted
by_verdict Accepted os out q = refl
by_verdict (Refused e) os out q = absurd (clash (sym q))

eight : (b : Bool) (x : Answer) → unless_refused x (refuse b RouteLength Accepted) ≡ Accepted → b ≡ false
eight b (Refused e) q = absurd (clash (sym q))
eight true Accepted q = absurd (clash (sym q))
eight false Accepted q = refl

few_asked : (asks : List Asked) → verdict asks ≡ Accepted → length asks ≤ 8
few_asked [] q = absurd (clash (sym q))
few_asked (a ∷ later) q = ltb-false 8 (length (a ∷ later)) (eight (ltb 8 (length (a ∷ later))) (check_in_turn (take 8 (a ∷ later))) q)

module _ (a : routing.Route) (told : answer_number (all_told (asked a) begun) ≡ 0) (out : List ℕ) (l : length out ≡ 8192) (opens : (lent_open (reached a) out).answer ≡ 0) where
  abbrev t : Together a out
  t = together a out

  abbrev s : List ℕ
  s = reached a

  at_once_lem : (at_once a out).answer ≡ Accepted
  at_once_lem =
      let h = number_accepted (all_told (asked a) begun) told in
      let k = number_accepted (open_told (phase_at s) s out) (sym (open_told_lem (phase_at s) s out) ∙ opens) in
      sym t.answer ∙ (λ i. unless_refused (h i) (k i))

  verdict_is : verdict (asked a) ≡ Accepted
  verdict_is = by_verdict (verdict (asked a)) (openings a) out at_once_lem

  one : at_once a out ≡ opening a out
  one = t.one (omega (arith, few_asked (asked a) verdict_is, asked_each a.proxies a.host a.port)) l

  accepted : (opening a out).answer ≡ Accepted
  accepted = ap (λ (c : Call). c.answer) (sym one) ∙ at_once_lem

  -- what the calls left is the writing of the route that one opening returns, and what they sent is what that sends
  left : (lent_open s out).session ≡ state_of (opening a out).session
  left = open_left (phase_at s) s out ∙ t.left ∙ ap (λ (c : Call). state_of c.session) one

  sent : take (lent_open s out).sent (lent_open s out).output ≡ take (opening a out).sent (opening a out).output
  sent =
      let (p, e) = t.opens verdict_is in
      ap (λ (x : Phase). take (opens_in x s out).sent (opens_in x s out).output) p ∙ ap (λ (c : Call). take c.sent c.output) (e ∙ one)

  routed_so : (ds : List Delivery) → BytePieces ds → Lent ds
      → LentRouted (openings a) (opening a out).session (lent_open s out).session (take (lent_open s out).sent (lent_open s out).output) ds
  routed_so ds y m =
      let w = opened_as a out accepted in
      let r = started_for w.first w.later in
      let bytes = take (opening a out).sent (opening a out).output in
      let v = start_written w.first w.later w.limits w.few in
      let begun : (opening a out).session ≡ r = ap (λ (c : Call). c.session) w.is in
      rw (left, sent)
      (subst (λ (os : List Opening). Routed os (opening a out).session bytes ds → LentRouted os (opening a out).session (state_of (opening a out).session) bytes ds) (sym w.are)
      (subst (λ (x : Route). Routed (w.first ∷ w.later) x bytes ds → LentRouted (w.first ∷ w.later) x (state_of x) bytes ds) (sym begun)
      (lent_routed w.first w.later w.limits w.few (state_of r) r v bytes ds y m))
      (through a out accepted ds y))

-- one to eight proxies were prepared, and can be opened
opens_0 : (asks : List Asked) → answer_number (all_told asks begun) ≡ 0 → 0 < length asks → (out : List ℕ) → (lent_open (all_hopped asks begun) out).answer ≡ 0
opens_0 asks told some out =
    let s = all_hopped asks begun in
    let (few, w) = all_prepare asks begun 0 (omega arith) begun_prepares (number_accepted (all_told asks begun) told) in
    ap (λ (p : Phase). (opens_in p s out).answer) w.phase ∙ ap answer_number (open_answers s out)
    ∙ rw (ne_eqb (count_at s) 0 (λ q. omega (arith, w.count, some, q)), le-ltb 8 (count_at s) (omega (arith, w.count, few)))

pub lent_through : (a : routing.Route) → LentThrough a
lent_through a told some out l =
    let opens = opens_0 (asked a) told (omega (arith, some, asked_each a.proxies a.host a.port)) out in
    (opens, λ ds y m. routed_so a told out l opens ds y m)

-- ---- any hops are those of a route: each proxy has the host and port that the one before was asked for

abbrev host_given : Hop → List ℕ
host_given (hop5 c host port user password) = host
host_given (hop4 host port) = host

abbrev port_given : Hop → Port
port_given (hop5 c host port user password) = raw.port_of port
port_given (hop4 host port) = raw.port_of port

abbrev proxy_at : List ℕ → Port → Hop → Proxy
proxy_at at p (hop5 c host port user password) =
    record { version = Version.V5; host = at; port = p; authenticates = raw.truth c.proxy_auth; optimistic = raw.truth c.optimistic; user = user; password = password }
proxy_at at p (hop4 host port) = record { version = Version.V4; host = at; port = p; authenticates = false; optimistic = false; user = []; password = [] }

unfoldable proxies_from : List ℕ → Port → List Hop → List Proxy
proxies_from at p [] = []
proxies_from at p (h ∷ hs) = proxy_at at p h ∷ proxies_from (host_given h) (port_given h) hs

unfoldable last_host : List ℕ → List Hop → List ℕ
last_host at [] = at
last_host at (h ∷ hs) = last_host (host_given h) hs

unfoldable last_port : Port → List Hop → Port
last_port p [] = p
last_port p (h ∷ hs) = last_port (port_given h) hs

next_is : (at : List ℕ) (p : Port) (hs : List Hop) → (host_of (proxies_from at p hs) (last_host at hs) ≡ at) × (port_of (proxies_from at p hs) (last_port p hs) ≡ p)
unfolding proxies_from last_host last_port
next_is at p [] = (refl, refl)
next_is at p (hop5 c host port user password ∷ hs) = (refl, refl)
next_is at p (hop4 host port ∷ hs) = (refl, refl)

asked_as : (at : List ℕ) (p : Port) (h : Hop) → asked_by (proxy_at at p h).version (proxy_at at p h) (host_given h) (port_given h) ≡ asked_for h
asked_as at p (hop5 c host port user password) = refl
asked_as at p (hop4 host port) = refl

asked_all : (at : List ℕ) (p : Port) (hs : List Hop) → asked_of (proxies_from at p hs) (last_host at hs) (last_port p hs) ≡ map asked_for hs
unfolding asked_of proxies_from last_host last_port
asked_all at p [] = refl
asked_all at p (h ∷ hs) =
    let (x, y) = next_is (host_given h) (port_given h) hs in
    λ i. ((λ j. asked_by (proxy_at at p h).version (proxy_at at p h) (x j) (y j)) ∙ asked_as at p h) i ∷ asked_all (host_given h) (port_given h) hs i

pub lent_routes : LentRoutes
lent_routes hs =
    let a : routing.Route = record { proxies = proxies_from [] Missing hs; host = last_host [] hs; port = last_port Missing hs } in
    (a, asked_all [] Missing hs, lent_through a)
