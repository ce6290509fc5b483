-- F-5: a route of one proxy answers, uses, sends and stands as that proxy's own session.
use Prim.Native.Nat.{ℕ, ◌≤◌}
use native.Mathlib.Omega.{arith}
use mathlib.Core.Path.{◌≡◌, refl, ap, sym, subst, ◌∙◌}
use mathlib.Core.Bool.{Bool, true, false, cond, not}
use mathlib.Core.List.Memᴰ
use mathlib.Core.List.{List, [], ◌∷◌, ◌++◌}
use lib.ListN.{length, take, drop, replicate, length-replicate}
use lib.Seq.{take-append_seam}
use lib.Dec.{leb}
use borrow.Author.Tests.{le-leb, le-ltb}
use Rattle.protocol.specs.Answers as code
use Rattle.protocol.specs.declared.SocksError.{SocksError}
use Rattle.protocol.specs.declared.SocksError.TheVariants.{ShortOutput, UnexpectedEof, Settled, OutOfOrder}
use Rattle.protocol.specs.declared.Bound.{Bound}
use Rattle.protocol.specs.Opening.{Opening, v5, v4, no_auth, user_pass, first_reply, Limits}
use Rattle.protocol.specs.Bound.{unbound, bound_of}
use Rattle.protocol.specs.Client.{first_room, outcome_of}
use Rattle.client_stages.specs.declared.due.Stage.{Stage}
use Rattle.client_stages.specs.declared.due.Stage.TheVariants.{Awaiting, Failed}
use Rattle.client_stages.specs.due.Parts.{first_of}
use Rattle.client_stages.specs.due.Stages.{view_at}
use Rattle.client_session.specs.declared.Session.{Session}
use Rattle.client_session.specs.Session as session
use Rattle.client_session.specs.Session.{view, room_at}
use Rattle.client_session.specs.Calls as session-calls
use Rattle.client_session.specs.Calls.{Call, kept_by, prepared_by, prepare5, prepare4, starts, start, takes}
use Rattle.socks.specs.InTwo.{in_two}
use Rattle.route_delivery.specs.Relay.{no_hop, requests_at, handed, alone, relayed}
use Rattle.route_session.specs.plan.Plan.{prepared_for, hops_for, bytes_for}
use Rattle.route_spec.specs.Route as routing
use Rattle.route_spec.specs.Route.{Proxy, Asked, over5, over4, asked_by, asked_of, opening_for, check_for, unless_refused, check_in_turn, check}
use Rattle.route_spec.proofs.Rooms.{each_limits}
use Rattle.route_session.specs.declared.calls.Route.{Route}
use Rattle.route_session.specs.calls.Calls as route
use Rattle.route_session.specs.calls.Calls.{behind_in, room_in, session_in, with_session, outcome, is_over, started_for, open_by, opening, deliver, end}
use Rattle.route.specs.Routed.{receiver, session_receiver, Told, told, told_by, Lent, AsOne, Single}
use Rattle.route.proofs.Relays.{room_small}
use Rattle.route_session.proofs.opening.Kept.{requests_at_lem}
use Rattle.talk.specs.Talk as talk
use Rattle.talk.specs.Tunnel.{Delivery, answer_to, after}

same_told : (a b : Told) → a.answer ≡ b.answer → a.used ≡ b.used → a.sent ≡ b.sent → a.outcome ≡ b.outcome → a ≡ b
same_told a b p q r s = λ i. record { answer = p i; used = q i; sent = r i; outcome = s i }

-- ---- a proxy's session, lent 1,024 bytes or more: the output's other bytes make no difference

module _ (s : Session) (piece : List ℕ) where
  roomy : (out : List ℕ) → s.started ≡ true → 1024 ≤ length out
      → session-calls.deliver s piece out ≡ cond (talk.is_over (view s)) (session-calls.refusal Settled s out) (takes s piece out)
  unfolding session-calls.deliver
  roomy out g h = go (talk.is_over (view s)) s.started (leb (room_at s.stage) (length out)) g (le-leb (room_at s.stage) (length out) (omega (arith, room_small s.stage)))
    where
      go : (a b v : Bool) → b ≡ true → v ≡ true
          → cond a (session-calls.refusal Settled s out) (cond (not b) (session-calls.refusal OutOfOrder s out) (cond v (takes s piece out) (session-calls.refusal ShortOutput s out)))
          ≡ cond a (session-calls.refusal Settled s out) (takes s piece out)
      go a b v p q = rw (p, q)

record Went (a b : Call) (s : Session) : Type 0 where
  session : a.session ≡ b.session
  used : a.used ≡ b.used
  sent : take a.sent a.output ≡ take b.sent b.output
  accepted : b.answer ≡ code.Accepted
  going : a.session.started ≡ s.started
  kept : a.session.requests ≡ s.requests

takes_same : (s : Session) (piece out out' : List ℕ) → Went (takes s piece out) (takes s piece out') s
takes_same s [] out out' = record { session = refl; used = refl; sent = refl; accepted = refl; going = refl; kept = refl }
takes_same s (b ∷ bs) out out' =
    record { session = refl; used = refl; sent = seams (talk.onward (session.side_of s) (view s) (b ∷ bs)).sent; accepted = refl; going = refl; kept = refl }
  where
    seams : (q : List ℕ) → take (length q) (q ++ drop (length q) out) ≡ take (length q) (q ++ drop (length q) out')
    seams q = take-append_seam q (drop (length q) out) ∙ sym (take-append_seam q (drop (length q) out'))

-- ---- a route of one proxy, and that proxy's session

record One (r : Route) (s : Session) : Type 0 where
  count : r.count ≡ 1
  is : session_in r ≡ s

-- two calls that come to the same, and leave such
abbrev Same : (Route → Session → Type 0) → route.Call → Call → Type 0
Same R c d = (told outcome c ≡ told session.outcome d) × R c.session d.session

abbrev Step : (Route → Session → Type 0) → Type 0
Step R = (r : Route) (s : Session) → R r s → (d : Delivery) → 1024 ≤ length d.output → Same R (answer_to (receiver 1024) r d) (answer_to (session_receiver 1024) s d)

module _ (r : Route) (one : r.count ≡ 1) where
  none_behind : behind_in r ≡ 0
  none_behind = omega (arith, one)

  relays : (piece : List ℕ) → relayed r.hops r.bytes (behind_in r) (session_in r) piece ≡ alone 0 (handed (session_in r) piece)
  unfolding relayed
  relays piece = ap (λ (n : ℕ). relayed r.hops r.bytes n (session_in r) piece) none_behind

  delivers : (piece out : List ℕ) → 1024 ≤ length out
      → deliver r piece out ≡ cond (is_over r) (route.refusal Settled r out) (route.moves r (alone 0 (handed (session_in r) piece)) out)
  unfolding deliver
  delivers piece out h = rw (le-leb (room_in r) (length out) (omega (arith, one)), relays piece)

  -- the session that a call left is that of the route that it left
  left : (t : Session) → t.started ≡ true → t.requests ≡ requests_at r.hops r.bytes (behind_in r) → One (with_session r 0 t) t
  left t g k = record { count = one; is = λ i. record { stage = t.stage; started = sym g i; held = t.held; hold = t.hold; bound = t.bound; attempts = t.attempts; requests = requests i } }
    where
      requests : requests_at r.hops r.bytes (behind_in (with_session r 0 t)) ≡ t.requests
      requests = ap (λ (n : ℕ). requests_at r.hops r.bytes n) (omega (arith, none_behind)) ∙ sym k

  moved : (piece out zs : List ℕ) → Same One (route.moves r (alone 0 (takes (session_in r) piece zs)) out) (takes (session_in r) piece out)
  moved piece out zs =
      let w = takes_same (session_in r) piece zs out in (
        same_told _ _ (sym w.accepted) w.used (take-append_seam _ _ ∙ w.sent) (ap session.outcome w.session),
        subst (λ (t : Session). One (with_session r 0 (takes (session_in r) piece zs).session) t) w.session (left (takes (session_in r) piece zs).session w.going w.kept),
      )

  step_in : (d : Delivery) → 1024 ≤ length d.output → Same One (answer_to (receiver 1024) r d) (answer_to (session_receiver 1024) (session_in r) d)
  step_in d h =
      let s = session_in r in
      let zs : List ℕ = replicate 1024 0 in
      let long : 1024 ≤ length zs = omega (arith, length-replicate {A = ℕ} 1024 0) in
      rw (delivers d.piece d.output h, roomy s d.piece d.output refl h, roomy s d.piece zs refl long) (go (is_over r))
    where
      go : (b : Bool)
          → let s = session_in r in
          let zs : List ℕ = replicate 1024 0 in
          Same One (cond b (route.refusal Settled r d.output) (route.moves r (alone 0 (cond b (session-calls.refusal Settled s zs) (takes s d.piece zs))) d.output))
          (cond b (session-calls.refusal Settled s d.output) (takes s d.piece d.output))
      go true = (refl, record { count = one; is = refl })
      go false = moved d.piece d.output (replicate 1024 0)

step_one : Step One
step_one r s w d h = subst (λ (t : Session). Same One (answer_to (receiver 1024) r d) (answer_to (session_receiver 1024) t d)) w.is (step_in r w.count d h)

ends_in : (r : Route) → told outcome (end r) ≡ told session.outcome (session-calls.end (session_in r))
unfolding end session-calls.end
ends_in r = go (is_over r)
  where
    go : (b : Bool)
        → let s = session_in r in
        let c : Call = cond b (session-calls.refusal Settled s []) (record { answer = code.Accepted; session = session.packed s (talk.ended (talk.failed UnexpectedEof)); used = 0; sent = 0; output = [] }) in
        ◌≡◌ {A = Told} (record { answer = c.answer; used = 0; sent = []; outcome = session.outcome c.session }) (told session.outcome c)
    go true = refl
    go false = refl

ends_one : (r : Route) (s : Session) → One r s → told outcome (end r) ≡ told session.outcome (session-calls.end s)
ends_one r s w = ends_in r ∙ ap (λ (t : Session). told session.outcome (session-calls.end t)) w.is

-- ---- after a refused opening both have failed with one error

module _ (e : SocksError) where
  abbrev BothFailed : Route → Session → Type 0
  BothFailed r s = (r.stage ≡ Failed e) × (s.stage ≡ Failed e)

  failed_is : (x : Stage) (b : Bound) (h : List ℕ) → x ≡ Failed e → view_at x b h ≡ talk.ended (talk.failed e)
  failed_is x b h q = rw q

  both_over : (r : Route) (s : Session) → BothFailed r s → (is_over r ≡ true) × (talk.is_over (view s) ≡ true) × (outcome r ≡ session.outcome s)
  both_over r s w =
      let p = failed_is r.stage r.bound (take r.held r.hold) w.0 in
      let q = failed_is s.stage s.bound (take s.held s.hold) w.1 in
      (ap talk.is_over p, ap talk.is_over q, ap outcome_of p ∙ sym (ap outcome_of q))

  step_failed : Step BothFailed
  unfolding deliver session-calls.deliver
  step_failed r s w d h = let v = both_over r s w in rw (v.0, v.1) (same_told _ _ refl refl refl v.2, w)

  ends_failed : (r : Route) (s : Session) → BothFailed r s → told outcome (end r) ≡ told session.outcome (session-calls.end s)
  unfolding end session-calls.end
  ends_failed r s w = let v = both_over r s w in rw (v.0, v.1) (same_told _ _ refl refl refl v.2)

-- ---- every delivery and an end

module _ (R : Route → Session → Type 0) (step : Step R) where
  all_same : (ds : List Delivery) → Lent ds → (r : Route) (s : Session) → R r s
      → (told_by outcome (receiver 1024) r ds ≡ told_by session.outcome (session_receiver 1024) s ds) × R (after (receiver 1024) r ds) (after (session_receiver 1024) s ds)
  unfolding told_by after
  all_same [] l r s w = (refl, w)
  all_same (d ∷ ds) l r s w =
      let v = step r s w d (l d (Memᴰ.head refl)) in
      let u = all_same ds (λ b m. l b (Memᴰ.tail m)) _ _ v.1 in
      (λ i. v.0 i ∷ u.0 i, u.1)

  module _ (ends : (r : Route) (s : Session) → R r s → told outcome (end r) ≡ told session.outcome (session-calls.end s)) (a : routing.Route) (b : Asked) (out : List ℕ)
      (first : Same R (opening a out) (in_two (prepared_for b) out)) where
    as_one : (ds : List Delivery) → Lent ds → AsOne a b out ds
    as_one ds l =
        let u = all_same ds l _ _ first.1 in
        record { first = first.0; deliveries = u.0; ending = ends _ _ u.1 }

-- ---- the opening

module _ (o : Opening) (out : List ℕ) where
  started_one : Limits o → One (started_for o []) (starts (session-calls.prepared_for o) (first_of (first_reply o) (kept_by o)) out).session
  unfolding hops_for bytes_for
  started_one l =
      let k = requests_at_lem o [] (l, tt) (drop 1 (replicate 8 no_hop)) (drop 1024 (replicate 8192 0)) in
      record {
        count = refl;
        is = λ i. record { stage = Awaiting (first_reply o); started = true; held = 0; hold = replicate 261 0; bound = bound_of unbound; attempts = 0; requests = k i };
      }

  start_roomy : 1024 ≤ length out → start (session-calls.prepared_for o) out ≡ starts (session-calls.prepared_for o) (first_of (first_reply o) (kept_by o)) out
  unfolding start
  start_roomy h = rw (le-leb (first_room (first_reply o)) (length out) (go o))
    where
      go : (o : Opening) → first_room (first_reply o) ≤ length out
      go (v5 no_auth d port b) = omega arith
      go (v5 (user_pass u p) d port b) = omega arith
      go (v4 d port) = omega arith

  opened_one : 1024 ≤ length out → Limits o → Same One (open_by code.Accepted (o ∷ []) out) (in_two (prepared_by code.Accepted o) out)
  opened_one h l = rw (start_roomy h) (refl, started_one l)

  opened_failed : (e : SocksError) → Same (BothFailed e) (open_by (code.Refused e) (o ∷ []) out) (in_two (prepared_by (code.Refused e) o) out)
  opened_failed e = (refl, (refl, refl))

prepared_as : (b : Asked) → prepared_for b ≡ prepared_by (check_for b) (opening_for b)
unfolding prepare5 prepare4
prepared_as (over5 a) = refl
prepared_as (over4 a) = refl

unless_none : (x : code.Answer) → unless_refused x code.Accepted ≡ x
unless_none code.Accepted = refl
unless_none (code.Refused e) = refl

module _ (p : Proxy) (host : List ℕ) (port : code.Port) where
  abbrev a : routing.Route
  a = record { proxies = p ∷ []; host = host; port = port }

  abbrev b : Asked
  b = asked_by p.version p host port

  limits_one : check_for b ≡ code.Accepted → Limits (opening_for b)
  unfolding asked_of
  limits_one q = (each_limits (p ∷ []) host port (q, tt)).0

  opening_one : (out : List ℕ) → 1024 ≤ length out → opening a out ≡ open_by (check_for b) (opening_for b ∷ []) out
  unfolding opening check check_in_turn asked_of
  opening_one out h = rw (le-ltb (length out) 1024 h, unless_none (check_for b))

  as_single : Single p host port
  as_single out h ds l = go (check_for b) refl
    where
      go : (x : code.Answer) → check_for b ≡ x → AsOne a b out ds
      go code.Accepted q =
          as_one One step_one ends_one a b out (rw (opening_one out h, prepared_as b, q) (opened_one (opening_for b) out h (limits_one q))) ds l
      go (code.Refused e) q =
          as_one (BothFailed e) (step_failed e) (ends_failed e) a b out (rw (opening_one out h, prepared_as b, q) (opened_failed (opening_for b) out e)) ds l

pub single : (p : Proxy) (host : List ℕ) (port : code.Port) → Single p host port
single = as_single
