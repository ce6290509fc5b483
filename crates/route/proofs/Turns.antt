-- F-5's checks: which call of a route is in turn, what a refused one leaves, and what an accepted one does; and what opening one returns.
use Prim.Native.Nat.{ℕ, zero, suc, ◌+◌, ◌*◌, ◌≤◌, ◌<◌}
use native.Mathlib.Omega.{arith}
use mathlib.Core.Path.{◌≡◌, refl, ap, sym, subst, ◌∙◌}
use mathlib.Core.Logic.{◌↔◌}
use mathlib.Core.Bool.{Bool, true, false, cond, not, true≢false}
use mathlib.Core.List.{List, [], ◌∷◌, ◌++◌}
use lib.ListN.{length, take, drop, replicate, length-append, length-take}
use lib.Dec.{leb, lit<}
use borrow.Author.Tests.{leb-true}
use Rattle.protocol.specs.declared.SocksError.{SocksError}
use Rattle.protocol.specs.declared.SocksError.TheVariants.{ShortOutput, UnexpectedEof, Settled}
use Rattle.protocol.specs.Answers as code
use Rattle.protocol.specs.declared.Outcome.TheVariants as outcomes
use Rattle.protocol.specs.declared.Bound.{Bound}
use Rattle.protocol.specs.Numbers.{answer_number, outcome_number}
use Rattle.protocol.specs.Opening.{◌↣◌, Answers, refuse, Opening, first_reply}
use Rattle.protocol.proofs.Openings.{clash, same_error, not_long, all_passed, checked}
use Rattle.protocol.proofs.Judged.{judged, refuses, accepts, answered, stays}
use Rattle.protocol.proofs.Limits.{answer_not_11, outcome_not_11}
use Rattle.client_stages.specs.declared.due.Requests.{Requests}
use Rattle.client_stages.specs.declared.due.Stage.{Stage}
use Rattle.client_stages.specs.declared.due.Stage.TheVariants.{Awaiting, Open, Failed}
use Rattle.client_stages.specs.due.Parts.{first_of}
use Rattle.client_stages.specs.due.Stages.{view_at}
use Rattle.client_session.specs.declared.Session.{Session}
use Rattle.client_session.specs.Session as session
use Rattle.client_session.specs.Session.{packed, view}
use Rattle.client_session.specs.Calls as session-calls
use Rattle.client_session.specs.Calls.{kept_by}
use Rattle.socks.specs.Turns.{no_address}
use Rattle.socks.proofs.Turns.{over_just, sends_at, first_room_lem, deliver_sends}
use Rattle.route_delivery.specs.declared.Hop.{Hop}
use Rattle.route_delivery.specs.Relay.{hop_at, requests_at, goes_at, begun_at, Relay, handed, alone, handing_on, relayed}
use Rattle.route_spec.specs.Route as routing
use Rattle.route_spec.specs.Route.{openings, room_for, check}
use Rattle.route_spec.proofs.Checks.{check_just, accepted_has}
use Rattle.route_session.specs.declared.calls.Route.{Route}
use Rattle.route_session.specs.calls.Calls.{Call, refusal, last_in, behind_in, room_in, session_in, with_session, outcome, bound, is_over, open_by, opening, takes, deliver, end}
use Rattle.route.specs.Routed.{receiver}
use Rattle.route.specs.Turns.{Tells, Untouched, InTurn, AnyInTurn, OpensInTurn, Without, Never11}
use Rattle.route.proofs.Refusals.{opening_answers, opened_asks}
use Rattle.route.proofs.Relays.{handed_takes}
use Rattle.talk.specs.Talk as talk
use Rattle.talk.specs.Tunnel.{Delivery, Behind, after}
use Rattle.talk.proofs.Sends.{stand_at, none_sent}

-- ---- what a piece sends: to the proxy that is spoken to no more than may still be due, and 1,024 bytes to each behind it

module _ (hops : List Hop) (bytes : List ℕ) where
  -- what goes first to a proxy, and what it may then still be sent
  goes_few : (n : ℕ) → length (goes_at hops bytes n) + sends_at (Awaiting (hop_at hops n).first) (requests_at hops bytes n) ≤ 1024
  goes_few n = first_room_lem (hop_at hops n).first (requests_at hops bytes n)

  handed_few : (s : Session) (piece : List ℕ) → length (take (handed s piece).sent (handed s piece).output) ≤ sends_at s.stage s.requests
  handed_few s piece = omega (arith, length-take (handed s piece).sent (handed s piece).output, deliver_sends s piece (replicate 1024 0))

  on_few : (x : Stage) (here : Relay) (goes : List ℕ) (next : Relay) (k m : ℕ) → length here.sent ≤ k → length goes + length next.sent ≤ m → length (handing_on x here goes next).sent ≤ k + m
  on_few (Awaiting e) here goes next k m h i = omega arith
  on_few Open here goes next k m h i = omega (arith, length-append here.sent (goes ++ next.sent), length-append goes next.sent)
  on_few (Failed e) here goes next k m h i = omega arith

  relayed_few : (n : ℕ) (s : Session) (piece : List ℕ) → length (relayed hops bytes n s piece).sent ≤ sends_at s.stage s.requests + 1024 * n
  unfolding relayed
  relayed_few zero s piece = omega (arith, handed_few s piece)
  relayed_few (suc n) s piece =
      let c = handed s piece in
      let ih = relayed_few n (begun_at hops bytes n c.session) (drop c.used piece) in
      omega (arith, on_few c.session.stage (alone (suc n) c) (goes_at hops bytes n) (relayed hops bytes n (begun_at hops bytes n c.session) (drop c.used piece)) (sends_at s.stage s.requests) (1024 * suc n) (handed_few s piece) (omega (arith, ih, goes_few n)))

still_few : (x : Stage) (q : Requests) → sends_at x q ≤ 1024
still_few (Awaiting e) q = omega (arith, first_room_lem e q)
still_few Open q = omega arith
still_few (Failed x) q = omega arith

-- an empty piece does nothing to a proxy that waits
relayed_none : (hops : List Hop) (bytes : List ℕ) (n : ℕ) (s : Session) → s.started ≡ true → talk.is_over (view s) ≡ false → relayed hops bytes n s [] ≡ record { session = s; behind = n; used = 0; sent = [] }
unfolding relayed
relayed_none hops bytes zero s g v = ap (alone zero) (handed_takes s [] g v)
relayed_none hops bytes (suc n) s g v =
    let h = handed_takes s [] g v in
    (λ i. handing_on (h i).session.stage (alone (suc n) (h i)) (goes_at hops bytes n) (relayed hops bytes n (begun_at hops bytes n (h i).session) (drop (h i).used [])))
    ∙ stops s.stage s.bound (session.held_bytes s) v _ _ _
  where
    stops : (x : Stage) (b : Bound) (h : List ℕ) → talk.is_over (view_at x b h) ≡ false → (here next : Relay) (goes : List ℕ) → handing_on x here goes next ≡ here
    stops (Awaiting e) b h q here next goes = refl
    stops Open b h q here next goes = absurd (true≢false q)
    stops (Failed e) b h q here next goes = absurd (true≢false q)

module _ (r : Route) where
  abbrev over : is_over r ≡ true ↔ (outcome r ≡ outcomes.Waiting → ⊥)
  over = over_just (view (session_in r))

  -- ---- a delivery

  module _ (piece out : List ℕ) where
    deliver_number : (room : ℕ) → room_in r ≡ room → Answers (answer_number (deliver r piece out).answer) (((outcome r ≡ outcomes.Waiting → ⊥) ↣ 16) ∷ ((length out < room) ↣ 1) ∷ [])
    unfolding deliver
    deliver_number room q =
        rw (answered r out (takes r piece out) refl (is_over r) false (leb (room_in r) (length out)) (leb room (length out)) (λ z w. ap (λ (n : ℕ). leb n (length out)) q))
        (checked (is_over r) _ Settled 16 _ _ refl (lit< tt) over (checked (not (leb room (length out))) _ ShortOutput 1 code.Accepted [] refl (lit< tt) (not_long room (length out)) all_passed))

    deliver_untouched : Untouched (deliver r piece out) r out
    unfolding deliver
    deliver_untouched = refuses r out (takes r piece out) refl (is_over r) false (leb (room_in r) (length out))

    deliver_accepts : (deliver r piece out).answer ≡ code.Accepted → (is_over r ≡ false) × (deliver r piece out ≡ takes r piece out)
    unfolding deliver
    deliver_accepts = accepts r out (takes r piece out) refl (is_over r) false (leb (room_in r) (length out))

    deliver_behind : Behind (deliver r piece out) out
    unfolding deliver
    deliver_behind =
        let s = session_in r in
        let few = relayed_few r.hops r.bytes (behind_in r) s piece in
        stays r out (takes r piece out) refl (is_over r) false (leb (room_in r) (length out))
        (λ q. stand_at code.Accepted _ _ (relayed r.hops r.bytes (behind_in r) s piece).sent out (omega (arith, few, still_few s.stage s.requests, leb-true (room_in r) (length out) q)))

  -- an empty piece in turn leaves the session of the proxy that is spoken to as it is
  nothing : (out : List ℕ) → (deliver r [] out).answer ≡ code.Accepted → (((deliver r [] out).used ≡ 0) × ((deliver r [] out).sent ≡ 0)) × Tells (deliver r [] out).session (outcome r) (bound r) r.attempts r.held
  nothing out p =
      let (v, c) = deliver_accepts [] out p in
      let n = relayed_none r.hops r.bytes (behind_in r) (session_in r) refl v in
      subst (λ (k : Call). ((k.used ≡ 0) × (k.sent ≡ 0)) × Tells k.session (outcome r) (bound r) r.attempts r.held) (sym c)
      (subst (λ (q : Relay). ((q.used ≡ 0) × (length q.sent ≡ 0)) × Tells (with_session r q.behind q.session) (outcome r) (bound r) r.attempts r.held) (sym n)
      ((refl, refl), record { outcomes = refl; bounds = refl; attempts = refl; holds = refl }))

  -- ---- an end

  abbrev ending : Bool → session-calls.Call
  ending b =
      cond b (session-calls.refusal Settled (session_in r) [])
      (record { answer = code.Accepted; session = packed (session_in r) (talk.ended (talk.failed UnexpectedEof)); used = 0; sent = 0; output = [] })

  abbrev ended : session-calls.Call → Call
  ended c = record { answer = c.answer; session = with_session r r.behind c.session; used = 0; sent = 0; output = [] }

  end_untouched : Untouched (end r) r []
  unfolding end session-calls.end
  end_untouched e = go (is_over r)
    where
      go : (b : Bool) → (ended (ending b)).answer ≡ code.Refused e → ended (ending b) ≡ refusal e r []
      go true q = rw (same_error q)
      go false q = absurd (clash q)

  end_number : Answers (answer_number (end r).answer) (((outcome r ≡ outcomes.Waiting → ⊥) ↣ 16) ∷ [])
  unfolding end session-calls.end
  end_number = rw (go (is_over r)) (checked (is_over r) _ Settled 16 code.Accepted [] refl (lit< tt) over all_passed)
    where
      go : (b : Bool) → (ending b).answer ≡ refuse b Settled code.Accepted
      go true = refl
      go false = refl

  end_fails : (end r).answer ≡ code.Accepted → Tells (end r).session (outcomes.Failed UnexpectedEof) no_address r.attempts 0
  unfolding end session-calls.end
  end_fails = go (is_over r)
    where
      go : (b : Bool) → (ended (ending b)).answer ≡ code.Accepted → Tells (ended (ending b)).session (outcomes.Failed UnexpectedEof) no_address r.attempts 0
      go true q = absurd (clash (sym q))
      go false q = record { outcomes = refl; bounds = refl; attempts = refl; holds = refl }

in_turn : (room : ℕ) (r : Route) → room_in r ≡ room → InTurn room r
in_turn room r q =
    record {
      deliver_number = λ piece out. deliver_number r piece out room q;
      end_number = end_number r;
      deliver_untouched = deliver_untouched r;
      end_untouched = end_untouched r;
      nothing = λ out p. (nothing r out p).0;
      nothing_told = λ out p. (nothing r out p).1;
      end_fails = end_fails r;
      end_nine = λ p. ap outcome_number (end_fails r p).outcomes;
      deliver_behind = deliver_behind r;
    }

-- every route value asks as one of so many proxies does
pub any_in_turn : AnyInTurn
any_in_turn r = (suc (last_in r.count), omega arith, omega arith, in_turn (room_in r) r refl)

-- ---- opening: 21, then 1, then its openings' own numbers

by_fails : (x : code.Answer) (os : List Opening) (out : List ℕ) (e : SocksError) → (open_by x os out).answer ≡ code.Refused e
    → Tells (open_by x os out).session (outcomes.Failed e) no_address 0 0 × ((open_by x os out).sent ≡ 0) × ((open_by x os out).output ≡ out)
by_fails code.Accepted [] out e q = (record { outcomes = ap outcomes.Failed (same_error q); bounds = refl; attempts = refl; holds = refl }, refl, refl)
by_fails code.Accepted (o ∷ os) out e q = absurd (clash q)
by_fails (code.Refused d) os out e q = (record { outcomes = ap outcomes.Failed (same_error q); bounds = refl; attempts = refl; holds = refl }, refl, refl)

by_waiting : (x : code.Answer) (os : List Opening) (out : List ℕ) → (open_by x os out).answer ≡ code.Accepted → Tells (open_by x os out).session outcomes.Waiting no_address 0 0
by_waiting code.Accepted [] out q = absurd (clash (sym q))
by_waiting code.Accepted (o ∷ os) out q = record { outcomes = refl; bounds = refl; attempts = refl; holds = refl }
by_waiting (code.Refused d) os out q = absurd (clash (sym q))

by_behind : (x : code.Answer) (os : List Opening) (out : List ℕ) → (x ≡ code.Accepted → 1024 ≤ length out) → Behind (open_by x os out) out
by_behind code.Accepted [] out h = none_sent _ _ 0 out
by_behind code.Accepted (o ∷ os) out h = stand_at code.Accepted _ 0 (first_of (first_reply o) (kept_by o)) out (omega (arith, h refl, first_room_lem (first_reply o) (kept_by o)))
by_behind (code.Refused e) os out h = none_sent _ _ 0 out

-- a delivery leaves what a route asks
room_stays : (r : Route) (piece out : List ℕ) → room_in (deliver r piece out).session ≡ room_in r
unfolding deliver
room_stays r piece out = go (is_over r) (leb (room_in r) (length out))
  where
    go : (a b : Bool) → room_in (judged r out (takes r piece out) refl a false b).session ≡ room_in r
    go true b = refl
    go false true = refl
    go false false = refl

room_on : (n : ℕ) (ds : List Delivery) (r : Route) → room_in (after (receiver n) r ds) ≡ room_in r
unfolding after
room_on n [] r = refl
room_on n (d ∷ ds) r = room_on n ds (deliver r d.piece d.output).session ∙ room_stays r d.piece d.output

module _ (a : routing.Route) (out : List ℕ) where
  opening_fails : (e : SocksError) → (opening a out).answer ≡ code.Refused e → Tells (opening a out).session (outcomes.Failed e) no_address 0 0 × ((opening a out).sent ≡ 0) × ((opening a out).output ≡ out)
  unfolding opening
  opening_fails = by_fails (check a (length out)) (openings a) out

  opening_waits : (opening a out).answer ≡ code.Accepted → Tells (opening a out).session outcomes.Waiting no_address 0 0
  unfolding opening
  opening_waits = by_waiting (check a (length out)) (openings a) out

  opening_behind : Behind (opening a out) out
  unfolding opening
  opening_behind = by_behind (check a (length out)) (openings a) out (λ q. let w = accepted_has a (length out) q in omega (arith, w.some, w.room))

  opens_so : OpensInTurn a out
  opens_so =
      record {
        number = rw (opening_answers a out) (check_just a (length out));
        fails = λ e q. (opening_fails e q).0;
        unsent = λ e q. (opening_fails e q).1;
        unwritten = λ e q. (opening_fails e q).2;
        waits = opening_waits;
        asks = λ q ds. in_turn (room_for (length (openings a))) _ (room_on (room_for (length (openings a))) ds (opening a out).session ∙ opened_asks a out q);
        behind = opening_behind;
      }

pub opens_in_turn : (a : routing.Route) (out : List ℕ) → OpensInTurn a out
opens_in_turn = opens_so

-- F-4: 11 is not met by any opening, delivery or end of a route
without_11 : (c : Call) → Without 11 c
without_11 c = (answer_not_11 c.answer, outcome_not_11 (outcome c.session))

pub never_11 : Never11
never_11 a r piece out = (without_11 (opening a out), without_11 (deliver r piece out), without_11 (end r))
