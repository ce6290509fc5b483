-- F-11: a route carries the sum of its proxies' attempts, each proxy's own for what of each piece was handed to it.
use Prim.Native.Nat.{ℕ, suc, ◌+◌, ◌-◌, ◌*◌, ◌%◌, ◌^◌, ◌≤◌, ◌<◌}
use native.Mathlib.Nat.{le_refl}
use native.Mathlib.Omega.{arith}
use mathlib.Core.Path.{◌≡◌, refl, ap, sym, subst, ◌∙◌}
use mathlib.Core.Bool.{Bool, true, false, cond, ◌&&◌, true≢false}
use mathlib.Core.List.{List, [], ◌∷◌, ◌++◌, map}
use lib.ListN.{length, drop, replicate, length-replicate}
use lib.Dec.{leb}
use borrow.Author.Tests.{le-leb, leb-true}
use Rattle.protocol.specs.declared.Outcome.TheVariants as Out
use Rattle.protocol.specs.declared.SocksError.TheVariants.{ShortOutput, Settled}
use Rattle.protocol.specs.Opening.{Opening, v5, v4, no_auth, user_pass, first_reply, delivery_room}
use Rattle.protocol.specs.Machine.{machine, decided_on}
use Rattle.protocol.specs.Replies.{decide}
use Rattle.protocol.specs.Client as client
use Rattle.protocol.specs.Client.{side, begun, outcome_of}
use Rattle.protocol.proofs.Client.{client_lawful, begun_shaped}
use Rattle.protocol.proofs.Rooms.{begun_waits}
use Rattle.client_stages.specs.declared.due.Stage.{Stage}
use Rattle.client_stages.specs.declared.due.Stage.TheVariants.{Awaiting, Open, Failed}
use Rattle.client_stages.specs.due.Parts.{requests_of}
use Rattle.client_stages.specs.due.Stages.{SideSession, SideFed, view_at, holds_of}
use Rattle.client_session.specs.declared.Session.{Session}
use Rattle.client_session.specs.Session.{held_bytes}
use Rattle.client_session.specs.Calls.{Call}
use Rattle.socks.specs.Attempts.{one_if, is_waiting, has_byte, lends_for, attempts_at}
use Rattle.socks.proofs.Tunnels.{Stands, step}
use Rattle.socks.proofs.Attempts.{stands_on, tallied}
use Rattle.route_delivery.specs.declared.Hop as relaying
use Rattle.route_delivery.specs.Relay.{no_hop, requests_at, goes_at, begun_at, Relay, handed, alone, handing_on, relayed}
use Rattle.route_spec.specs.Route as routing
use Rattle.route_spec.specs.Route.{room_for}
use Rattle.route_spec.specs.Hops.{Hop, hop_of}
use Rattle.route_spec.proofs.Rooms.{EachLimits}
use Rattle.route_session.specs.declared.calls.Route.{Route}
use Rattle.route_session.specs.calls.Calls as route
use Rattle.route_session.specs.calls.Calls.{started_for, refusal, behind_in, room_in, session_in, takes, deliver}
use Rattle.route.specs.Routed.{receiver_of, attempts_in_turn, lending, Through}
use Rattle.route.proofs.Relays.{waits_open, fails_open, hop_on, ahead_of}
use Rattle.route.proofs.Openings.{ahead_of_lem, opened_as, Attempted, through_with}
use Rattle.route.proofs.Tries.{tries_first, tries_none, fed, outcome_fed, place_fed, fed_append, left, tries, tries_stays, tries_last, tries_opens, tries_over}
use Rattle.talk.specs.Talk.{done, failed, feed, waiting, ended, onward, is_over, held_by, reached}
use Rattle.talk.specs.Tunnel.{Delivery, lends, answer_to, after}
use Rattle.talk.proofs.Feed.{feed_exact, feed_still}
use Rattle.talk.proofs.Deliveries.{lent}

-- ---- a proxy's own delivery, lent 1,024 bytes

abbrev StandsAt : Opening → Session → List ℕ → Type 0
StandsAt o s before = Stands (delivery_room o) (client.kept o) s (fed o before).session

lends_enough : (o : Opening) (d : Delivery) → 1024 ≤ length d.output → lends_for o d ≡ true
lends_enough (v5 c a port b) d h = le-leb 778 (length d.output) (omega arith)
lends_enough (v4 a port) d h = le-leb 262 (length d.output) (omega arith)

adds_same : (o : Opening) (before : List ℕ) (d e : Delivery) → lends_for o d ≡ lends_for o e → d.piece ≡ e.piece → attempts_at o before d ≡ attempts_at o before e
adds_same o before d e l q =
    λ i. cond (l i && (has_byte (record { piece = q i; output = d.output }) && is_waiting (machine o before).outcome)) (decided_on o (before ++ q i) - decided_on o before + one_if (is_waiting (machine o (before ++ q i)).outcome)) 0

holds_none : (m : SideSession) → is_over m ≡ true → length (held_by m) ≡ 0
holds_none (waiting e h) v = absurd (true≢false (sym v))
holds_none (ended x) v = refl

module _ (o : Opening) (s : Session) (before : List ℕ) (t : StandsAt o s before) (d : Delivery) (roomy : 1024 ≤ length d.output) where
  -- as the route lends it
  abbrev own : Delivery
  own = record { piece = d.piece; output = replicate 1024 0 }

  abbrev c : Call
  c = handed s d.piece

  own_lends : lends_for o own ≡ true
  own_lends = lends_enough o own (omega (arith, length-replicate {A = ℕ} 1024 0))

  handed_stands : StandsAt o c.session (before ++ d.piece)
  handed_stands = subst (λ (b : Bool). StandsAt o c.session (before ++ cond b d.piece [])) own_lends (stands_on o s before own t)

  handed_adds : s.attempts < 2 ^ 64 → c.session.attempts ≡ (s.attempts + attempts_at o before d) % 2 ^ 64
  handed_adds small =
      tallied o s before t own small
      ∙ ap (λ (n : ℕ). (s.attempts + n) % 2 ^ 64) (adds_same o before own d (own_lends ∙ sym (lends_enough o d roomy)) refl)

  -- where it is over then, it uses what the machine does
  handed_uses : is_over (fed o before).session ≡ false → is_over (fed o (before ++ d.piece)).session ≡ true → c.used ≡ (machine o (before ++ d.piece)).place - length before
  handed_uses v w =
      let N = side o in
      let law = client_lawful (client.kept o) in
      let m = (fed o before).session in
      let g = onward N m d.piece in
      let u : c.used ≡ reached g - length (held_by m) =
      (step (delivery_room o) (client.kept o) s m t own).used ∙ (lent N law (delivery_room o) m own (feed_still N law (begun o) (begun_shaped o) before) own_lends).used in
      let a = fed_append o before d.piece in
      let z = holds_none g.session (ap (λ (f : SideFed). is_over f.session) (sym a) ∙ w) in
      omega (arith, u, z, place_fed o (before ++ d.piece), ap (λ (f : SideFed). f.place) a, feed_exact N law (begun o) before v)

-- ---- what a route keeps of its openings, and a proxy that is begun

abbrev KeptIn : List relaying.Hop → List ℕ → List Opening → Type 0
KeptIn hops bytes os = ahead_of hops bytes (length os) ≡ map hop_of os

kept_on : (hops : List relaying.Hop) (bytes : List ℕ) (o : Opening) (os : List Opening) → KeptIn hops bytes (o ∷ os) → (hop_on hops bytes (length os) ≡ hop_of o) × KeptIn hops bytes os
unfolding ahead_of
kept_on hops bytes o os k = (cc, cc)

begun_still : (o : Opening) → (fed o []).session ≡ waiting (first_reply o) []
unfolding feed decide
begun_still (v5 no_auth a port false) = refl
begun_still (v5 no_auth a port true) = refl
begun_still (v5 (user_pass u w) a port false) = refl
begun_still (v5 (user_pass u w) a port true) = refl
begun_still (v4 a port) = refl

module _ (hops : List relaying.Hop) (bytes : List ℕ) where
  begun_stands : (p : Opening) (os : List Opening) (s : Session) → KeptIn hops bytes (p ∷ os) → StandsAt p (begun_at hops bytes (length os) s) []
  begun_stands p os s k =
      let h = (kept_on hops bytes p os k).0 in
      record {
        going = refl;
        kept = ap (λ (x : Hop). x.kept) h;
        seen = ap (λ (x : Hop). waiting x.first []) h ∙ sym (begun_still p);
        waits = begun_waits p [];
        exact = ap (λ (m : SideSession). length (holds_of m)) (sym (begun_still p));
      }

  -- ---- a relay: which proxy it leaves spoken to, and what it adds

  record On (attempts : ℕ) (o : Opening) (before : List ℕ) (os : List Opening) (d : Delivery) (q : Relay) : Type 0 where
    now : Opening
    had : List ℕ
    later : List Opening
    index : q.behind ≡ length later
    few : length later ≤ length os
    keeps : KeptIn hops bytes (now ∷ later)
    stands : StandsAt now q.session had
    last : (machine now had).outcome ≡ Out.Open → later ≡ []
    more : ℕ
    adds : q.session.attempts ≡ (attempts + more) % 2 ^ 64
    goes : (ds : List Delivery) → tries o before os (d ∷ ds) ≡ more + tries now had later ds

  module _ (o : Opening) (before : List ℕ) (s : Session) (d : Delivery) (t : StandsAt o s before) (v : is_over (fed o before).session ≡ false) (small : s.attempts < 2 ^ 64)
      (roomy : 1024 ≤ length d.output) where
    abbrev had : List ℕ
    had = before ++ d.piece

    abbrev left_at : Call
    left_at = handed s d.piece

    stays_on : (os : List Opening) → KeptIn hops bytes (o ∷ os) → ((machine o had).outcome ≡ Out.Open → os ≡ [])
        → ((ds : List Delivery) → tries o before os (d ∷ ds) ≡ attempts_at o before d + tries o had os ds) → On s.attempts o before os d (alone (length os) left_at)
    stays_on os k l g =
        record {
          now = o;
          had = had;
          later = os;
          index = refl;
          few = le_refl (length os);
          keeps = k;
          stands = handed_stands o s before t d roomy;
          last = l;
          more = attempts_at o before d;
          adds = handed_adds o s before t d roomy small;
          goes = g;
        }

    -- the machine's outcome, by the stage behind it
    met : (x : Stage) → left_at.session.stage ≡ x → (machine o had).outcome ≡ outcome_of (view_at x left_at.session.bound (held_bytes left_at.session))
    met x q =
        outcome_fed o had ∙ ap outcome_of (sym (handed_stands o s before t d roomy).seen)
        ∙ ap (λ (y : Stage). outcome_of (view_at y left_at.session.bound (held_bytes left_at.session))) q

    lends_it : lends_for o d ≡ true
    lends_it = lends_enough o d roomy

    module _ (p : Opening) (os : List Opening) (k : KeptIn hops bytes (o ∷ p ∷ os)) (next : Relay) where
      abbrev rest : Delivery
      rest = record { piece = drop left_at.used d.piece; output = d.output }

      abbrev handing : Stage → Relay
      handing x = handing_on x (alone (suc (length os)) left_at) (goes_at hops bytes (length os)) next

      opens_on : (machine o had).outcome ≡ Out.Open → On left_at.session.attempts p [] os rest next → On s.attempts o before (p ∷ os) d (handing Open)
      opens_on q n =
          let w : left o before d.piece ≡ drop left_at.used d.piece =
          rw q (ap (λ (i : ℕ). drop i d.piece) (sym (handed_uses o s before t d roomy v (open_over (fed o had).session (sym (outcome_fed o had) ∙ q))))) in
          record {
            now = n.now;
            had = n.had;
            later = n.later;
            index = n.index;
            few = omega (arith, n.few);
            keeps = n.keeps;
            stands = n.stands;
            last = n.last;
            more = attempts_at o before d + n.more;
            adds = omega (arith, n.adds, handed_adds o s before t d roomy small);
            goes = λ ds. tries_opens o before d lends_it ds p os q ∙ rw w (omega (arith, n.goes ds));
          }
        where
          open_over : (m : SideSession) → outcome_of m ≡ Out.Open → is_over m ≡ true
          open_over (waiting e h) e' = let z : ◌≡◌ {A = ℕ} 0 1 = cc in absurd (omega arith)
          open_over (ended x) e' = refl

      hands_on : On left_at.session.attempts p [] os rest next → (x : Stage) → left_at.session.stage ≡ x → On s.attempts o before (p ∷ os) d (handing x)
      hands_on n (Awaiting e) q = stays_on (p ∷ os) k (λ z. absurd (waits_open (sym (met (Awaiting e) q) ∙ z))) (λ ds. tries_stays o before d lends_it ds (p ∷ os) (rw (met (Awaiting e) q)))
      hands_on n Open q = opens_on (met Open q) n
      hands_on n (Failed e) q = stays_on (p ∷ os) k (λ z. absurd (fails_open (sym (met (Failed e) q) ∙ z))) (λ ds. tries_stays o before d lends_it ds (p ∷ os) (rw (met (Failed e) q)))

  relay_on : (os : List Opening) (o : Opening) (before : List ℕ) (s : Session) (d : Delivery) → KeptIn hops bytes (o ∷ os) → StandsAt o s before → is_over (fed o before).session ≡ false
      → s.attempts < 2 ^ 64 → 1024 ≤ length d.output → On s.attempts o before os d (relayed hops bytes (length os) s d.piece)
  unfolding relayed
  relay_on [] o before s d k t v small roomy = stays_on o before s d t v small roomy [] k (λ z. refl) (λ ds. tries_last o before d (lends_enough o d roomy) ds)
  relay_on (p ∷ os) o before s d k t v small roomy =
      let c = handed s d.piece in
      let k' = (kept_on hops bytes o (p ∷ os) k).1 in
      let small' : c.session.attempts < 2 ^ 64 = omega (arith, handed_adds o s before t d roomy small) in
      hands_on o before s d t v small roomy p os k _
      (relay_on os p [] (begun_at hops bytes (length os) c.session) (record { piece = drop c.used d.piece; output = d.output }) k' (begun_stands p os c.session k') (ap is_over (begun_still p)) small' roomy)
      c.session.stage refl

-- ---- a route of so many openings, of which one is spoken to, was handed bytes, and has others behind it

module _ (all : List Opening) (eight : length all ≤ 8) where
  record Speaks (r : Route) (o : Opening) (before : List ℕ) (os : List Opening) : Type 0 where
    count : r.count ≡ length all
    index : r.behind ≡ length os
    few : length os < length all
    keeps : KeptIn r.hops r.bytes (o ∷ os)
    stands : StandsAt o (session_in r) before
    last : (machine o before).outcome ≡ Out.Open → os ≡ []

  abbrev counted : Delivery → Bool
  counted d = lends (receiver_of all) d

  abbrev answered : Route → Delivery → Route
  answered r d = (answer_to (receiver_of all) r d).session

  module _ (r : Route) (o : Opening) (before : List ℕ) (os : List Opening) (w : Speaks r o before os) (d : Delivery) where
    delivers : deliver r d.piece d.output ≡ cond (route.is_over r) (refusal Settled r d.output) (cond (counted d) (takes r d.piece d.output) (refusal ShortOutput r d.output))
    unfolding deliver
    delivers =
        let n : room_in r ≡ room_for (length all) = omega (arith, w.count, w.few) in
        ap (λ (k : ℕ). cond (route.is_over r) (refusal Settled r d.output) (cond (leb k (length d.output)) (takes r d.piece d.output) (refusal ShortOutput r d.output))) n

    over_stays : route.is_over r ≡ true → answered r d ≡ r
    over_stays v = ap (λ (c : route.Call). c.session) delivers ∙ rw v

    short_stays : counted d ≡ false → answered r d ≡ r
    short_stays l = ap (λ (c : route.Call). c.session) delivers ∙ rw l (go (route.is_over r))
      where
        go : (b : Bool) → (cond b (refusal Settled r d.output) (refusal ShortOutput r d.output)).session ≡ r
        go true = refl
        go false = refl

    over_is : route.is_over r ≡ is_over (fed o before).session
    over_is = ap (λ (m : SideSession). is_over m) w.stands.seen

    -- over, it adds nothing
    over_adds : route.is_over r ≡ true → (ds : List Delivery) → tries o before os ds ≡ 0
    over_adds v ds = tries_over o before os ds (ap is_waiting (outcome_fed o before) ∙ go (fed o before).session (sym over_is ∙ v)) w.last
      where
        go : (m : SideSession) → is_over m ≡ true → is_waiting (outcome_of m) ≡ false
        go (waiting e h) q = sym q
        go (ended (done x)) q = refl
        go (ended (failed x)) q = refl

    module _ (v : route.is_over r ≡ false) (l : counted d ≡ true) (small : r.attempts < 2 ^ 64) where
      at_index : behind_in r ≡ length os
      at_index = omega (arith, w.count, w.index, w.few)

      on : On r.hops r.bytes r.attempts o before os d (relayed r.hops r.bytes (behind_in r) (session_in r) d.piece)
      on =
          let roomy : 1024 ≤ length d.output = omega (arith, leb-true (room_for (length all)) (length d.output) l, w.few) in
          subst (λ (n : ℕ). On r.hops r.bytes r.attempts o before os d (relayed r.hops r.bytes n (session_in r) d.piece)) (sym at_index)
          (relay_on r.hops r.bytes os o before (session_in r) d w.keeps w.stands (sym over_is ∙ v) small roomy)

      moves_on : answered r d ≡ (takes r d.piece d.output).session
      moves_on = ap (λ (c : route.Call). c.session) delivers ∙ rw (v, l)

      speaks_on : Speaks (answered r d) on.now on.had on.later
      speaks_on = rw moves_on (record {
        count = w.count;
        index = on.index;
        few = omega (arith, on.few, w.few);
        keeps = on.keeps;
        stands = record {
          going = refl;
          kept = ap (λ (n : ℕ). requests_of (requests_at r.hops r.bytes n)) (omega (arith, on.index, on.few, w.few, w.count)) ∙ ap (λ (x : Hop). x.kept) (kept_on r.hops r.bytes on.now on.later on.keeps).0;
          seen = on.stands.seen;
          waits = on.stands.waits;
          exact = on.stands.exact;
        };
        last = on.last;
      })

      attempts_on : (answered r d).attempts ≡ (r.attempts + on.more) % 2 ^ 64
      attempts_on = ap (λ (x : Route). x.attempts) moves_on ∙ on.adds

  -- every list of deliveries, from a number of attempts on
  after_tries : (ds : List Delivery) (r : Route) (o : Opening) (before : List ℕ) (os : List Opening) (c : ℕ) → Speaks r o before os → r.attempts ≡ c % 2 ^ 64
      → (after (receiver_of all) r ds).attempts ≡ (c + tries o before os (lending all ds)) % 2 ^ 64
  unfolding after lending
  after_tries [] r o before os c w e = omega (arith, e, tries_none o before os)
  after_tries (d ∷ ds) r o before os c w e = go (route.is_over r) refl (counted d) refl (λ r o before os c. after_tries ds r o before os c)
    where
      go : (v : Bool) → route.is_over r ≡ v → (l : Bool) → counted d ≡ l
          → ((r : Route) (o : Opening) (before : List ℕ) (os : List Opening) (c : ℕ) → Speaks r o before os → r.attempts ≡ c % 2 ^ 64
          → (after (receiver_of all) r ds).attempts ≡ (c + tries o before os (lending all ds)) % 2 ^ 64)
          → (after (receiver_of all) (answered r d) ds).attempts ≡ (c + tries o before os (cond (counted d) (d ∷ []) [] ++ lending all ds)) % 2 ^ 64
      go true v l q ih =
          rw (over_stays r o before os w d v) (omega (arith, ih r o before os c w e, over_adds r o before os w d v (lending all ds), over_adds r o before os w d v (cond (counted d) (d ∷ []) [] ++ lending all ds)))
      go false v false q ih = rw (short_stays r o before os w d q, q) (ih r o before os c w e)
      go false v true q ih =
          let small : r.attempts < 2 ^ 64 = omega (arith, e) in
          let n = on r o before os w d v q small in
          let a : (answered r d).attempts ≡ (c + n.more) % 2 ^ 64 = omega (arith, e, attempts_on r o before os w d v q small) in
          rw q (omega (arith, n.goes (lending all ds), ih (answered r d) n.now n.had n.later (c + n.more) (speaks_on r o before os w d v q small) a))

-- ---- a route that was opened

module _ (o : Opening) (os : List Opening) (l : EachLimits (o ∷ os)) (eight : length (o ∷ os) ≤ 8) where
  begun_speaks : Speaks (o ∷ os) eight (started_for o os) o [] os
  begun_speaks =
      let k = ahead_of_lem (o ∷ os) l (drop (suc (length os)) (replicate 8 no_hop)) (drop (1024 * suc (length os)) (replicate 8192 0)) in
      record {
        count = refl;
        index = refl;
        few = le_refl (suc (length os));
        keeps = k;
        stands = record {
          going = refl;
          kept = ap (λ (n : ℕ). requests_of (requests_at (started_for o os).hops (started_for o os).bytes n)) (omega arith) ∙ ap (λ (x : Hop). x.kept) (kept_on (started_for o os).hops (started_for o os).bytes o os k).0;
          seen = sym (begun_still o);
          waits = begun_waits o [];
          exact = ap (λ (m : SideSession). length (holds_of m)) (sym (begun_still o));
        };
        last = λ q. absurd (waits_open (sym (outcome_fed o [] ∙ ap outcome_of (begun_still o)) ∙ q));
      }

  pub started_attempts : (ds : List Delivery) → (after (receiver_of (o ∷ os)) (started_for o os) ds).attempts ≡ attempts_in_turn (o ∷ os) (lending (o ∷ os) ds) % 2 ^ 64
  started_attempts ds =
      after_tries (o ∷ os) eight ds (started_for o os) o [] os 0 begun_speaks refl
      ∙ rw (tries_first o os (lending (o ∷ os) ds)) (omega arith)

-- for every route whose opening is accepted, and every list of deliveries
pub route_attempts : (a : routing.Route) → Attempted a
route_attempts a out q ds y = let w = opened_as a out q in rw (w.is, w.are) (started_attempts w.first w.later w.limits (omega (arith, w.few)) ds)

-- and with that F-5's promise
pub through : (a : routing.Route) → Through a
through a = through_with a (route_attempts a)
