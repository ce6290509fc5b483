-- What a delivery leaves of a route in lent bytes, by what the functions below it say.
use Prim.Native.Nat.{ℕ, ◌+◌, ◌-◌, ◌*◌, ◌≤◌, ◌<◌}
use native.Mathlib.Omega.{arith}
use mathlib.Core.Path.{◌≡◌, refl, sym, ap, subst, ◌∙◌}
use mathlib.Core.Bool.{true}
use mathlib.Core.List.{List, ◌++◌, append-nil}
use lib.ListN.{length, take, drop, replicate, length-append, length-take, length-drop, length-replicate}
use Rattle.protocol.specs.Answers.{Accepted}
use Rattle.protocol.specs.declared.Reply.{Reply}
use Rattle.protocol.specs.declared.SocksError.TheVariants.{Settled, OutOfOrder}
use Rattle.protocol.specs.Numbers.{answer_number}
use Rattle.protocol.specs.Bytes.{Bytes}
use Rattle.protocol.proofs.Bytes.{bytes_part}
use Rattle.buffers.specs.write.Written.{overwrite, Wrote}
use Rattle.buffers.proofs.write.Parts.{part_from}
use Rattle.client_stages.specs.declared.due.Stage.{Stage}
use Rattle.client_stages.specs.declared.due.Stage.TheVariants.{Awaiting}
use Rattle.client_stages.specs.due.Stages.{view_at}
use Rattle.client_session.specs.declared.Session.{Session}
use Rattle.lent_numbers.specs.declared.told.RawStep.{RawStep}
use Rattle.lent_numbers.specs.told.Told.{outcome_of}
use Rattle.lent_session.specs.State as sessions
use Rattle.lent_session.specs.State.{two_at, session_at}
use Rattle.lent_session.specs.Fits.{Fits, awaited_number}
use Rattle.lent_session.proofs.delivery.Leaving.{fits_at, over_none}
use Rattle.lent_session.proofs.telling.Laws.{told_is}
use Rattle.route_delivery.specs.declared.Hop.{Hop}
use Rattle.route_delivery.specs.declared.Spot.{Spot}
use Rattle.route_delivery.specs.declared.Relayed.{Relayed}
use Rattle.route_delivery.specs.Relay as relay
use Rattle.route_delivery.specs.Relay.{Relay, relayed, Relayable, RelayResult}
use Rattle.route_session.specs.declared.calls.Route.{Route}
use Rattle.route_session.specs.declared.calls.Delivered.{Delivered}
use Rattle.route_session.specs.calls.Calls.{Call, refusal, last_in, outcome, deliver, DeliverResult}
use Rattle.route_session.proofs.calls.Laws.{relay_asks, takes_as, delivers_takes}
use Rattle.talk.specs.Talk as talk
use Rattle.lent_route.specs.State.{Phase, preparing, opened, over, phase_at, hops_in, count_at, route_at, spoken_at}
use Rattle.lent_route.specs.Calls.{left_by, Leaves, Untimely, Delivers}
use Rattle.lent_route.specs.delivery.Settling.{spot_in, lengths_by, Settles}
use Rattle.lent_route.proofs.Writing.{keeping}
use Rattle.lent_route.proofs.Prefix.{prefix, first_long}
use Rattle.lent_route.proofs.Reading.{means_route, requests_first, relayed_first}
use Rattle.lent_route.proofs.delivery.Bounds.{relayed_few, relayed_behind}

-- ---- the numbers that lent bytes have

module _ (s : List ℕ) (y : Bytes s) (l : length s ≡ 8538) where
  pub fits_first : Fits (keeping (session_at s) (take 1024 (drop 282 s)))
  fits_first = subst Fits (prefix s (omega (arith, l))) (fits_at (take 1306 s) (bytes_part s 0 1306 y) (first_long s l))

pub short_behind : {a b x y : ℕ} → a ≡ x → b ≡ y → a < b → x < y
short_behind p q h = omega (arith, p, q, h)

-- ---- a route that awaits a reply

module _ (s piece out : List ℕ) (y : Bytes s) (l : length s ≡ 8538) (room : length out ≡ 8192) {e : Reply} (w : (session_at s).stage ≡ Awaiting e) (b : (session_at s).started ≡ true) where
  abbrev r : Route
  r = route_at s

  abbrev last : ℕ
  last = last_in (count_at s)

  abbrev from : ℕ
  from = 346 + 1024 * (7 - last)

  abbrev pub spot : Spot
  spot = spot_in s e (two_at s 8) last

  f : Fits (keeping (session_at s) (take 1024 (drop 282 s)))
  f = fits_first s y l

  enough : 1024 * (last + 1) ≤ length out
  enough = omega (arith, room)

  lent_long : length (drop from s) ≡ 1024 * (last + 1)
  lent_long = omega (arith, length-drop from s, l)

  bytes_long : length r.bytes ≡ 8192
  bytes_long = omega (arith, length-append (drop from s) (replicate (1024 * (7 - last)) 0), lent_long, length-replicate {A = ℕ} (1024 * (7 - last)) 0)

  pub asks : Relayable r.hops spot r.bytes (length out)
  asks =
      subst (λ (g : Stage). Relayable r.hops (record { behind = spot.behind; stage = g; held = r.held; bound = r.bound; attempts = r.attempts; sent = 0 }) r.bytes (length out)) w
      (relay_asks r piece out refl bytes_long f.attempts (omega (arith, room)))

  -- what the relay asks, lent the requests of the proxies in use
  pub lent_asks : {bytes : List ℕ} → bytes ≡ drop from s → Relayable r.hops spot bytes (length out)
  lent_asks q = let a = asks in record { few = a.few; small = a.small; whole = rw q (omega (arith, lent_long)); roomy = a.roomy }

  within : 1024 * (spot.behind + 1) ≤ length (drop from s)
  within = omega (arith, lent_long)

  -- all requests are as good
  pub all_lent : {bytes : List ℕ} → bytes ≡ drop from s → {q : Relayed} {hold' out' : List ℕ} → RelayResult (relayed r.hops bytes spot.behind (relay.session_at r.hops bytes spot r.hold) piece) spot piece out q hold' out'
      → RelayResult (relayed r.hops r.bytes spot.behind (relay.session_at r.hops r.bytes spot r.hold) piece) spot piece out q hold' out'
  all_lent {bytes} e₁ {q} {hold'} {out'} v =
      let more : List ℕ = replicate (1024 * (7 - last)) 0 in
      let p = requests_first r.hops (drop from s) more spot.behind within in
      let x : relay.session_at r.hops r.bytes spot r.hold ≡ relay.session_at r.hops (drop from s) spot r.hold =
      λ i. record { stage = spot.stage; started = true; held = spot.held; hold = r.hold; bound = spot.bound; attempts = spot.attempts; requests = p i } in
      let z : relayed r.hops r.bytes spot.behind (relay.session_at r.hops r.bytes spot r.hold) piece ≡ relayed r.hops bytes spot.behind (relay.session_at r.hops bytes spot r.hold) piece =
      relayed_first r.hops (drop from s) more spot.behind (relay.session_at r.hops r.bytes spot r.hold) piece within
      ∙ ap (λ (t : Session). relayed r.hops (drop from s) spot.behind t piece) x
      ∙ ap (λ (t : List ℕ). relayed r.hops t spot.behind (relay.session_at r.hops t spot r.hold) piece) (sym e₁) in
      subst (λ (t : Relay). RelayResult t spot piece out q hold' out') (sym z) v

  module _ {q : Relayed} {hold' out' : List ℕ} (v : RelayResult (relayed r.hops r.bytes spot.behind (relay.session_at r.hops r.bytes spot r.hold) piece) spot piece out q hold' out') (h : length hold' ≡ 261) where
    abbrev after : Route
    after =
        record {
          stage = q.spot.stage;
          held = q.spot.held;
          hold = hold';
          bound = q.spot.bound;
          attempts = q.spot.attempts;
          count = r.count;
          behind = q.spot.behind;
          hops = r.hops;
          bytes = r.bytes;
        }

    abbrev told : Delivered
    told = record { answer = Accepted; used = q.used; sent = q.spot.sent; route = after }

    delivered_as : DeliverResult (deliver r piece out) piece told out'
    delivered_as =
        delivers_takes r piece out (sym (ap (λ (g : Stage). talk.is_over (view_at g r.bound (take r.held r.hold))) w)) refl refl enough
        (takes_as r piece out refl q
        (subst (λ (g : Stage). RelayResult (relayed r.hops r.bytes spot.behind (relay.session_at r.hops r.bytes (record { behind = spot.behind; stage = g; held = r.held; bound = r.bound; attempts = r.attempts; sent = 0 }) r.hold) piece) (record { behind = spot.behind; stage = g; held = r.held; bound = r.bound; attempts = r.attempts; sent = 0 }) piece out q hold' out') (sym w) v))

    held_small : q.spot.held < 65536
    held_small =
        let t = relayed r.hops r.bytes spot.behind (relay.session_at r.hops r.bytes spot r.hold) piece in
        rw (ap (λ (p : Spot). p.held) v.spot) (relayed_few r.hops r.bytes spot.behind (relay.session_at r.hops r.bytes spot r.hold) piece f.held (sym (ap length v.held) ∙ h))

    behind_small : q.spot.behind < 65536
    behind_small =
        let t = relayed_behind r.hops r.bytes spot.behind (relay.session_at r.hops r.bytes spot r.hold) piece in
        omega (arith, t, ap (λ (p : Spot). p.behind) v.spot)

    abbrev spoken : Session
    spoken = spoken_at q.spot (lengths_by s q.spot.behind) hold' (drop 282 s)

    -- the state is the writing of where the piece leaves it
    pub leaves_relayed : {k : RawStep} {s' : List ℕ} → Settles s q hold' k s' → Leaves (deliver r piece out) s k s' out'
    leaves_relayed {k} {s'} t =
        let d = delivered_as in
        let p = d.returned in
        let fits : Fits (keeping spoken (replicate 1024 0)) =
        record {
          attempts = t.tries;
          held = held_small;
          first = f.first;
          authentication = behind_small;
          proxy = f.proxy;
          port = t.port;
          hold = h;
          bytes = length-replicate {A = ℕ} 1024 0;
        } in
        record {
          returned = t.returned
              ∙ (λ i. record { used = q.used; sent = q.spot.sent; answer = 0; outcome = told_is q.spot.stage q.spot.bound (take q.spot.held hold') i })
              ∙ (λ i. record { used = (p i).used; sent = (p i).sent; answer = answer_number (p i).answer; outcome = outcome_of (outcome (p i).route) });
          left = t.left
              ∙ (λ i. sessions.state_of (record { stage = q.spot.stage; started = sym b i; held = q.spot.held; hold = hold'; bound = q.spot.bound; attempts = q.spot.attempts; requests = record { lengths = lengths_by s q.spot.behind; bytes = drop 282 s } }))
              ∙ (λ i. left_by (p i).answer (p i).route s);
          means = ap route_at t.left ∙ means_route spoken s (replicate 1024 0) fits refl ∙ ap (λ (x : Delivered). x.route) p;
          output = d.output;
        }

-- ---- as the code lends it

pub hold_copied : (s : List ℕ) → length s ≡ 8538 → {n : ℕ} {hold : List ℕ} → Wrote (replicate 261 0) 0 (take (282 - 21) (drop 21 s)) n hold → hold ≡ take 261 (drop 21 s)
unfolding overwrite
hold_copied s l v =
    let b = take 261 (drop 21 s) in
    let z : length b ≡ 261 = rw (length-take 261 (drop 21 s), length-drop 21 s) (omega (arith, l)) in
    v.bytes ∙ ap (λ (n : ℕ). b ++ drop (0 + n) (replicate 261 0)) z ∙ append-nil b

module _ (s piece out : List ℕ) (y : Bytes s) (l : length s ≡ 8538) (room : length out ≡ 8192) {e : Reply} (w : (session_at s).stage ≡ Awaiting e) (b : (session_at s).started ≡ true)
    {held count n : ℕ} (h : held ≡ two_at s 8) (c : count ≡ count_at s) (m : n ≡ last_in count) {hops : List Hop} (g : hops ≡ hops_in s n) {p : Spot} (d : p ≡ spot_in s e held n) {hold : List ℕ} (k : hold ≡ take 261 (drop 21 s)) where
  last_is : n ≡ last_in (count_at s)
  last_is = m ∙ ap last_in c

  hops_are : hops ≡ hops_in s (last_in (count_at s))
  hops_are = g ∙ ap (hops_in s) last_is

  spot_is : p ≡ spot_in s e (two_at s 8) (last_in (count_at s))
  spot_is = d ∙ (λ i. spot_in s e (h i) (last_is i))

  abbrev lent : List ℕ
  lent = take (length s - (346 + 1024 * (7 - n))) (drop (346 + 1024 * (7 - n)) s)

  lent_is : lent ≡ drop (346 + 1024 * (7 - last_in (count_at s))) s
  lent_is = part_from s (346 + 1024 * (7 - n)) ∙ ap (λ (j : ℕ). drop (346 + 1024 * (7 - j)) s) last_is

  pub decide_asks : Relayable hops p lent (length out)
  decide_asks = subst (λ (t : Type 0). t) (λ i. Relayable (sym hops_are i) (sym spot_is i) (sym lent_is i) (length out)) (lent_asks s piece out y l room w b refl)

  pub decide_leaves : {q : Relayed} {hold' out' : List ℕ} → RelayResult (relayed hops lent p.behind (relay.session_at hops lent p hold) piece) p piece out q hold' out' → length hold' ≡ 261 → {r : RawStep} {s' : List ℕ} → Settles s q hold' r s'
      → Leaves (deliver (route_at s) piece out) s r s' out'
  decide_leaves {q} {hold'} {out'} v z t =
      leaves_relayed s piece out y l room w b
      (all_lent s piece out y l room w b refl (subst (λ (x : Type 0). x) (λ i. RelayResult (relayed (hops_are i) (lent_is i) (spot_is i).behind (relay.session_at (hops_are i) (lent_is i) (spot_is i) (k i)) piece) (spot_is i) piece out q hold' out') v)) z t

-- ---- settled

module _ (s piece out : List ℕ) (l : length s ≡ 8538) {n : ℕ} (q : n ≡ awaited_number (session_at (take 1306 s)).stage) (z : n ≡ 0) where
  settled_call : deliver (route_at s) piece out ≡ refusal Settled (route_at s) out
  unfolding deliver
  settled_call =
      let x = session_at s in
      let t : talk.is_over (view_at x.stage x.bound (take x.held x.hold)) ≡ true =
      over_none x.stage x.bound (take x.held x.hold) (sym (ap (λ (y : Session). awaited_number y.stage) (prefix s (omega (arith, l)))) ∙ sym q ∙ z) in
      rw t

  pub settled_leaves : {k : RawStep} → Untimely Settled s out k s out → Leaves (deliver (route_at s) piece out) s k s out
  settled_leaves {k} u =
      subst (λ (c : Call). Leaves c s k s out) (sym settled_call) (record { returned = u.returned; left = refl; means = refl; output = refl })

module _ (s out : List ℕ) (c : Call) {k : RawStep} {s' out' : List ℕ} where
  pub in_phase_over : phase_at s ≡ over → Leaves c s k s' out' → Delivers (phase_at s) c s out k s' out'
  in_phase_over p u = subst (λ (x : Phase). Delivers x c s out k s' out') (sym p) u

  pub in_phase_opened : phase_at s ≡ opened → Leaves c s k s' out' → Delivers (phase_at s) c s out k s' out'
  in_phase_opened p u = subst (λ (x : Phase). Delivers x c s out k s' out') (sym p) u

  pub in_phase_preparing : phase_at s ≡ preparing → Untimely OutOfOrder s out k s' out' → Delivers (phase_at s) c s out k s' out'
  in_phase_preparing p u = subst (λ (x : Phase). Delivers x c s out k s' out') (sym p) u
