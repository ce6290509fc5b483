-- A route wants what its talks in a row lack behind the joined bytes.
use Prim.Native.Nat.{ℕ, zero, suc, ◌+◌, ◌≤◌, ◌<◌}
use native.Mathlib.Nat.{add-zero}
use native.Mathlib.Omega.{arith}
use mathlib.Core.Path.{◌≡◌, refl, ap, sym, subst, ◌∙◌}
use mathlib.Core.Bool.{Bool, true, false, cond, true≢false}
use mathlib.Core.List.{List, [], ◌∷◌, ◌++◌, map, append_assoc, append-nil}
use lib.ListN.{length, drop, length-append}
use lib.Dec.{leb}
use borrow.Author.Tests.{leb-true, leb-false}
use Rattle.protocol.specs.declared.SocksError.TheVariants.{Settled, ShortOutput}
use Rattle.protocol.specs.declared.Bound.{Bound}
use Rattle.protocol.specs.declared.Outcome.TheVariants.{Waiting, Open}
use Rattle.protocol.specs.declared.Reply.{Reply}
use Rattle.protocol.specs.declared.Reply.TheVariants.{NegotiationRes, AuthenticationRes, ProxyRes, Response}
use Rattle.protocol.specs.Answers.{Undecided}
use Rattle.protocol.specs.Bytes.{Bytes, BytePieces}
use Rattle.protocol.specs.Bound.{Endpoint, unbound}
use Rattle.protocol.specs.Opening.{no_auth, user_pass, Opening, v5, v4, first_reply}
use Rattle.protocol.specs.Replies.{proxy_at, decide}
use Rattle.protocol.specs.Machine.{Machine}
use Rattle.protocol.specs.Client.{Kept, talk_at, client, kept, begun, side, outcome_of}
use Rattle.protocol.specs.Wants.{Least}
use Rattle.protocol.proofs.Bytes.{bytes_join, bytes_left, bytes_right, joined_bytes}
use Rattle.protocol.proofs.Client.{client_lawful}
use Rattle.protocol.proofs.Wants.{least_same, further, Rest, Ends, Lacks, least_done, WantsIn, wanted, waits_undecided, uses_all}
use Rattle.client_delivery.specs.wants.Wants.{begins_with, lacking, wants_for, wants_at}
use Rattle.client_delivery.specs.wants.Still.{response_still, good_still, still_at}
use Rattle.client_delivery.proofs.wants.Client.{undecided_is, lacks, wants_some}
use Rattle.client_stages.specs.declared.due.Stage.{Stage}
use Rattle.client_stages.specs.declared.due.Stage.TheVariants.{Awaiting, Open as OpenStage, Failed}
use Rattle.client_stages.specs.due.Stages.{SideSession, view_at}
use Rattle.client_session.specs.Session.{view, held_bytes}
use Rattle.route_delivery.specs.declared.Hop as relaying
use Rattle.route_delivery.specs.Relay.{hop_at}
use Rattle.route_session.specs.declared.calls.Route.{Route}
use Rattle.route_session.specs.calls.Calls.{behind_in, session_in, outcome, shortest_behind, wants, deliver}
use Rattle.route.specs.Routed.{receiver, tunnel_of, joined_of}
use Rattle.route.specs.Wants.{AnyWants, WantedInTurn, Reads, shortest_of, shortest_row, ReadThrough}
use Rattle.route.proofs.Refusals.{opened_some}
use Rattle.route.proofs.Tunnels.{Stands, step, Begun, followed, stands_outcome}
use Rattle.route.proofs.Openings.{opened_begun}
use Rattle.route.proofs.Relays.{ahead_of, stands_at}
use Rattle.route_spec.specs.Hops.{Hop, hop_of, RouteStage, at, on_through, route_reads, route_at, route_side, RouteTalk, route_talk, RouteSession, RouteFed, outcome_in}
use Rattle.route_spec.specs.Route.{room_for, openings, machines, used_in_turn, Sequences}
use Rattle.route_spec.proofs.Lawful.{route_lawful, at_feed, through_none, through_shaped}
use Rattle.route_spec.proofs.Steps.{through_begins}
use Rattle.route_spec.proofs.Sequences.{in_turn_just, in_turn_one, row_length}
use Rattle.route_spec.proofs.Machines.{begun_through, machines_feed, used_in_turn_lem}
use Rattle.talk.specs.Talk.{done, failed, waiting, ended, feed, is_over, reached}
use Rattle.talk.specs.Lawful.{Accepts}
use Rattle.talk.specs.Tunnel as tunnels
use Rattle.talk.specs.Tunnel.{Delivery, answer_to}
use Rattle.talk.proofs.Feed.{feed_ready, feed_still}
use Rattle.talk.specs.Graft.{graft, then_on}
use Rattle.talk.proofs.Accept.{opens, parsed}
use Rattle.talk.proofs.Graft as row

-- ---- a proxy's talk, with those behind it

-- undecided bytes leave it waiting
waits_at : (c : Kept) (e : Reply) (h : List ℕ) → decide e h ≡ Undecided → (feed (client c) (talk_at c e) h).session ≡ waiting e h
unfolding feed
waits_at c (NegotiationRes m) h u = rw u
waits_at c AuthenticationRes h u = rw u
waits_at c ProxyRes h u = rw u
waits_at c Response h u = rw u

module _ (c : Kept) (hs : List Hop) (e : Reply) (h : List ℕ) (u : decide e h ≡ Undecided) where
  -- what it is done with goes on from the bytes that are held
  behind_held : (bs p f : List ℕ) (y : Endpoint) → h ++ bs ≡ p ++ f → Accepts (client c) (talk_at c e) p y → (a : List ℕ) × (p ≡ h ++ a) × (bs ≡ a ++ f)
  behind_held bs p f y q a = further h bs p f q (go (leb (length h) (length p)) refl)
    where
      go : (b : Bool) → leb (length h) (length p) ≡ b → length h ≤ length p
      go true r = leb-true (length h) (length p) r
      go false r =
          let k = leb-false (length h) (length p) r in
          let (i, m, n) = further p f h bs (sym q) (omega arith) in
          let d = opens (client c) (client_lawful c) (talk_at c e) h p y (i, m) a in
          let z = sym (waits_at c e h u) ∙ d.session in
          let w : ◌≡◌ {A = ℕ} 0 1 = cc in
          absurd (omega arith)

  module _ (n j : ℕ) (next : (x : Endpoint) → Least (Rest route_side route_lawful (on_through hs x) []) j) where
    split : (bs : List ℕ) (x : Endpoint) → Accepts route_side (route_at (at c hs e)) (h ++ bs) x
        → (a : List ℕ) × (l : List ℕ) × (y : Endpoint) × (bs ≡ a ++ l) × Accepts (client c) (talk_at c e) (h ++ a) y × Accepts route_side (on_through hs y) l x
    unfolding route_at
    split bs x w =
        let b = row.graft_accepts (client c).reads (talk_at c) route_reads route_at Settled ShortOutput (at c hs) (λ s bs. refl) (on_through hs) (talk_at c e) (h ++ bs) x w in
        let (a, p, q) = behind_held bs b.first b.second b.result b.split b.one in
        (a, b.second, b.result, q, rw p at b.one, b.two)

    joins : (a l : List ℕ) (y x : Endpoint) → Accepts (client c) (talk_at c e) (h ++ a) y → Accepts route_side (on_through hs y) l x → Accepts route_side (route_at (at c hs e)) (h ++ (a ++ l)) x
    unfolding route_at
    joins a l y x p q =
        rw (append_assoc h a l) at (row.accepts_graft (client c).reads (talk_at c) route_reads route_at Settled ShortOutput (at c hs) (λ s bs. refl) (on_through hs) (talk_at c e) (h ++ a) l y x p q)

    -- it has ended where the proxy has, unless that is open
    over_on : (v : SideSession) (sent : List ℕ) (place : ℕ) (on : Endpoint → RouteFed) → ((y : Endpoint) → v ≡ ended (done y) → ⊥) → is_over (then_on (at c hs) v sent place on).session ≡ is_over v
    over_on (waiting s g) sent place on f = refl
    over_on (ended (failed x)) sent place on f = refl
    over_on (ended (done y)) sent place on f = absurd (f y refl)

    ends_first : (v : SideSession) (sent : List ℕ) (place : ℕ) (on : Endpoint → RouteFed) → is_over (then_on (at c hs) v sent place on).session ≡ true → is_over v ≡ true
    ends_first (waiting s g) sent place on q = q
    ends_first (ended x) sent place on q = refl

    pub lacks_row : (b : Bool) → Lacks (client c) (client_lawful c) (talk_at c e) h n b → Lacks route_side route_lawful (route_at (at c hs e)) h (n + cond b j 0) b
    lacks_row true l =
        let g = l.completes refl in
        let (y, k) = g.is in
        let r = next y in
        record {
          completes = λ q. record {
            stream = g.stream ++ r.stream;
            bytes = bytes_join g.stream r.stream g.bytes r.bytes;
            is = (r.is.0, joins g.stream r.stream y r.is.0 k r.is.1);
            long = omega (arith, length-append g.stream r.stream, g.long, r.long);
            none_shorter = λ bs z (x, w).
                let (a, m, y', s, p, t) = split bs x w in
                let z' = rw s at z in
                omega (arith, g.none_shorter a (bytes_left a m z') (y', p), (next y').none_shorter m (bytes_right a m z') (x, t), ap length s, length-append a m);
          };
          none = λ q. absurd (true≢false q);
          settles = λ q. absurd (true≢false q);
        }
    lacks_row false l =
        let k : n + 0 ≡ n = add-zero n in
        record {
          completes = λ q. absurd (true≢false (sym q));
          none = λ q (bs, z, (x, w)). let (a, m, y, s, p, t) = split bs x w in l.none refl (a, bytes_left a m (rw s at z), (y, p));
          settles = λ q. rw k (least_same (λ bs z o. there bs z o) (λ bs z o. back bs o) (l.settles refl));
        }
      where
        undone : (bs : List ℕ) → Bytes bs → (y : Endpoint) → (feed (client c) (talk_at c e) (h ++ bs)).session ≡ ended (done y) → ⊥
        undone bs z y q =
            let (p, (f, s), a) = parsed (client c) (client_lawful c) (talk_at c e) (h ++ bs) y q in
            let (i, m, t) = behind_held bs p f y s a in
            l.none refl (i, bytes_left i f (rw t at z), (y, rw m at a))

        there : (bs : List ℕ) → Bytes bs → Ends (client c) (client_lawful c) (talk_at c e) h bs → Ends route_side route_lawful (route_at (at c hs e)) h bs
        there bs z o =
            let f = feed (client c) (talk_at c e) (h ++ bs) in
            rw (at_feed c hs e (h ++ bs)) (over_on f.session f.sent f.place _ (undone bs z) ∙ o)

        back : (bs : List ℕ) → Ends route_side route_lawful (route_at (at c hs e)) h bs → Ends (client c) (client_lawful c) (talk_at c e) h bs
        back bs o =
            let f = feed (client c) (talk_at c e) (h ++ bs) in
            ends_first f.session f.sent f.place _ (rw (at_feed c hs e (h ++ bs)) at o)

-- ---- the proxies behind

unfoldable rest_of : List Hop → ℕ
rest_of [] = 0
rest_of (h ∷ hs) = wants_for h.first [] + rest_of hs

nothing_decided : (e : Reply) → decide e [] ≡ Undecided
unfolding decide proxy_at
nothing_decided (NegotiationRes m) = refl
nothing_decided AuthenticationRes = refl
nothing_decided ProxyRes = refl
nothing_decided Response = refl

first_good : (o : Opening) → good_still (first_reply o) [] ≡ true
unfolding begins_with response_still
first_good (v5 no_auth d port o) = refl
first_good (v5 (user_pass u p) d port o) = refl
first_good (v4 d port) = refl

first_lacks : (o : Opening) → Lacks (client (kept o)) (client_lawful (kept o)) (talk_at (kept o) (first_reply o)) [] (wants_for (first_reply o) []) true
first_lacks o = rw (first_good o) at (lacks (kept o) (first_reply o) [] (nothing_decided (first_reply o)))

least_through : (os : List Opening) (x : Endpoint) → Least (Rest route_side route_lawful (on_through (map hop_of os) x) []) (rest_of (map hop_of os))
unfolding on_through graft route_at rest_of
least_through [] x = least_done route_side route_lawful x
least_through (o ∷ os) x =
    let e = first_reply o in
    (lacks_row (kept o) (map hop_of os) e [] (nothing_decided e) (wants_for e []) (rest_of (map hop_of os)) (least_through os) true (first_lacks o)).completes refl

-- ---- where a route stands

-- behind the proxy that is spoken to stand openings
abbrev Ahead : RouteStage → Type 0
Ahead (at c hs e) = (os : List Opening) × (hs ≡ map hop_of os)

ahead : (os : List Opening) (x : Endpoint) (bs : List ℕ) (s : RouteStage) (h : List ℕ) → (feed route_side (on_through (map hop_of os) x) bs).session ≡ waiting s h → Ahead s
ahead [] x bs s h q =
    let z = sym (ap (λ (f : RouteFed). f.session) (through_none x bs)) ∙ q in
    let w : ◌≡◌ {A = ℕ} 0 1 = cc in
    absurd (omega arith)
ahead (o ∷ os) x bs s h q =
    let f = feed (side o) (begun o) bs in
    go f.session (sym (ap (λ (g : RouteFed). g.session) (begun_through o (map hop_of os) x bs)) ∙ q) (λ y. ahead os y (drop f.place bs) s h)
  where
    go : (v : SideSession)
        → (let f = feed (side o) (begun o) bs in
        (then_on (at (kept o) (map hop_of os)) v f.sent f.place (λ y. feed route_side (on_through (map hop_of os) y) (drop f.place bs))).session ≡ waiting s h)
        → ((y : Endpoint) → (feed route_side (on_through (map hop_of os) y) (drop (feed (side o) (begun o) bs).place bs)).session ≡ waiting s h → Ahead s) → Ahead s
    go (waiting e g) w ih = let z : at (kept o) (map hop_of os) e ≡ s = cc in subst Ahead z (os, refl)
    go (ended (done y)) w ih = ih y w
    go (ended (failed y)) w ih = let z : ◌≡◌ {A = ℕ} 0 1 = cc in absurd (omega arith)

-- what it wants there
abbrev wants_of : RouteSession → ℕ
wants_of (waiting (at c hs e) h) = wants_for e h + cond (good_still e h) (rest_of hs) 0
wants_of (ended x) = 0

module _ (os : List Opening) (came : List ℕ) where
  abbrev fed_with : RouteSession
  fed_with = (feed route_side (route_talk (map hop_of os)) came).session

  wants_in : (m : RouteSession) → fed_with ≡ m → WantsIn route_side route_lawful m (wants_of m)
  wants_in (waiting (at c hs e) h) q =
      let u = undecided_is (decide e h) (waits_undecided route_side route_lawful (route_talk (map hop_of os)) came (at c hs e) h q) in
      let (later, a) = ahead os unbound came (at c hs e) h q in (
        good_still e h,
        subst (λ (hs : List Hop). Lacks route_side route_lawful (route_at (at c hs e)) h (wants_for e h + cond (good_still e h) (rest_of hs) 0) (good_still e h)) (sym a)
            (lacks_row c (map hop_of later) e h u (wants_for e h) (rest_of (map hop_of later)) (least_through later) (good_still e h) (lacks c e h u)),
      )
  wants_in (ended x) q = refl

-- as its value has it
rest_same : (hops : List relaying.Hop) (bytes : List ℕ) (n : ℕ) → rest_of (ahead_of hops bytes n) ≡ shortest_behind hops n
unfolding rest_of ahead_of shortest_behind
rest_same hops bytes zero = refl
rest_same hops bytes (suc n) = ap (λ (k : ℕ). wants_for (hop_at hops n).first [] + k) (rest_same hops bytes n)

at_view : (hops : List relaying.Hop) (bytes : List ℕ) (n : ℕ) (stage : Stage) (b : Bound) (h : List ℕ)
    → wants_at stage true h + cond (still_at stage h) (shortest_behind hops n) 0 ≡ wants_of (stands_at hops bytes n (view_at stage b h))
at_view hops bytes n (Awaiting e) b h = ap (λ (k : ℕ). wants_for e h + cond (good_still e h) k 0) (sym (rest_same hops bytes n))
at_view hops bytes n OpenStage b h = refl
at_view hops bytes n (Failed x) b h = refl

wants_seen : (r : Route) → wants r ≡ wants_of (stands_at r.hops r.bytes (behind_in r) (view (session_in r)))
wants_seen r = at_view r.hops r.bytes (behind_in r) r.stage r.bound (held_bytes (session_in r))

-- ---- of every route value

settled_wants : (stage : Stage) (b : Bound) (h : List ℕ) (k : ℕ) → (outcome_of (view_at stage b h) ≡ Waiting → ⊥) → wants_at stage true h + cond (still_at stage h) k 0 ≡ 0
settled_wants (Awaiting e) b h k f = absurd (f refl)
settled_wants OpenStage b h k f = refl
settled_wants (Failed x) b h k f = refl

waiting_wants : (stage : Stage) (b : Bound) (h : List ℕ) (k : ℕ) → outcome_of (view_at stage b h) ≡ Waiting → 1 ≤ wants_at stage true h + cond (still_at stage h) k 0
waiting_wants (Awaiting e) b h k q = omega (arith, wants_some e h)
waiting_wants OpenStage b h k q = let z : ◌≡◌ {A = ℕ} 0 1 = cc in absurd (omega arith)
waiting_wants (Failed x) b h k q = let z : ◌≡◌ {A = ℕ} 0 1 = cc in absurd (omega arith)

pub any_wants : (r : Route) → AnyWants r
any_wants r =
    record {
      settled = settled_wants r.stage r.bound (held_bytes (session_in r)) (shortest_behind r.hops (behind_in r));
      some = waiting_wants r.stage r.bound (held_bytes (session_in r)) (shortest_behind r.hops (behind_in r));
    }

-- ---- by the grammars in a row and the machines in turn

begins_all : (p f l : List ℕ) → l ≡ p ++ f → length p ≡ length l → p ≡ l
begins_all p [] l e k = sym (e ∙ append-nil p)
begins_all p (c ∷ f) l e k = absurd (omega (arith, ap length e, length-append p (c ∷ f)))

in_open : (m : RouteSession) → outcome_in m ≡ Open → (y : Endpoint) × (m ≡ ended (done y))
in_open (waiting s h) q = let z : ◌≡◌ {A = ℕ} 0 1 = cc in absurd (omega arith)
in_open (ended (done y)) q = (y, refl)
in_open (ended (failed x)) q = let z : ◌≡◌ {A = ℕ} 0 1 = cc in absurd (omega arith)

done_reached : (f : RouteFed) (y : Endpoint) → f.session ≡ ended (done y) → reached f ≡ f.place
done_reached f y q = rw q (add-zero f.place)

over_not : (m : RouteSession) → is_over m ≡ true → outcome_in m ≡ Waiting → ⊥
over_not (waiting s h) w q = true≢false (sym w)
over_not (ended (done y)) w q = let z : ◌≡◌ {A = ℕ} 0 1 = cc in omega arith
over_not (ended (failed x)) w q = let z : ◌≡◌ {A = ℕ} 0 1 = cc in omega arith

not_over : (m : RouteSession) → (outcome_in m ≡ Waiting → ⊥) → is_over m ≡ true
not_over (waiting s h) f = absurd (f refl)
not_over (ended x) f = refl

module _ (o : Opening) (os : List Opening) where
  abbrev t : RouteTalk
  t = route_talk (map hop_of (o ∷ os))

  outcome_feed : (l : List ℕ) → (machines (o ∷ os) l).outcome ≡ outcome_in (feed route_side t l).session
  outcome_feed l = ap (λ (m : Machine). m.outcome) (machines_feed o os l)

  row_of : (l : List ℕ) (x : Endpoint) → Bytes l → Accepts route_side t l x → (z : Endpoint) × Sequences (o ∷ os) l z
  row_of l x y a =
      let d = opens route_side route_lawful t l l x ([], sym (append-nil l)) a in
      let j = in_turn_one o os l y (outcome_feed l ∙ rw d.session) in
      let n : used_in_turn (o ∷ os) l ≡ length l = used_in_turn_lem o os l ∙ done_reached (feed route_side t l) x d.session ∙ d.place in
      let (f, b) = j.begins in
      let e = begins_all j.begin f l b (sym j.long ∙ n) in
      ((machines (o ∷ os) l).bound, rw e at j.is)

  row_is : (l : List ℕ) (x : Endpoint) → Bytes l → Sequences (o ∷ os) l x → (z : Endpoint) × Accepts route_side t l z
  row_is l x y s =
      let q = (in_turn_just o os l y).1 (l, x, ([], sym (append-nil l)), s) in
      let n : used_in_turn (o ∷ os) l ≡ length l = row_length (in_turn_one o os l y q) l x ([], sym (append-nil l)) s in
      let (z, e) = in_open (feed route_side t l).session (sym (outcome_feed l) ∙ q) in
      let (p, (f, b), a) = parsed route_side route_lawful t l z e in
      let d = opens route_side route_lawful t l p z (f, b) a in
      let m : used_in_turn (o ∷ os) l ≡ length p = used_in_turn_lem o os l ∙ done_reached (feed route_side t l) z e ∙ d.place in
      (z, rw (begins_all p f l b (sym m ∙ n)) at a)

  abbrev room : ℕ
  room = room_for (length (o ∷ os))

  module _ (r : Route) (came : List ℕ) (y : Bytes came) (w : Stands room r (feed route_side t came).session) where
    wants_are : WantsIn route_side route_lawful (feed route_side t came).session (wants r)
    wants_are = rw (wants_seen r, w.seen) (wants_in (o ∷ os) came (feed route_side t came).session refl)

    wanted_by : WantedInTurn (o ∷ os) came (wants r)
    wanted_by =
        wanted route_side route_lawful t (through_shaped (map hop_of (o ∷ os)) unbound) came
        (λ bs z (x, a). row_of (came ++ bs) x (bytes_join came bs y z) a)
        (λ bs z (x, s). row_is (came ++ bs) x (bytes_join came bs y z) s)
        (λ bs v q. over_not (feed route_side t (came ++ bs)).session v (sym (outcome_feed (came ++ bs)) ∙ q))
        (λ bs f. not_over (feed route_side t (came ++ bs)).session (λ q. f (outcome_feed (came ++ bs) ∙ q)))
        (wants r) wants_are

    past : (piece out : List ℕ) → Bytes piece → length piece ≤ wants r → outcome (deliver r piece out).session ≡ Open → (deliver r piece out).used ≡ length piece
    past piece out z l q =
        let d : Delivery = record { piece = piece; output = out } in
        let m = (feed route_side t came).session in
        let a = step room r m w d in
        let n = (answer_to (tunnels.receiver route_side room) m d).session in
        let (x, e) = in_open n (sym (stands_outcome a.session) ∙ q) in
        uses_all route_side route_lawful room (Stands room) (receiver room) (step room) r m w (feed_ready route_side route_lawful t (through_shaped (map hop_of (o ∷ os)) unbound) came)
        (feed_still route_side route_lawful t (through_shaped (map hop_of (o ∷ os)) unbound) came) (wants r) wants_are d z l x e

    reads : Reads (o ∷ os) r came
    reads = record { wanted = wanted_by; never_past = past; some = (any_wants r).some }

-- ---- of every route that is accepted

reads_some : (os : List Opening) → 0 < length os → (r : Route) (sent : List ℕ) → Begun os r sent → (ds : List Delivery) → BytePieces ds → Reads os (tunnel_of os r sent ds).session (joined_of os ds)
reads_some [] h r sent b ds y = absurd (omega arith)
reads_some (o ∷ os) h r sent b ds y = reads o os _ (joined_of (o ∷ os) ds) (joined_bytes (receiver (room_for (length (o ∷ os)))) ds y) (followed (o ∷ os) r sent b ds).stands

first_shortest : (o : Opening) → wants_for (first_reply o) [] ≡ shortest_of o
unfolding lacking begins_with
first_shortest (v5 no_auth d port o) = refl
first_shortest (v5 (user_pass u p) d port o) = refl
first_shortest (v4 d port) = refl

rest_row : (os : List Opening) → rest_of (map hop_of os) ≡ shortest_row os
unfolding rest_of shortest_row
rest_row [] = refl
rest_row (o ∷ os) = λ i. first_shortest o i + rest_row os i

-- ahead of any byte: the sum
begins_with_lem : (os : List Opening) → 0 < length os → (r : Route) (sent : List ℕ) → Begun os r sent → wants r ≡ shortest_row os
unfolding shortest_row
begins_with_lem [] h r sent b = absurd (omega arith)
begins_with_lem (o ∷ os) h r sent b =
    wants_seen r ∙ ap wants_of (b.stands.seen ∙ ap (λ (f : RouteFed). f.session) (through_begins (hop_of o) (map hop_of os) unbound))
    ∙ rw (first_good o) (λ i. first_shortest o i + rest_row os i)

pub read_through : ReadThrough
read_through a out q =
    record {
      begins = begins_with_lem (openings a) (opened_some a out q) _ _ (opened_begun a out q);
      reads = reads_some (openings a) (opened_some a out q) _ _ (opened_begun a out q);
    }
