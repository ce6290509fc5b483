-- F-10: a session of an opening over the entries of a capture tells whether the opening accepts it.
use Prim.Native.Nat.{ℕ, ◌+◌, ◌≤◌}
use native.Mathlib.Omega.{arith}
use mathlib.Core.Path.{◌≡◌, refl, ap, sym, subst, ◌∙◌}
use mathlib.Core.Logic.{◌↔◌}
use mathlib.Core.Bool.{Bool, true, false, cond, ◌&&◌, false≢true}
use mathlib.Core.List.{List, [], ◌∷◌, ◌++◌}
use lib.ListN.{length, take, drop, replicate, length-append, length-take, length-drop, length-replicate}
use lib.Dec.{leb, eqb, lit≤}
use borrow.Author.Tests.{le-leb, eq-eqb, eqb-true, eqb-false}
use Rattle.protocol.proofs.Bytes.{same_just, both_true}
use Rattle.protocol.specs.Answers.{Accepted}
use Rattle.protocol.specs.declared.Outcome.{Outcome}
use Rattle.protocol.specs.declared.Outcome.TheVariants.{Waiting, Open, Failed}
use Rattle.protocol.specs.Bytes.{Bytes, same}
use Rattle.protocol.specs.Opening.{Opening, v5, v4, no_auth, user_pass, start_room, delivery_room, Limits}
use Rattle.protocol.specs.Machine.{Machine, machine, used}
use Rattle.protocol.specs.Client as client
use Rattle.protocol.specs.Client.{kept, begun, side}
use Rattle.protocol.proofs.Client.{client_lawful, begun_shaped, machine_feed, used_feed}
use Rattle.protocol.proofs.Limits.{sent_within}
use Rattle.client_stages.specs.due.Stages.{SideSession}
use Rattle.client_session.specs.declared.Session.{Session}
use Rattle.client_session.specs.Session.{outcome}
use Rattle.client_session.specs.Calls.{Call, prepared_for, start}
use Rattle.socks.specs.Demand3.{receiver}
use Rattle.socks.proofs.InTwo.{start_begins}
use Rattle.socks.proofs.Tunnels.{Stands, step, Begun}
use Rattle.socks.proofs.Openings.{begins_stands}
use Rattle.talk.specs.Talk.{FedOf, feed, onward, reached}
use Rattle.talk.specs.Tunnel.{Delivery, lends, answer_to}
use Rattle.talk.proofs.Feed.{feed_append, feed_within, feed_ready, feed_still, onward_within}
use Rattle.talk.proofs.Deliveries.{lent}
use Rattle.captures_spec.specs.Captures as captures
use Rattle.captures_spec.specs.declared.Direction.{Direction}
use Rattle.captures_spec.specs.Captures.{sent, received, Entry, entry, joined}
use Rattle.captures_spec.proofs.Due.{grown, sent_grows, sent_more, read_before}
use Rattle.captures_spec.proofs.Entries.{Left, left_none, none_left, left_received, received_left, left_sent, sent_left, accepted_just}
use Rattle.captures.specs.Walk.{is_open, taking, passed, walked, held}

module _ (o : Opening) where
  abbrev fed : List ℕ → FedOf (side o)
  fed bs = feed (side o) (begun o) bs

  -- a session that has received bytes
  abbrev pub At : List ℕ → Session → Type 0
  At got s = Stands (delivery_room o) (kept o) s (fed got).session

  room_small : leb (delivery_room o) 778 ≡ true
  room_small = go o
    where
      go : (p : Opening) → leb (delivery_room p) 778 ≡ true
      go (v5 c d port b) = refl
      go (v4 d port) = refl

  -- ---- a delivery with output enough

  pub record Took (got bs : List ℕ) (c : Call) : Type 0 where
    pub stands : At (got ++ bs) c.session
    pub sends : take c.sent c.output ≡ grown o got bs
    pub within : c.used ≤ length bs
    pub reads : used o got ≡ length got → c.used ≡ length bs ↔ (used o (got ++ bs) ≡ length (got ++ bs))

  pub took : (got : List ℕ) (s : Session) → At got s → (d : Delivery) → lends (receiver (delivery_room o)) d ≡ true → Took got d.piece (answer_to (receiver (delivery_room o)) s d)
  unfolding grown
  took got s at d e =
      let m = (fed got).session in
      let law = client_lawful (kept o) in
      let w = step (delivery_room o) (kept o) s m at d in
      let l = lent (side o) law (delivery_room o) m d (feed_still (side o) law (begun o) (begun_shaped o) got) e in
      let a = feed_append (side o) law (begun o) (begun_shaped o) got d.piece in
      let ready = feed_ready (side o) law (begun o) (begun_shaped o) got d.piece in
      let uses = w.used ∙ l.used in
      let before = used_feed o got in
      let after : used o (got ++ d.piece) ≡ (fed got).place + reached (onward (side o) m d.piece) = used_feed o (got ++ d.piece) ∙ ap reached a ∙ omega arith in
      let long = length-append got d.piece in
      record {
        stands = subst (λ (n : SideSession). Stands (delivery_room o) (kept o) (answer_to (receiver (delivery_room o)) s d).session n) (l.session ∙ sym (ap (λ (f : FedOf (side o)). f.session) a)) w.session;
        sends = w.sent ∙ l.sent;
        within = omega (arith, uses, onward_within (side o) law m d.piece);
        reads = λ u. (λ q. omega (arith, uses, before, after, long, ready, u, q), λ q. omega (arith, uses, before, after, long, ready, u, q));
      }

  pub took_all : (got : List ℕ) (s : Session) → At got s → (bs : List ℕ) → Took got bs (taking s bs)
  unfolding taking
  took_all got s at bs = took got s at (record { piece = bs; output = replicate 778 0 }) (rw (length-replicate {A = ℕ} 778 0) room_small)

  -- ---- over the entries

  open_just : (x : Outcome) → is_open x ≡ true ↔ (x ≡ Open)
  open_just Waiting = (λ q. absurd (false≢true q), λ q. let z : ◌≡◌ {A = ℕ} 0 1 = cc in absurd (omega arith))
  open_just Open = (λ q. refl, λ q. refl)
  open_just (Failed e) = (λ q. absurd (false≢true q), λ q. let z : ◌≡◌ {A = ℕ} 0 1 = cc in absurd (omega arith))

  pub outcome_at : (got : List ℕ) (s : Session) → At got s → outcome s ≡ (machine o got).outcome
  outcome_at got s at = ap client.outcome_of at.seen ∙ ap (λ (m : Machine). m.outcome) (sym (machine_feed o got))

  within_part : (bs due : List ℕ) (n : ℕ) → n ≤ length due → bs ≡ take (length bs) (drop n due) → n + length bs ≤ length due
  within_part bs due n h e = omega (arith, ap length e, length-take (length bs) (drop n due), length-drop n due)

  module _ (limits : Limits o) where
    due_small : (got : List ℕ) → leb (length (machine o got).sent) 1024 ≡ true
    due_small got = le-leb (length (machine o got).sent) 1024 (go o (sent_within o limits got))
      where
        go : (p : Opening) → length (machine o got).sent ≤ start_room p → length (machine o got).sent ≤ 1024
        go (v5 c d port b) h = omega arith
        go (v4 d port) h = h

    -- the session has received bytes, all of them are read, and so many of those that are due were sent
    pub record Behind (got : List ℕ) (s : Session) (due : List ℕ) (n : ℕ) : Type 0 where
      pub stands : At got s
      pub owes : due ≡ (machine o got).sent
      pub within : n ≤ length due
      pub reads : used o got ≡ length got

    abbrev Tells : List Entry → Type 0
    Tells es = (got : List ℕ) (s : Session) (due : List ℕ) (n : ℕ) → Behind got s due n → walked es s due n ≡ true ↔ Left o got n es

    tells_none : Tells []
    unfolding walked
    tells_none got s due n b = (there, back)
      where
        there : (is_open (outcome s) && eqb n (length due)) ≡ true → Left o got n []
        there q =
            let (p, r) = both_true (is_open (outcome s)) (eqb n (length due)) q in
            let e : n ≡ length (machine o got).sent = eqb-true n (length due) r ∙ ap length b.owes in
            rw e (left_none o got b.reads (sym (outcome_at got s b.stands) ∙ (open_just (outcome s)).0 p))

        back : Left o got n [] → (is_open (outcome s) && eqb n (length due)) ≡ true
        back l =
            let (q, e) = none_left o got n (rw (← b.owes) b.within) l in
            rw ((open_just (outcome s)).1 (outcome_at got s b.stands ∙ q), eq-eqb n (length due) (e ∙ sym (ap length b.owes)))

    tells_sent : (bs : List ℕ) (es : List Entry) → Tells es → (got : List ℕ) (s : Session) (due : List ℕ) (n : ℕ) → Behind got s due n
        → passed sent bs s due n (walked es) ≡ true ↔ Left o got n (entry sent bs ∷ es)
    tells_sent bs es ih got s due n b = go (same bs (take (length bs) (drop n due))) refl
      where
        go : (t : Bool) → same bs (take (length bs) (drop n due)) ≡ t → cond t (walked es s due (n + length bs)) false ≡ true ↔ Left o got n (entry sent bs ∷ es)
        go true q =
            let e = (same_just bs (take (length bs) (drop n due))).0 q in
            let h = within_part bs due n b.within e in
            let i = ih got s due (n + length bs) (record { stands = b.stands; owes = b.owes; within = h; reads = b.reads }) in
            (λ w. left_sent o got bs n es (rw (← b.owes) h) (rw (← b.owes) e) (i.0 w), λ l. i.1 (sent_left o got bs n es l).behind)
        go false q = (
          λ w. absurd (false≢true w),
          λ l. absurd (false≢true (sym q ∙ (same_just bs (take (length bs) (drop n due))).1 (rw b.owes (sent_left o got bs n es l).are))),
        )

    tells_received : (bs : List ℕ) (es : List Entry) → Tells es → (got : List ℕ) (s : Session) (due : List ℕ) (n : ℕ) → Behind got s due n
        → passed received bs s due n (walked es) ≡ true ↔ Left o got n (entry received bs ∷ es)
    tells_received bs es ih got s due n b =
        let z : leb (length due) 1024 ≡ true = rw b.owes (due_small got) in
        rw z (go (eqb (taking s bs).used (length bs)) refl)
      where
        t : Took got bs (taking s bs)
        t = took_all got s b.stands bs

        go : (y : Bool) → eqb (taking s bs).used (length bs) ≡ y
            → cond y (walked es (taking s bs).session (due ++ take (taking s bs).sent (taking s bs).output) n) false ≡ true ↔ Left o got n (entry received bs ∷ es)
        go true q =
            let h : n ≤ length (machine o got).sent = rw (← b.owes) b.within in
            let e : due ++ take (taking s bs).sent (taking s bs).output ≡ (machine o (got ++ bs)).sent = rw (b.owes, t.sends) (sym (sent_grows o got bs)) in
            let i =
            ih (got ++ bs) (taking s bs).session _ n
            (record { stands = t.stands; owes = e; within = rw e (omega (arith, sent_more o got bs)); reads = (t.reads b.reads).0 (eqb-true (taking s bs).used (length bs) q) }) in
            (λ w. left_received o got bs n es h (i.0 w), λ l. i.1 (received_left o got bs n es l))
        go false q = (
          λ w. absurd (false≢true w),
          λ l. absurd (eqb-false (taking s bs).used (length bs) q ((t.reads b.reads).1 (read_before o (got ++ bs) (joined received es) (received_left o got bs n es l).reads))),
        )

    tells_by : (d : Direction) (bs : List ℕ) (es : List Entry) → Tells es → (got : List ℕ) (s : Session) (due : List ℕ) (n : ℕ) → Behind got s due n
        → passed d bs s due n (walked es) ≡ true ↔ Left o got n (entry d bs ∷ es)
    tells_by sent = tells_sent
    tells_by received = tells_received

    pub tells : (es : List Entry) → Tells es
    unfolding walked
    tells [] = tells_none
    tells (e ∷ es) = tells_by e.direction e.bytes es (tells es)

    -- ---- from a prepared session

    starts : (out : List ℕ) → 1024 ≤ length out → (start (prepared_for o) out).answer ≡ Accepted
    unfolding start
    starts out h = go o
      where
        go : (p : Opening) → (start (prepared_for p) out).answer ≡ Accepted
        go (v5 no_auth d port b) = rw (le-leb 778 (length out) (omega arith))
        go (v5 (user_pass u p) d port b) = rw (le-leb 778 (length out) (omega arith))
        go (v4 d port) = rw (le-leb 1024 (length out) h)

    pub begun_behind : (s : Session) (due : List ℕ) → Begun o s due → Behind [] s due 0
    begun_behind s due b =
        record {
          stands = b.stands;
          owes = b.sends ∙ ap (λ (m : Machine). m.sent) (sym (machine_feed o []));
          within = omega arith;
          reads = omega (arith, used_feed o [], feed_within (side o) (client_lawful (kept o)) (begun o) []);
        }

    pub held_just : (es : List Entry) → Bytes (joined received es) → held (prepared_for o) es ≡ true ↔ captures.Accepted o es
    unfolding held
    held_just es y =
        let out = replicate {A = ℕ} 1802 0 in
        let q = start_begins o out (starts out (rw (length-replicate {A = ℕ} 1802 0) (lit≤ tt))) limits in
        let b = subst (λ (c : Call). Begun o c.session (take c.sent c.output)) (sym q) (begins_stands o limits out) in
        let i = tells es [] _ _ 0 (begun_behind _ _ b) in
        let j = accepted_just o es y in
        (λ w. j.1 (i.0 w), λ a. i.1 (j.0 a))
