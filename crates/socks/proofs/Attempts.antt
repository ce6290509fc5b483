-- F-11: a tunnel's session carries the attempts that the plain machine's decisions come to, within its bounds.
use Prim.Native.Nat.{ℕ, ◌+◌, ◌-◌, ◌%◌, ◌^◌, ◌≤◌, ◌<◌}
use native.Mathlib.Omega.{arith}
use mathlib.Core.Path.{◌≡◌, refl, ap, sym, subst, ◌∙◌}
use mathlib.Core.Bool.{Bool, true, false, cond, not, ◌&&◌, true≢false}
use mathlib.Core.List.{List, [], ◌∷◌, ◌++◌, append_assoc, append-nil}
use lib.ListN.{length}
use lib.Dec.{leb, ltb}
use borrow.Author.Tests.{lt-ltb, not-true}
use Rattle.protocol.specs.Answers.{Answer, Accepted, Refused}
use Rattle.protocol.specs.declared.SocksError.TheVariants.{ShortOutput, Settled, OutOfOrder}
use Rattle.protocol.specs.Opening.{V5, V4, check5, check4, Opening, opening5, opening4, delivery_room, Limits, Sixteen}
use Rattle.protocol.specs.Machine.{Machine, machine, decided_on}
use Rattle.protocol.specs.Client as client
use Rattle.protocol.specs.Client.{Waits}
use Rattle.protocol.proofs.Tests.{both}
use Rattle.protocol.proofs.Client.{client_lawful, begun_shaped, machine_feed, decided_feed, decided_three}
use Rattle.protocol.proofs.Bytes.{joined_bytes}
use Rattle.protocol.proofs.Limits.{limits5, limits4}
use Rattle.client_stages.specs.due.Parts.{requests_of}
use Rattle.client_stages.specs.due.Stages.{SideSession, holds_of}
use Rattle.client_stages.proofs.due.Held.{begun_held}
use Rattle.client_session.specs.declared.Session.{Session}
use Rattle.client_session.specs.Session.{view, held_bytes, room_at}
use Rattle.client_session.specs.Calls.{Call, refusal, takes, deliver, start, prepared_by, prepare5, prepare4}
use Rattle.socks.specs.Demand3.{receiver}
use Rattle.protocol.specs.Bytes.{BytePieces}
use Rattle.socks.specs.Attempts.{one_if, is_waiting, is_accepted, has_byte, lends_for, counts, attempts_at, attempts_of, accepted_in, held_of, held_on, Effort, Tried}
use Rattle.protocol.proofs.Openings.{clash}
use Rattle.socks.proofs.InTwo.{start_begins}
use Rattle.socks.proofs.Tunnels.{Stands, asks_same, step}
use Rattle.socks.proofs.Openings.{begins_stands}
use Rattle.talk.specs.Talk as talk
use Rattle.talk.specs.Talk.{Side, SessionOf, waiting, ended, is_over, onward, feed}
use Rattle.talk.specs.Tunnel as side
use Rattle.talk.specs.Tunnel.{Delivery, answer_to, after, joined}
use Rattle.talk.specs.Attempts.{decided_by, one_if_waiting, attempts_by}
use Rattle.talk.proofs.Feed.{feed_append, feed_still, feed_exact}
use Rattle.talk.proofs.Deliveries.{lent, unlent}
use Rattle.talk.proofs.Attempts.{decided_append}

-- ---- what a delivery adds, by the session that it finds

abbrev attempts_given : (M : Side) → SessionOf M → List ℕ → ℕ
attempts_given M m [] = 0
attempts_given M m (b ∷ bs) = attempts_by M m (b ∷ bs)

abbrev added : (M : Side) → SessionOf M → Bool → List ℕ → ℕ
added M m lends piece = cond (is_over m) 0 (cond lends (attempts_given M m piece) 0)

none_more : (a : ℕ) → a < 2 ^ 64 → a ≡ (a + 0) % 2 ^ 64
none_more a h = omega arith

module _ (r : ℕ) (s : Session) (g : s.started ≡ true) (w : Waits r (view s)) (x : s.held ≡ length (holds_of (view s))) where
  -- a piece that lends what is asked to a session that waits is accepted
  delivery_accepts : (d : Delivery) → is_over (view s) ≡ false → leb r (length d.output) ≡ true → (answer_to (receiver r) s d).answer ≡ Accepted
  unfolding deliver
  delivery_accepts d o l =
      go (is_over (view s)) s.started (leb (room_at s.stage) (length d.output)) o g
      (ap (λ (n : ℕ). leb n (length d.output)) (asks_same r s g w x s.stage s.bound (held_bytes s) w o) ∙ l)
    where
      took : (p : List ℕ) → (takes s p d.output).answer ≡ Accepted
      took [] = refl
      took (b ∷ bs) = refl

      go : (a h v : Bool) → a ≡ false → h ≡ true → v ≡ true
          → (cond a (refusal Settled s d.output) (cond (not h) (refusal OutOfOrder s d.output) (cond v (takes s d.piece d.output) (refusal ShortOutput s d.output)))).answer ≡ Accepted
      go a h v p q t = rw (p, q, t) (took d.piece)

module _ (r : ℕ) (s : Session) (g : s.started ≡ true) (w : Waits r (view s)) (x : s.held ≡ length (holds_of (view s))) (small : s.attempts < 2 ^ 64) where
  abbrev here : Side
  here = client.client (requests_of s.requests)

  taken_adds : (p out : List ℕ) → (takes s p out).session.attempts ≡ (s.attempts + attempts_given here (view s) p) % 2 ^ 64
  taken_adds [] out = none_more s.attempts small
  taken_adds (b ∷ bs) out = refl

  delivery_adds : (d : Delivery) → (answer_to (receiver r) s d).session.attempts ≡ (s.attempts + added here (view s) (leb r (length d.output)) d.piece) % 2 ^ 64
  unfolding deliver
  delivery_adds d =
      go (is_over (view s)) s.started (leb (room_at s.stage) (length d.output)) (leb r (length d.output)) g
      (λ z. ap (λ (n : ℕ). leb n (length d.output)) (asks_same r s g w x s.stage s.bound (held_bytes s) w z))
    where
      go : (a h v y : Bool) → h ≡ true → (a ≡ false → v ≡ y)
          → (cond a (refusal Settled s d.output) (cond (not h) (refusal OutOfOrder s d.output) (cond v (takes s d.piece d.output) (refusal ShortOutput s d.output)))).session.attempts
          ≡ (s.attempts + cond a 0 (cond y (attempts_given here (view s) d.piece) 0)) % 2 ^ 64
      go true h v y t f = none_more s.attempts small
      go false false v y t f = absurd (true≢false (sym t))
      go false true v true t f = rw (f refl) (taken_adds d.piece d.output)
      go false true v false t f = rw (f refl) (none_more s.attempts small)

-- ---- the same by the plain machine

waits_not_over : (m : SideSession) → is_waiting (client.outcome_of m) ≡ not (is_over m)
waits_not_over (waiting e h) = refl
waits_not_over (ended (talk.done y)) = refl
waits_not_over (ended (talk.failed e)) = refl

one_waits : (m : SideSession) → one_if (is_waiting (client.outcome_of m)) ≡ one_if_waiting m
one_waits (waiting e h) = refl
one_waits (ended (talk.done y)) = refl
one_waits (ended (talk.failed e)) = refl

one_most : (b : Bool) → one_if b ≤ 1
one_most true = omega arith
one_most false = omega arith

module _ (o : Opening) where
  abbrev N : Side
  N = client.side o

  abbrev pub fed_with : List ℕ → SideSession
  fed_with bs = (feed N (client.begun o) bs).session

  outcome_at : (bs : List ℕ) → is_waiting (machine o bs).outcome ≡ not (is_over (fed_with bs))
  outcome_at bs = ap (λ (m : Machine). is_waiting m.outcome) (machine_feed o bs) ∙ waits_not_over (fed_with bs)

  one_at : (bs : List ℕ) → one_if (is_waiting (machine o bs).outcome) ≡ one_if_waiting (fed_with bs)
  one_at bs = ap (λ (m : Machine). one_if (is_waiting m.outcome)) (machine_feed o bs) ∙ one_waits (fed_with bs)

  fed_on : (before p : List ℕ) → fed_with (before ++ p) ≡ (onward N (fed_with before) p).session
  fed_on before p = ap (λ (f : talk.FedOf N). f.session) (feed_append N (client_lawful (client.kept o)) (client.begun o) (begun_shaped o) before p)

  decided_on_lem : (before p : List ℕ) → decided_on o (before ++ p) ≡ decided_on o before + decided_by N (fed_with before) p
  decided_on_lem before p =
      decided_feed o (before ++ p) ∙ decided_append N (client_lawful (client.kept o)) (client.begun o) (begun_shaped o) before p
      ∙ ap (λ (n : ℕ). n + decided_by N (fed_with before) p) (sym (decided_feed o before))

  piece_attempts : (before p : List ℕ) → attempts_by N (fed_with before) p ≡ decided_on o (before ++ p) - decided_on o before + one_if (is_waiting (machine o (before ++ p)).outcome)
  piece_attempts before p =
      let d = decided_on_lem before p in
      let e = one_at (before ++ p) ∙ ap one_if_waiting (fed_on before p) in
      omega arith

  adds_as : (before : List ℕ) (d : Delivery) → added N (fed_with before) (lends_for o d) d.piece ≡ attempts_at o before d
  adds_as before d = rw (outcome_at before) (go (is_over (fed_with before)) (lends_for o d) d.piece (piece_attempts before d.piece))
    where
      go : (a l : Bool) (p : List ℕ) {n : ℕ} → attempts_by N (fed_with before) p ≡ n → cond a 0 (cond l (attempts_given N (fed_with before) p) 0) ≡ cond (l && (ltb 0 (length p) && not a)) n 0
      go true true [] e = refl
      go true true (b ∷ bs) e = rw (lt-ltb 0 (length (b ∷ bs)) (omega arith))
      go true false p e = refl
      go false true [] e = refl
      go false true (b ∷ bs) e = rw (lt-ltb 0 (length (b ∷ bs)) (omega arith)) e
      go false false p e = refl

  -- ---- where a tunnel stands behind joined bytes, and how many attempts it took

  abbrev pub StandsAt : Session → List ℕ → Type 0
  StandsAt s before = Stands (delivery_room o) (client.kept o) s (fed_with before)

  abbrev answered : Session → Delivery → Session
  answered s d = (answer_to (receiver (delivery_room o)) s d).session

  abbrev joined_with : List ℕ → Delivery → List ℕ
  joined_with before d = before ++ cond (lends_for o d) d.piece []

  side_on : (before : List ℕ) (d : Delivery) → (answer_to (side.receiver N (delivery_room o)) (fed_with before) d).session ≡ fed_with (joined_with before d)
  side_on before d = go (lends_for o d) refl
    where
      go : (b : Bool) → lends_for o d ≡ b → (answer_to (side.receiver N (delivery_room o)) (fed_with before) d).session ≡ fed_with (before ++ cond b d.piece [])
      go true e =
          (lent N (client_lawful (client.kept o)) (delivery_room o) (fed_with before) d (feed_still N (client_lawful (client.kept o)) (client.begun o) (begun_shaped o) before) e).session
          ∙ sym (fed_on before d.piece)
      go false e = (unlent N (client_lawful (client.kept o)) (delivery_room o) (fed_with before) d e).session ∙ ap fed_with (sym (append-nil before))

  pub stands_on : (s : Session) (before : List ℕ) (d : Delivery) → StandsAt s before → StandsAt (answered s d) (joined_with before d)
  stands_on s before d t =
      subst (λ (m : SideSession). Stands (delivery_room o) (client.kept o) (answered s d) m) (side_on before d) (step (delivery_room o) (client.kept o) s (fed_with before) t d).session

  module _ (s : Session) (before : List ℕ) (t : StandsAt s before) (d : Delivery) where
    pub tallied : s.attempts < 2 ^ 64 → (answered s d).attempts ≡ (s.attempts + attempts_at o before d) % 2 ^ 64
    tallied small =
        delivery_adds (delivery_room o) s t.going (rw t.seen t.waits) (rw t.seen t.exact) small d
        ∙ ap (λ (n : ℕ). (s.attempts + n) % 2 ^ 64) (rw (t.kept, t.seen) (adds_as before d))

    accepted : counts o before d ≡ true → (is_accepted (answer_to (receiver (delivery_room o)) s d).answer && has_byte d) ≡ true
    accepted c =
        let (l, i) = both (lends_for o d) (has_byte d && is_waiting (machine o before).outcome) c in
        let (h, k) = both (has_byte d) (is_waiting (machine o before).outcome) i in
        let v : is_over (view s) ≡ false = ap is_over t.seen ∙ not-true (is_over (fed_with before)) (sym (outcome_at before) ∙ k) in
        rw (delivery_accepts (delivery_room o) s t.going (rw t.seen t.waits) (rw t.seen t.exact) d v l, h)

    -- what it adds to the attempts is what it adds to the decided replies, and one if it is accepted
    adds_few : attempts_at o before d + decided_on o before ≤ one_if (is_accepted (answer_to (receiver (delivery_room o)) s d).answer && has_byte d) + decided_on o (joined_with before d)
    adds_few = go (counts o before d) refl
      where
        go : (b : Bool) → counts o before d ≡ b
            → cond b (decided_on o (before ++ d.piece) - decided_on o before + one_if (is_waiting (machine o (before ++ d.piece)).outcome)) 0 + decided_on o before
            ≤ one_if (is_accepted (answer_to (receiver (delivery_room o)) s d).answer && has_byte d) + decided_on o (joined_with before d)
        go true c =
            let l = (both (lends_for o d) (has_byte d && is_waiting (machine o before).outcome) c).0 in
            rw (accepted c, l) (omega (arith, decided_on_lem before d.piece, one_most (is_waiting (machine o (before ++ d.piece)).outcome)))
        go false c = omega (arith, decided_on_lem before (cond (lends_for o d) d.piece []))

  attempts_on : (ds : List Delivery) (s : Session) (before : List ℕ) (c : ℕ) → StandsAt s before → s.attempts ≡ c % 2 ^ 64
      → (after (receiver (delivery_room o)) s ds).attempts ≡ (c + attempts_of o before ds) % 2 ^ 64
  unfolding after attempts_of
  attempts_on [] s before c t e = e ∙ omega arith
  attempts_on (d ∷ ds) s before c t e =
      let n = attempts_at o before d in
      let k : (answered s d).attempts ≡ (c + n) % 2 ^ 64 = tallied s before t d (omega arith) ∙ omega arith in
      attempts_on ds (answered s d) (joined_with before d) (c + n) (stands_on s before d t) k ∙ omega arith

  few_on : (ds : List Delivery) (s : Session) (before : List ℕ) → StandsAt s before → attempts_of o before ds + decided_on o before ≤ accepted_in o s ds + 3
  unfolding attempts_of accepted_in
  few_on [] s before t = omega (arith, decided_three o before)
  few_on (d ∷ ds) s before t = omega (arith, adds_few s before t d, few_on ds (answered s d) (joined_with before d) (stands_on s before d t))

  pub stands_all : (ds : List Delivery) (s : Session) (before : List ℕ) → StandsAt s before → StandsAt (after (receiver (delivery_room o)) s ds) (before ++ joined (receiver (delivery_room o)) ds)
  unfolding after joined
  stands_all [] s before t = rw (append-nil before) t
  stands_all (d ∷ ds) s before t =
      rw (append_assoc before (cond (lends_for o d) d.piece []) (joined (receiver (delivery_room o)) ds)) at (stands_all ds (answered s d) (joined_with before d) (stands_on s before d t))

  -- what is held there
  holds_as : (bs : List ℕ) → length (holds_of (fed_with bs)) ≡ held_on (machine o bs) bs
  holds_as bs = rw (machine_feed o bs) (go (fed_with bs) refl)
    where
      go : (m : SideSession) → fed_with bs ≡ m → length (holds_of m) ≡ held_of (client.outcome_of m) (client.bound_in m) (feed N (client.begun o) bs).place (length bs)
      go (waiting e h) q =
          let x = feed_exact N (client_lawful (client.kept o)) (client.begun o) bs (ap is_over q) in
          let l = ap (λ (m : SideSession). length (talk.held_by m)) q in
          omega (arith, x, l)
      go (ended (talk.done y)) q = refl
      go (ended (talk.failed e)) q = refl

  effort : (s : Session) → StandsAt s [] → s.attempts ≡ 0 → (ds : List Delivery) → BytePieces ds → Effort o s ds
  effort s t z ds y =
      let e = attempts_on ds s [] 0 t (z ∙ omega arith) in
      let k : 0 + attempts_of o [] ds ≡ attempts_of o [] ds = omega arith in
      record {
        attempts_are = rw k at e;
        attempts_few = omega (arith, few_on ds s [] t);
        held_are = (stands_all ds s [] t).exact ∙ holds_as (joined (receiver (delivery_room o)) ds);
        held_few = rw (stands_all ds s [] t).exact (begun_held o (joined (receiver (delivery_room o)) ds) (joined_bytes (receiver (delivery_room o)) ds y));
      }

  tried : (x : Answer) → (x ≡ Accepted → Limits o) → Tried (prepared_by x o) o
  tried Accepted l out p q ds y =
      let c = sym (start_begins o out q (l refl)) in
      effort (start (prepared_by Accepted o).session out).session (subst (λ (k : Call). StandsAt k.session []) c (begins_stands o (l refl) out).stands) (ap (λ (k : Call). k.session.attempts) (sym c)) ds y
  tried (Refused e) l out p q ds y = absurd (clash (sym p))

-- for every preparing that v5 accepts, with records of sixteen address bytes as their arrays have
pub attempts_v5 : (a : V5) → Sixteen a.records → Tried (prepare5 a) (opening5 a)
unfolding prepare5
attempts_v5 a x = tried (opening5 a) (check5 a) (limits5 a x)

-- and for every one that v4 accepts
pub attempts_v4 : (a : V4) → Tried (prepare4 a) (opening4 a)
unfolding prepare4
attempts_v4 a = tried (opening4 a) (check4 a) (limits4 a)
