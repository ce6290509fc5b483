-- Deliveries to the session that the calls hold are deliveries to the side's session; and demand 3.
use Prim.Native.Nat.{ℕ}
use native.Mathlib.Omega.{arith}
use mathlib.Core.Path.{◌≡◌, refl, ap, sym, subst, ◌∙◌}
use mathlib.Core.Bool.{Bool, true, false, cond, not, true≢false}
use mathlib.Core.List.{List, [], ◌∷◌, ◌++◌}
use lib.ListN.{length, take, drop}
use lib.Seq.{take-append_seam}
use lib.Dec.{leb}
use Rattle.protocol.specs.declared.SocksError.TheVariants.{ShortOutput, Settled, OutOfOrder}
use Rattle.protocol.specs.declared.Bound.{Bound}
use Rattle.protocol.specs.Bytes.{BytePieces}
use Rattle.protocol.specs.AddressReading.{Destination, ipv4, ipv6, domain}
use Rattle.protocol.specs.Requests.{kind_of}
use Rattle.protocol.specs.Bound.{endpoint, kind_in, bytes_in, address_of}
use Rattle.protocol.specs.Opening.{Opening, delivery_room}
use Rattle.protocol.specs.Machine.{Machine, machine, used}
use Rattle.protocol.specs.Client as client
use Rattle.protocol.proofs.Client.{client_lawful, begun_shaped, machine_feed, used_feed}
use Rattle.protocol.proofs.Bytes.{joined_bytes}
use Rattle.protocol.specs.Client.{Waits}
use Rattle.protocol.proofs.Rooms.{onward_waits}
use Rattle.protocol.proofs.Sequences.{open_just, open_one}
use Rattle.client_session.specs.declared.Session.{Session}
use Rattle.client_stages.specs.declared.due.Stage.{Stage}
use Rattle.client_stages.specs.declared.due.Stage.TheVariants.{Awaiting, Open as OpenStage, Failed}
use Rattle.client_stages.specs.due.Stages.{SideSession, view_at, holds_of}
use Rattle.client_stages.specs.due.Parts.{requests_of}
use Rattle.client_session.specs.Session.{held_bytes, view, packed, outcome, bound, room_at}
use Rattle.client_session.specs.Calls.{refusal, takes, deliver}
use Rattle.socks.specs.Demand3.{receiver, Alike, tunnel_of, joined_of, Demand3}
use Rattle.talk.specs.Talk as talk
use Rattle.talk.specs.Tunnel as side
use Rattle.talk.specs.Tunnel.{Delivery, answer_to, joined, tunnel, given, refusing, accepting}
use Rattle.talk.specs.Follow as like
use Rattle.talk.proofs.Pieces.{pieces}
use Rattle.talk.proofs.Follow as follow

pub view_packed : (s : Session) (m : SideSession) → view (packed s m) ≡ m
view_packed s (talk.waiting e h) = rw take-append_seam
view_packed s (talk.ended (talk.done x)) = ap (λ (d : Destination). talk.ended (talk.done (endpoint d x.port))) (kind_back x.address)
  where
    kind_back : (d : Destination) → kind_of (kind_in d) (take (length (bytes_in d)) (bytes_in d ++ drop (length (bytes_in d)) s.hold)) ≡ d
    kind_back (ipv4 bs) = ap ipv4 (take-append_seam bs _)
    kind_back (ipv6 bs) = ap ipv6 (take-append_seam bs _)
    kind_back (domain bs) = ap domain (take-append_seam bs _)
view_packed s (talk.ended (talk.failed e)) = refl

-- ---- one delivery

-- a started session with these requests kept stands for a side's session, and asks for so much output as long as it waits
pub record Stands (r : ℕ) (k : client.Kept) (s : Session) (m : SideSession) : Type 0 where
  pub going : s.started ≡ true
  pub kept : requests_of s.requests ≡ k
  pub seen : view s ≡ m
  pub waits : Waits r m
  pub exact : s.held ≡ length (holds_of m)

module _ (r : ℕ) (s : Session) (g : s.started ≡ true) (w : Waits r (view s)) (x : s.held ≡ length (holds_of (view s))) where
  abbrev k : client.Kept
  k = requests_of s.requests

  itself : Stands r k s (view s)
  itself = record { going = g; kept = refl; seen = refl; waits = w; exact = x }

  moved_waits : (m : SideSession) → Waits r m → (bs : List ℕ) → Waits r (talk.onward (client.client k) m bs).session
  unfolding talk.onward
  moved_waits (talk.waiting e h) v bs = onward_waits k r e v (h ++ bs)
  moved_waits (talk.ended e) v bs = tt

  takes_alike : (p out : List ℕ) → like.Alike (Stands r k) (takes s p out) (accepting (client.client k) (view s) (given (client.client k) (view s) p) out)
  takes_alike [] out = record { session = itself; used = omega arith; sent = refl }
  takes_alike (b ∷ bs) out =
      record {
        session = record { going = g; kept = refl; seen = view_packed s (talk.onward (client.client k) (view s) (b ∷ bs)).session; waits = moved_waits (view s) w (b ∷ bs); exact = refl };
        used = refl;
        sent = refl;
      }

  answers_alike : (b h v y : Bool) → h ≡ true → (b ≡ false → v ≡ y) → (p out : List ℕ)
      → like.Alike (Stands r k) (cond b (refusal Settled s out) (cond (not h) (refusal OutOfOrder s out) (cond v (takes s p out) (refusal ShortOutput s out))))
      (cond b (refusing Settled (view s) out) (cond y (accepting (client.client k) (view s) (given (client.client k) (view s) p) out) (refusing ShortOutput (view s) out)))
  answers_alike true h v y t f p out = record { session = itself; used = refl; sent = refl }
  answers_alike false false v y t f p out = absurd (true≢false (sym t))
  answers_alike false true v y t f p out = rw (f refl) (go y)
    where
      go : (z : Bool) → like.Alike (Stands r k) (cond z (takes s p out) (refusal ShortOutput s out))
          (cond z (accepting (client.client k) (view s) (given (client.client k) (view s) p) out) (refusing ShortOutput (view s) out))
      go true = takes_alike p out
      go false = record { session = itself; used = refl; sent = refl }

  -- a waiting session asks for what the tunnel asks for
  pub asks_same : (stage : Stage) (b : Bound) (h : List ℕ) → Waits r (view_at stage b h) → talk.is_over (view_at stage b h) ≡ false → room_at stage ≡ r
  asks_same (Awaiting e) b h v z = v
  asks_same OpenStage b h v z = absurd (true≢false z)
  asks_same (Failed e) b h v z = absurd (true≢false z)

  alike : (d : Delivery) → like.Alike (Stands r k) (answer_to (receiver r) s d) (answer_to (side.receiver (client.client k) r) (view s) d)
  unfolding deliver side.deliver
  alike d =
      answers_alike (talk.is_over (view s)) s.started (leb (room_at s.stage) (length d.output)) (leb r (length d.output)) g
      (λ z. ap (λ (n : ℕ). leb n (length d.output)) (asks_same s.stage s.bound (held_bytes s) w z)) d.piece d.output

pub step : (r : ℕ) (k : client.Kept) (s : Session) (m : SideSession) → Stands r k s m → (d : Delivery)
    → like.Alike (Stands r k) (answer_to (receiver r) s d) (answer_to (side.receiver (client.client k) r) m d)
step r k s m t d =
    subst (λ (n : SideSession). like.Alike (Stands r k) (answer_to (receiver r) s d) (answer_to (side.receiver (client.client k) r) n d)) t.seen
    (subst (λ (j : client.Kept). like.Alike (Stands r j) (answer_to (receiver r) s d) (answer_to (side.receiver (client.client j) r) (view s) d)) t.kept
    (alike r s t.going (rw t.seen t.waits) (rw t.seen t.exact) d))

-- ---- demand 3, of a session that stands for an opening's talk

-- what a start returned: it stands for the talk fed with no byte, and this was sent
pub record Begun (o : Opening) (s : Session) (sent : List ℕ) : Type 0 where
  pub stands : Stands (delivery_room o) (client.kept o) s (talk.feed (client.side o) (client.begun o) []).session
  pub sends : sent ≡ (talk.feed (client.side o) (client.begun o) []).sent

record Fed (o : Opening) (s : Session) (sent : List ℕ) (ds : List Delivery) : Type 0 where
  outcomes : outcome (tunnel_of o s sent ds).session ≡ (machine o (joined_of o ds)).outcome
  bounds : bound (tunnel_of o s sent ds).session ≡ address_of (machine o (joined_of o ds)).bound
  sends : (tunnel_of o s sent ds).sent ≡ (machine o (joined_of o ds)).sent
  count : (tunnel_of o s sent ds).count ≡ used o (joined_of o ds)
  rest : (tunnel_of o s sent ds).rest ≡ drop (used o (joined_of o ds)) (joined_of o ds)

fed : (o : Opening) (s : Session) (sent : List ℕ) → Begun o s sent → (ds : List Delivery) → Fed o s sent ds
fed o s sent b ds =
    let N = client.side o in
    let f = talk.feed N (client.begun o) [] in
    let r = delivery_room o in
    let w = follow.follows (Stands r (client.kept o)) (receiver r) (side.receiver N r) refl (step r (client.kept o)) ds s f.session b.stands in
    let j = follow.joined_same (Stands r (client.kept o)) (receiver r) (side.receiver N r) refl (step r (client.kept o)) ds in
    let p = pieces N (client_lawful (client.kept o)) r (client.begun o) (begun_shaped o) ds in
    let bs = joined (receiver r) ds in
    let m = machine_feed o bs in
    let c : (tunnel (receiver r) s sent ds).count ≡ used o bs = w.count ∙ p.count ∙ rw (← j) (sym (used_feed o bs)) in
    record {
      outcomes = ap (λ (n : SideSession). client.outcome_of n) (w.session.seen ∙ p.session) ∙ rw (← j) (sym (ap (λ (x : Machine). x.outcome) m));
      bounds = ap (λ (n : SideSession). address_of (client.bound_in n)) (w.session.seen ∙ p.session) ∙ rw (← j) (sym (ap (λ (x : Machine). address_of x.bound) m));
      sends = rw (b.sends, w.sent) (p.sent ∙ rw (← j) (sym (ap (λ (x : Machine). x.sent) m)));
      count = c;
      rest = w.rest ∙ p.rest ∙ rw (← j, ← w.count, c);
    }

pub demand3 : (o : Opening) (s : Session) (sent : List ℕ) → Begun o s sent → (ds : List Delivery) → BytePieces ds → Demand3 o s sent ds
demand3 o s sent b ds pieces_are =
    let y = joined_bytes (receiver (delivery_room o)) ds pieces_are in
    let f = fed o s sent b ds in
    let bs = joined_of o ds in
    record {
      opens_just = (λ q. (open_just o bs y).0 (sym f.outcomes ∙ q), λ r. f.outcomes ∙ (open_just o bs y).1 r);
      just_one = λ q. rw f.count (open_one o bs y (sym f.outcomes ∙ q));
      rests_are = rw f.count f.rest;
      sent_as = f.sends;
      outcome_as = f.outcomes;
      bound_as = f.bounds;
      count_as = f.count;
      alike = λ ds' e.
          let g = fed o s sent b ds' in
          record {
            outcomes = g.outcomes ∙ ap (λ (l : List ℕ). (machine o l).outcome) e ∙ sym f.outcomes;
            bounds = g.bounds ∙ ap (λ (l : List ℕ). address_of (machine o l).bound) e ∙ sym f.bounds;
            sent = g.sends ∙ ap (λ (l : List ℕ). (machine o l).sent) e ∙ sym f.sends;
            count = g.count ∙ ap (used o) e ∙ sym f.count;
            rest = g.rest ∙ ap (λ (l : List ℕ). drop (used o l) l) e ∙ sym f.rest;
          };
    }
