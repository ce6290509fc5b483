-- What the calls of a route come to, by what the functions below them say.
use Prim.Native.Nat.{ℕ, ◌+◌, ◌*◌, ◌^◌, ◌≤◌, ◌<◌}
use native.Mathlib.Nat.{zero-add}
use native.Mathlib.Omega.{arith}
use mathlib.Core.Path.{◌≡◌, ap, sym, ◌∙◌}
use mathlib.Core.Bool.{Bool, true, false, cond}
use mathlib.Core.List.{List, ◌++◌}
use lib.ListN.{length, drop}
use borrow.Author.Tests.{le-leb, lt-leb}
use Rattle.protocol.specs.declared.SocksError.{SocksError}
use Rattle.protocol.specs.declared.SocksError.TheVariants.{ShortOutput, Settled}
use Rattle.protocol.specs.declared.AuthMethod.TheVariants.{NoAuth, UserPass, NoneAcceptable}
use Rattle.protocol.specs.declared.Reply.TheVariants.{NegotiationRes, AuthenticationRes, ProxyRes, Response}
use Rattle.protocol.specs.Answers.{Accepted, Refused}
use Rattle.buffers.specs.write.Written.{overwrite, Wrote}
use Rattle.buffers.proofs.write.Laws.{wrote_length}
use Rattle.client_stages.specs.declared.due.Lengths.{Lengths}
use Rattle.client_stages.specs.declared.due.Stage.{Stage}
use Rattle.client_stages.specs.declared.due.Stage.TheVariants.{Awaiting, Open, Failed}
use Rattle.client_stages.specs.due.Due.{still_due}
use Rattle.client_session.specs.declared.Ended as session
use Rattle.client_session.specs.Calls as session-calls
use Rattle.route_delivery.specs.declared.Spot.{Spot}
use Rattle.route_delivery.specs.declared.Relayed.{Relayed}
use Rattle.route_delivery.specs.Relay.{hop_at, Relay, relayed, session_at, most_due, Relayable, RelayResult}
use Rattle.route_session.specs.declared.calls.Route.{Route}
use Rattle.route_session.specs.declared.calls.Delivered.{Delivered}
use Rattle.route_session.specs.calls.Calls.{Call, refusal, last_in, behind_in, room_in, session_in, with_session, is_over, moves, takes, deliver, delivered, DeliverResult, end, ended_by}

-- ---- what is written from the output's start

pub written : {out out' bs : List ℕ} {n : ℕ} → Wrote out 0 bs n out' → (n ≡ length bs) × (out' ≡ bs ++ drop (length bs) out)
unfolding overwrite
written {out} {out'} {bs} w = (w.place ∙ zero-add (length bs), w.bytes ∙ ap (λ (k : ℕ). bs ++ drop k out) (zero-add (length bs)))

-- ---- a delivery

still_most : (stage : Stage) → still_due stage ≤ 775
still_most (Awaiting (NegotiationRes NoAuth)) = omega arith
still_most (Awaiting (NegotiationRes UserPass)) = omega arith
still_most (Awaiting (NegotiationRes NoneAcceptable)) = omega arith
still_most (Awaiting AuthenticationRes) = omega arith
still_most (Awaiting ProxyRes) = omega arith
still_most (Awaiting Response) = omega arith
still_most Open = omega arith
still_most (Failed x) = omega arith

due_most : (l : Lengths) (stage : Stage) → most_due l stage ≤ 1024
due_most l stage = go l.optimistic
  where
    go : (o : Bool) → cond o 0 (still_due stage) ≤ 1024
    go true = omega arith
    go false = omega (arith, still_most stage)

module _ (r : Route) (piece out : List ℕ) {n : ℕ} (q : n ≡ behind_in r) where
  abbrev spot : Spot
  spot = record { behind = n; stage = r.stage; held = r.held; bound = r.bound; attempts = r.attempts; sent = 0 }

  pub relay_asks : length r.bytes ≡ 8192 → r.attempts < 2 ^ 64 → room_in r ≤ length out → Relayable r.hops spot r.bytes (length out)
  relay_asks b a m =
      record { few = omega (arith, q); small = a; whole = rw b (omega (arith, q)); roomy = omega (arith, q, m, due_most (hop_at r.hops n).lengths r.stage) }

  session_is : session_at r.hops r.bytes spot r.hold ≡ session_in r
  session_is = ap (λ (k : ℕ). session_at r.hops r.bytes (record { behind = k; stage = r.stage; held = r.held; bound = r.bound; attempts = r.attempts; sent = 0 }) r.hold) q

  relay_is : relayed r.hops r.bytes n (session_at r.hops r.bytes spot r.hold) piece ≡ relayed r.hops r.bytes (behind_in r) (session_in r) piece
  relay_is = λ i. relayed r.hops r.bytes (q i) (session_is i) piece

  pub takes_as : (w : Relayed) {hold' out' : List ℕ} → RelayResult (relayed r.hops r.bytes n (session_at r.hops r.bytes spot r.hold) piece) spot piece out w hold' out'
      → DeliverResult (takes r piece out) piece
      (record { answer = Accepted; used = w.used; sent = w.spot.sent; route = record { stage = w.spot.stage; held = w.spot.held; hold = hold'; bound = w.spot.bound; attempts = w.spot.attempts; count = r.count; behind = w.spot.behind; hops = r.hops; bytes = r.bytes } })
      out'
  takes_as w {hold'} {out'} v =
      let x = relayed r.hops r.bytes n (session_at r.hops r.bytes spot r.hold) piece in
      let (l, o) = written v.wrote in
      record {
        returned = (λ i. record { answer = Accepted; used = v.used i; sent = l i; route = record { stage = (v.spot i).stage; held = (v.spot i).held; hold = v.held i; bound = (v.spot i).bound; attempts = (v.spot i).attempts; count = r.count; behind = (v.spot i).behind; hops = r.hops; bytes = r.bytes } })
            ∙ ap (λ (y : Relay). delivered (moves r y out)) relay_is;
        output = o ∙ ap (λ (y : Relay). (moves r y out).output) relay_is;
        inside = omega (arith, v.wrote.inside, v.wrote.place, wrote_length v.wrote);
        within = v.within;
      }

abbrev undelivered : SocksError → Route → Delivered
undelivered e r = record { answer = Refused e; used = 0; sent = 0; route = r }

pub room_enough : (r : Route) {n out : ℕ} → n ≡ last_in r.count → 1024 * (n + 1) ≤ out → room_in r ≤ out
room_enough r q h = omega (arith, q, h)

module _ (r : Route) (piece out : List ℕ) {over : Bool} (v : over ≡ is_over r) where
  refused : (e : SocksError) {d : Delivered} → d ≡ undelivered e r → deliver r piece out ≡ refusal e r out → DeliverResult (deliver r piece out) piece d out
  refused e {d} x q =
      record {
        returned = x ∙ ap delivered (sym q);
        output = ap (λ (c : Call). c.output) (sym q);
        inside = rw x (omega arith);
        within = rw x (omega arith);
      }

  pub delivers_settled : over ≡ true → {d : Delivered} → d ≡ undelivered Settled r → DeliverResult (deliver r piece out) piece d out
  unfolding deliver
  delivers_settled t x = refused Settled x (rw (sym v ∙ t))

  module _ (f : over ≡ false) {n : ℕ} (q : n ≡ last_in r.count) where
    pub room_is : 1024 * (n + 1) ≡ room_in r
    room_is = omega (arith, q)

    pub delivers_short : length out < 1024 * (n + 1) → {d : Delivered} → d ≡ undelivered ShortOutput r → DeliverResult (deliver r piece out) piece d out
    unfolding deliver
    delivers_short h x =
        let z : length out < room_in r = rw (← room_is) h in
        refused ShortOutput x (rw (sym v ∙ f, lt-leb (room_in r) (length out) z))

    pub delivers_takes : 1024 * (n + 1) ≤ length out → {d : Delivered} {out' : List ℕ} → DeliverResult (takes r piece out) piece d out' → DeliverResult (deliver r piece out) piece d out'
    unfolding deliver
    delivers_takes h x =
        rw (sym v ∙ f, le-leb (room_in r) (length out) (room_enough r q h)) x

-- ---- an end, as that of the proxy's session

pub ends_like : (r : Route) {x : session.Ended} → x ≡ session-calls.ended_by (session-calls.end (session_in r)) → record { answer = x.answer; route = with_session r r.behind x.session } ≡ ended_by (end r)
unfolding end
ends_like r q = ap (λ (x : session.Ended). record { answer = x.answer; route = with_session r r.behind x.session }) q
