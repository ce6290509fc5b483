-- A piece that decides nothing is only held.
use Prim.Native.Nat.{ℕ, ◌+◌, ◌%◌, ◌^◌, zero-le}
use native.Mathlib.Nat.{le_refl}
use native.Mathlib.Omega.{arith}
use mathlib.Core.Path.{◌≡◌, refl, sym, ap, ◌∙◌}
use mathlib.Core.Bool.{true}
use mathlib.Core.List.{List, ◌++◌, append_assoc}
use lib.ListN.{length, take, drop, take-append-drop}
use lib.Seq.{drop-drop}
use Rattle.std.specs.Prelude.{Ok}
use Rattle.protocol.specs.declared.Reply.{Reply}
use Rattle.protocol.specs.declared.Reply.TheVariants.{Response}
use Rattle.protocol.specs.Bytes.{Bytes}
use Rattle.protocol.proofs.Bytes.{bytes_part}
use Rattle.buffers.specs.write.Written.{overwrite, Wrote}
use Rattle.buffers.proofs.write.Laws.{length_overwrite}
use Rattle.client_stages.specs.declared.due.Lengths.{Lengths}
use Rattle.client_stages.specs.declared.due.Stage.TheVariants.{Awaiting, Open}
use Rattle.client_stages.specs.due.Parts.{part}
use Rattle.client_delivery.specs.declared.piece.Taken.{Taken}
use Rattle.client_delivery.specs.delivery.Received.{taken, ReceiveResult}
use Rattle.client_session.specs.declared.Session.{Session}
use Rattle.lent_numbers.specs.declared.told.RawStep.{RawStep}
use Rattle.lent_session.specs.State as sessions
use Rattle.lent_session.specs.State.{two_at, session_at}
use Rattle.lent_session.specs.Fits.{Fits}
use Rattle.lent_session.specs.delivery.Changes.{appended, accepted}
use Rattle.lent_session.proofs.Writing.{state_written}
use Rattle.lent_session.proofs.delivery.Quick.{takes_undecided}
use Rattle.lent_session.proofs.delivery.Leaving.{fits_at, room_small}
use Rattle.route_delivery.specs.declared.Relayed.{Relayed}
use Rattle.route_delivery.specs.declared.Spot.{Spot}
use Rattle.route_session.specs.declared.calls.Route.{Route}
use Rattle.route_delivery.specs.Relay as relay
use Rattle.route_delivery.specs.Relay.{hop_at, relayed, RelayResult}
use Rattle.route_delivery.proofs.Laws.{hands, stops_here}
use Rattle.route_session.specs.calls.Calls.{deliver}
use Rattle.lent_route.specs.State.{route_at}
use Rattle.lent_route.specs.Calls.{Leaves}
use Rattle.lent_route.specs.delivery.Settling.{Short}
use Rattle.lent_route.proofs.Writing.{keeping, head_of, head_row}
use Rattle.lent_route.proofs.Prefix.{prefix, first_long}
use Rattle.lent_route.proofs.delivery.Relaying.{fits_first, spot, asks, leaves_relayed}

-- ---- the first 1,306 bytes written, and those behind them

pub whole_again : (x : Session) (s : List ℕ) → sessions.state_of (keeping x (take 1024 (drop 282 s))) ++ drop 1306 s ≡ sessions.state_of (keeping x (drop 282 s))
whole_again x s =
    let t = drop 282 s in
    ap (λ (l : List ℕ). l ++ drop 1306 s) (head_row (keeping x (take 1024 t))) ∙ append_assoc (head_of x) (take 1024 t) (drop 1306 s)
    ∙ ap (λ (l : List ℕ). head_of x ++ l) (ap (λ (l : List ℕ). take 1024 t ++ l) (sym (drop-drop 1024 282 s)) ∙ take-append-drop 1024 t) ∙ sym (head_row (keeping x t))

module _ (s : List ℕ) (y : Bytes s) (l : length s ≡ 8538) where
  same : session_at (take 1306 s) ≡ keeping (session_at s) (take 1024 (drop 282 s))
  same = prefix s (omega (arith, l))

  first_bytes : Bytes (take 1306 s)
  first_bytes = bytes_part s 0 1306 y

  -- a change of the session among the first 1,306 bytes
  module _ {e : Reply} (w : (session_at s).stage ≡ Awaiting e) {held : ℕ} (h : held ≡ two_at s 8) (piece : List ℕ) {p' : List ℕ}
      (put : (x : Session) → Fits x → x.held ≡ held → take 1306 s ≡ sessions.state_of x → p' ≡ sessions.state_of (appended piece x)) where
    pub appended_whole : p' ++ drop 1306 s ≡ sessions.state_of (keeping (appended piece (session_at s)) (drop 282 s))
    appended_whole =
        let x = session_at (take 1306 s) in
        let q = put x (fits_at (take 1306 s) first_bytes (first_long s l)) (ap (λ (z : Session). z.held) same ∙ sym h)
        (sym (state_written (take 1306 s) first_bytes (first_long s l) e (ap (λ (z : Session). z.stage) same ∙ w))) in
        ap (λ (t : List ℕ). t ++ drop 1306 s) (q ∙ ap (λ (z : Session). sessions.state_of (appended piece z)) same) ∙ whole_again (appended piece (session_at s)) s

-- ---- the delivery

nothing_wrote : (out b : List ℕ) → Wrote out 0 (part b 0 0) 0 out
unfolding overwrite
nothing_wrote out b = record { inside = zero-le; place = refl; bytes = refl }

module _ (s piece out : List ℕ) (y : Bytes s) (l : length s ≡ 8538) (room : length out ≡ 8192) {e : Reply} (w : (session_at s).stage ≡ Awaiting e) (b : (session_at s).started ≡ true) (t : Short e s (two_at s 8) (length piece)) where
  abbrev r : Route
  r = route_at s

  abbrev at : Spot
  at = spot s piece out y l room w b

  abbrev hold' : List ℕ
  hold' = overwrite r.hold (two_at s 8) piece

  abbrev here : Relayed
  here =
      record {
        spot = record { behind = at.behind; stage = Awaiting e; held = two_at s 8 + length piece; bound = r.bound; attempts = (r.attempts + 1) % 2 ^ 64; sent = 0 };
        used = length piece;
      }

  abbrev held : Taken
  held = record { stage = Awaiting e; held = two_at s 8 + length piece; used = length piece; from = 0; sent = 0; bound = r.bound; attempts = 1 }

  f : Fits (keeping (session_at s) (take 1024 (drop 282 s)))
  f = fits_first s y l

  abbrev lengths : Lengths
  lengths = (hop_at r.hops at.behind).lengths

  receives : ReceiveResult (Awaiting e) true (two_at s 8) lengths r.hold piece 1024 r.bound (Ok held) hold'
  receives =
      record {
        way = taken e held refl refl (room_small e) t.some refl (takes_undecided lengths e (two_at s 8) r.hold piece r.bound f.hold (t.stays.undecided piece refl) t.stays.room);
        bounds = record { within = le_refl (length piece); fits = zero-le; inside = zero-le };
      }

  stays : RelayResult (relayed r.hops r.bytes at.behind (relay.session_at r.hops r.bytes at r.hold) piece) at piece out here hold' out
  stays =
      let a = asks s piece out y l room w b in
      let v = hands r.hops at r.bytes r.hold piece out a receives refl {n = (r.attempts + 1) % 2 ^ 64} {sent = 0} refl (nothing_wrote out (relay.bytes_at r.bytes at.behind)) in
      stops_here r.hops at r.bytes r.hold piece out a here v (λ o. waits o.0)
    where
      waits : ¬ (Awaiting e ≡ Open)
      waits q = cc

  pub held_leaves : {p' : List ℕ} {k : RawStep} → ((x : Session) → Fits x → x.held ≡ two_at s 8 → take 1306 s ≡ sessions.state_of x → p' ≡ sessions.state_of (appended piece x)) → k ≡ accepted (length piece) 0 (Awaiting Response)
      → Leaves (deliver r piece out) s k (p' ++ drop 1306 s) out
  held_leaves {p'} {k} put q =
      let c : two_at s 12 ≡ at.behind = omega (arith, t.few, t.behind) in
      let x = (session_at s).requests.lengths in
      leaves_relayed s piece out y l room w b stays (length_overwrite r.hold (two_at s 8) piece (omega (arith, f.hold, t.stays.room)) ∙ f.hold)
      (record {
        returned = q;
        left = appended_whole s y l w refl piece put
            ∙ (λ i. sessions.state_of (record { stage = w i; started = b i; held = two_at s 8 + length piece; hold = hold'; bound = r.bound; attempts = (r.attempts + 1) % 2 ^ 64; requests = record { lengths = record { optimistic = x.optimistic; first = x.first; authentication = c i; proxy = x.proxy }; bytes = drop 282 s } }));
        tries = omega arith;
        port = f.port;
      })
