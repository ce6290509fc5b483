-- What a piece leaves of a route's numbers is small enough for their places.
use Prim.Native.Nat.{ℕ, zero, suc, ◌≤◌, ◌<◌}
use native.Mathlib.Omega.{arith}
use mathlib.Core.Path.{◌≡◌}
use mathlib.Core.Bool.{Bool, true, false, cond, not}
use mathlib.Core.List.{List, [], ◌∷◌}
use lib.ListN.{length, drop, replicate, length-append}
use lib.Dec.{leb}
use Rattle.protocol.specs.declared.SocksError.TheVariants.{Settled, OutOfOrder, ShortOutput}
use Rattle.client_stages.specs.declared.due.Stage.{Stage}
use Rattle.client_stages.specs.declared.due.Stage.TheVariants.{Awaiting, Open, Failed}
use Rattle.client_stages.specs.due.Stages.{SideSession, holds_of}
use Rattle.client_session.specs.declared.Session.{Session}
use Rattle.client_session.specs.Session.{side_of, view, packed, room_at}
use Rattle.client_session.specs.Calls.{refusal, takes, deliver}
use Rattle.route_delivery.specs.declared.Hop.{Hop}
use Rattle.route_delivery.specs.Relay.{goes_at, begun_at, Relay, handed, alone, handing_on, relayed}
use Rattle.talk.specs.Talk.{is_over}
use Rattle.talk.specs.Talk.{onward}

abbrev Few : Session → Type 0
Few x = length x.hold ≡ 261 → x.held < 65536

packed_few : (s : Session) (m : SideSession) → Few (packed s m)
packed_few s m h = omega (arith, length-append (holds_of m) (drop (length (holds_of m)) s.hold), h)

takes_few : (s : Session) (piece out : List ℕ) → s.held < 65536 → Few (takes s piece out).session
takes_few s [] out h l = h
takes_few s (b ∷ bs) out h l = packed_few s (onward (side_of s) (view s) (b ∷ bs)).session l

handed_few : (s : Session) (piece : List ℕ) → s.held < 65536 → Few (handed s piece).session
unfolding deliver
handed_few s piece h = go (is_over (view s)) (not s.started) (leb (room_at s.stage) (length out))
  where
    out : List ℕ
    out = replicate 1024 0

    go : (a b c : Bool) → Few (cond a (refusal Settled s out) (cond b (refusal OutOfOrder s out) (cond c (takes s piece out) (refusal ShortOutput s out)))).session
    go true b c = λ l. h
    go false true c = λ l. h
    go false false true = takes_few s piece out h
    go false false false = λ l. h

module _ (hops : List Hop) (bytes : List ℕ) where
  pub relayed_few : (n : ℕ) (s : Session) (piece : List ℕ) → s.held < 65536 → length (relayed hops bytes n s piece).session.hold ≡ 261 → (relayed hops bytes n s piece).session.held < 65536
  unfolding relayed
  relayed_few zero s piece h = handed_few s piece h
  relayed_few (suc n) s piece h =
      let c = handed s piece in
      go (relayed_few n (begun_at hops bytes n c.session) (drop c.used piece) (omega arith)) c.session.stage
    where
      next : Relay
      next = relayed hops bytes n (begun_at hops bytes n (handed s piece).session) (drop (handed s piece).used piece)

      go : Few next.session → (g : Stage) → Few (handing_on g (alone (suc n) (handed s piece)) (goes_at hops bytes n) next).session
      go f (Awaiting e) = handed_few s piece h
      go f Open = f
      go f (Failed x) = handed_few s piece h

  pub relayed_behind : (n : ℕ) (s : Session) (piece : List ℕ) → (relayed hops bytes n s piece).behind ≤ n
  unfolding relayed
  relayed_behind zero s piece = omega arith
  relayed_behind (suc n) s piece =
      let c = handed s piece in
      go (relayed_behind n (begun_at hops bytes n c.session) (drop c.used piece)) c.session.stage
    where
      next : Relay
      next = relayed hops bytes n (begun_at hops bytes n (handed s piece).session) (drop (handed s piece).used piece)

      go : next.behind ≤ n → (g : Stage) → (handing_on g (alone (suc n) (handed s piece)) (goes_at hops bytes n) next).behind ≤ suc n
      go f (Awaiting e) = omega arith
      go f Open = omega arith
      go f (Failed x) = omega arith
