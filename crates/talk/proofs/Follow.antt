-- Two receivers that answer alike, as long as their sessions are related: their tunnels are alike.
use mathlib.Core.Path.{◌≡◌, refl}
use mathlib.Core.List.{List, [], ◌∷◌}
use Rattle.talk.specs.Tunnel.{Receiver, Delivery, answer_to, after, joined, rests, total, sent_by}
use Rattle.talk.specs.Follow.{Alike, Followed}

module _ {X Y A B : Type 0} (R : X → Y → Type 0) (K : Receiver X A) (L : Receiver Y B) (room : K.room ≡ L.room)
    (step : (x : X) (y : Y) → R x y → (d : Delivery) → Alike R (answer_to K x d) (answer_to L y d)) where
  pub joined_same : (ds : List Delivery) → joined K ds ≡ joined L ds
  unfolding joined
  joined_same [] = refl
  joined_same (d ∷ ds) = rw (joined_same ds, room)

  pub follows : (ds : List Delivery) (x : X) (y : Y) → R x y → Followed R K L x y ds
  unfolding after rests total sent_by
  follows [] x y r = record { session = r; sent = refl; count = refl; rest = refl }
  follows (d ∷ ds) x y r =
      let a = step x y r d in
      let f = follows ds (answer_to K x d).session (answer_to L y d).session a.session in
      record {
        session = f.session;
        sent = rw (a.sent, f.sent);
        count = rw (a.used, f.count);
        rest = rw (a.used, f.rest, room);
      }
