-- Two receivers that answer alike, as long as their sessions are related, and to each of which a delivery lends enough just if it does to the other: their tunnels are alike.
use Prim.Native.Nat.{ℕ}
use mathlib.Core.Path.{◌≡◌, refl}
use mathlib.Core.Bool.{true}
use mathlib.Core.List.{List, [], ◌∷◌, Memᴰ}
use lib.ListN.{length}
use lib.Dec.{leb}
use Rattle.protocol.specs.Bytes.{Bytes, BytePieces}
use Rattle.talk.specs.Tunnel.{Receiver, Delivery, lends, answer_to, after, joined, rests, total, sent_by}
use Rattle.talk.specs.Follow.{Alike, Followed}

pub record Carried {X Y A B : Type 0} (R : X → Y → Type 0) (K : Receiver X A) (L : Receiver Y B) (x : X) (y : Y) (ds : List Delivery) : Type 0 where
  pub joins : joined K ds ≡ joined L ds
  pub follows : Followed R K L x y ds

module _ {X Y A B : Type 0} (R : X → Y → Type 0) (K : Receiver X A) (L : Receiver Y B)
    (step : (x : X) (y : Y) → R x y → (d : Delivery) → Bytes d.piece → Alike R (answer_to K x d) (answer_to L y d)) where
  pub carries : (ds : List Delivery) → BytePieces ds → ((d : Delivery) → Memᴰ d ds → lends K d ≡ lends L d) → (x : X) (y : Y) → R x y → Carried R K L x y ds
  unfolding after joined rests total sent_by
  carries [] b h x y r = record { joins = refl; follows = record { session = r; sent = refl; count = refl; rest = refl } }
  carries (d ∷ ds) b h x y r =
      let a = step x y r d (b d (Memᴰ.head refl)) in
      let w = carries ds (λ e m. b e (Memᴰ.tail m)) (λ e m. h e (Memᴰ.tail m)) (answer_to K x d).session (answer_to L y d).session a.session in
      let l = h d (Memᴰ.head refl) in
      let f = w.follows in
      record {
        joins = rw (l, w.joins);
        follows = record {
          session = f.session;
          sent = rw (a.sent, f.sent);
          count = rw (a.used, f.count);
          rest = rw (a.used, f.rest, l);
        };
      }

-- 1,024 bytes are enough for whatever asks no more
pub lends_as : (n : ℕ) → leb n 1024 ≡ true → (d : Delivery) → length d.output ≡ 1024 → leb 1024 (length d.output) ≡ leb n (length d.output)
lends_as n h d l = rw (l, h)
