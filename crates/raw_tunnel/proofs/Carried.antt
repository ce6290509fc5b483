-- A receiver that answers as another does, with the sessions and the answers told in other words: its tunnels are the other's, told so.
use Prim.Native.Nat.{ℕ}
use mathlib.Core.Path.{◌≡◌, refl}
use mathlib.Core.Bool.{true}
use mathlib.Core.List.{List, [], ◌∷◌, Memᴰ}
use lib.ListN.{length}
use lib.Dec.{leb}
use Rattle.talk.specs.Tunnel.{Answer, Receiver, Delivery, lends, answer_to, after, joined, rests, total, sent_by}

abbrev pub told : {X Y A B : Type 0} → (X → Y) → (A → B) → Answer X A → Answer Y B
told f said a = record { answer = said a.answer; session = f a.session; used = a.used; sent = a.sent; output = a.output }

-- the tunnels of a session and of what it is told as, over the same deliveries
pub record Carried {X Y A B : Type 0} (f : X → Y) (K : Receiver X A) (L : Receiver Y B) (s : X) (ds : List Delivery) : Type 0 where
  pub joins : joined L ds ≡ joined K ds
  pub session : after L (f s) ds ≡ f (after K s ds)
  pub sent : sent_by L (f s) ds ≡ sent_by K s ds
  pub count : total L (f s) ds ≡ total K s ds
  pub rest : rests L (f s) ds ≡ rests K s ds

-- each delivery lends enough to both or to none
pub carries : {X Y A B : Type 0} (f : X → Y) (said : A → B) (K : Receiver X A) (L : Receiver Y B)
    → ((s : X) (d : Delivery) → answer_to L (f s) d ≡ told f said (answer_to K s d))
    → (ds : List Delivery) → ((d : Delivery) → Memᴰ d ds → lends L d ≡ lends K d) → (s : X) → Carried f K L s ds
unfolding after joined rests total sent_by
carries f said K L same [] h s = record { joins = refl; session = refl; sent = refl; count = refl; rest = refl }
carries f said K L same (d ∷ ds) h s =
    let w = carries f said K L same ds (λ e m. h e (Memᴰ.tail m)) (answer_to K s d).session in
    let l = h d (Memᴰ.head refl) in
    record {
      joins = rw (l, w.joins);
      session = rw (same s d) w.session;
      sent = rw (same s d, w.sent);
      count = rw (same s d, w.count);
      rest = rw (same s d, l, w.rest);
    }

-- 1,024 bytes are enough for whatever asks no more
pub lends_as : (n : ℕ) → leb n 1024 ≡ true → (d : Delivery) → length d.output ≡ 1024 → leb 1024 (length d.output) ≡ leb n (length d.output)
lends_as n h d l = rw (l, h)
