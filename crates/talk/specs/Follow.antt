-- 01, "Tunnel": two receivers that answer alike, and what their tunnels then have alike.
use Rattle.std.specs.Prelude.{◌≡◌, List, take}
use Rattle.talk.specs.Tunnel.{Answer, Receiver, Delivery, after, rests, total, sent_by}

-- two answers, with the sessions related
pub record Alike {X Y A B : Type 0} (R : X → Y → Type 0) (a : Answer X A) (b : Answer Y B) : Type 0 where
  pub session : R a.session b.session
  pub used : a.used ≡ b.used
  pub sent : take a.sent a.output ≡ take b.sent b.output

-- the tunnels of two sessions, over the same deliveries
pub record Followed {X Y A B : Type 0} (R : X → Y → Type 0) (K : Receiver X A) (L : Receiver Y B) (x : X) (y : Y) (ds : List Delivery) : Type 0 where
  pub session : R (after K x ds) (after L y ds)
  pub sent : sent_by K x ds ≡ sent_by L y ds
  pub count : total K x ds ≡ total L y ds
  pub rest : rests K x ds ≡ rests L y ds
