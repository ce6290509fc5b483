-- 01, "Tunnel": the law of pieces: what is claimed of every lawful side, each talk of its shape and every list of deliveries.
use Rattle.std.specs.Prelude.{ℕ, ◌≡◌, ◌↔◌, List, [], length, drop}
use Rattle.talk.specs.Talk.{Side, TalkOf, done, SessionOf, ended, feed, reached}
use Rattle.talk.specs.Tunnel.{Delivery, joined, Tunnel, tunnel, receiver}
use Rattle.talk.specs.Lawful.{Accepts, Begins}

-- the tunnel of a talk: begun with no byte, then the deliveries
abbrev pub tunnel_of : (M : Side) → ℕ → TalkOf M → List Delivery → Tunnel (SessionOf M)
tunnel_of M room t ds = tunnel (receiver M room) (feed M t []).session (feed M t []).sent ds

pub record Pieces (M : Side) (room : ℕ) (t : TalkOf M) (ds : List Delivery) : Type 0 where
  -- fed in pieces equals fed at once
  pub session : (tunnel_of M room t ds).session ≡ (feed M t (joined (receiver M room) ds)).session
  pub sent : (tunnel_of M room t ds).sent ≡ (feed M t (joined (receiver M room) ds)).sent
  pub count : (tunnel_of M room t ds).count ≡ reached (feed M t (joined (receiver M room) ds))
  -- the rests joined are the joined bytes after the total count
  pub rest : (tunnel_of M room t ds).rest ≡ drop (tunnel_of M room t ds).count (joined (receiver M room) ds)
  -- done exactly when the bytes begin with accepted messages, and then so many are used
  pub done_just : (x : M.Result)
      → (tunnel_of M room t ds).session ≡ ended (done x) ↔ ((p : List ℕ) × Begins p (joined (receiver M room) ds) × Accepts M t p x)
  pub done_count : (x : M.Result) (p : List ℕ) → Begins p (joined (receiver M room) ds) → Accepts M t p x → (tunnel_of M room t ds).count ≡ length p
