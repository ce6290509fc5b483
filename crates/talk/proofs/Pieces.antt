-- The law of pieces, for every lawful side.
use Prim.Native.Nat.{ℕ}
use native.Mathlib.Nat.{add-zero}
use native.Mathlib.Omega.{arith}
use mathlib.Core.Path.{◌≡◌, ap, sym, ◌∙◌}
use mathlib.Core.List.{List, [], ◌++◌}
use lib.ListN.{length}
use Rattle.talk.specs.Talk.{Side, TalkOf, FedOf, feed, reached}
use Rattle.talk.specs.Tunnel.{Delivery, joined, receiver}
use Rattle.talk.specs.Lawful.{Lawful, Shaped}
use Rattle.talk.specs.Pieces.{tunnel_of, Pieces}
use Rattle.talk.proofs.Feed.{and_then, feed_append, feed_ready, feed_still, feed_within}
use Rattle.talk.proofs.Deliveries.{told}
use Rattle.talk.proofs.Accept.{Done, opens, parsed}

module _ (M : Side) (law : Lawful M) (room : ℕ) where
  done_reached : (f : FedOf M) (n : ℕ) (x : M.Result) → Done M f n x → reached f ≡ n
  done_reached f n x d = rw d.session (add-zero _ ∙ d.place)

  pub pieces : (t : TalkOf M) → Shaped M t → (ds : List Delivery) → Pieces M room t ds
  pieces t w ds =
      let f = feed M t [] in
      let bs = joined (receiver M room) ds in
      let a = told M law room ds f.session (feed_ready M law t w []) (feed_still M law t w []) in
      let k : feed M t bs ≡ and_then M f bs = feed_append M law t w [] bs in
      let c : (tunnel_of M room t ds).count ≡ reached (feed M t bs) = omega (arith, a.count, feed_within M law t [], ap (λ (x : FedOf M). reached x) k) in
      let s : (tunnel_of M room t ds).session ≡ (feed M t bs).session = a.session ∙ sym (ap (λ (x : FedOf M). x.session) k) in
      record {
        session = s;
        sent = ap (λ (x : List ℕ). f.sent ++ x) a.sent ∙ sym (ap (λ (x : FedOf M). x.sent) k);
        count = c;
        rest = a.rest;
        done_just = λ x. (λ q. parsed M law t bs x (sym s ∙ q), λ (p, b, y). s ∙ (opens M law t bs p x b y).session);
        done_count = λ x p b y. c ∙ done_reached (feed M t bs) (length p) x (opens M law t bs p x b y);
      }
