-- A list of deliveries to a side's session is its joined bytes, fed at once.
use Prim.Native.Nat.{ℕ, ◌+◌, ◌-◌, ◌≤◌}
use native.Mathlib.Nat.{add-zero, zero-add}
use native.Mathlib.Omega.{arith}
use mathlib.Core.Path.{◌≡◌, refl, sym}
use mathlib.Core.Bool.{Bool, true, false}
use mathlib.Core.List.{List, [], ◌∷◌, ◌++◌}
use lib.ListN.{length, take, drop}
use lib.Seq.{drop-append-le, take-append_seam, drop-append-add, drop-length}
use Rattle.talk.specs.Talk.{Side, waiting, ended, SessionOf, onward, held_by, is_over, reached}
use Rattle.talk.specs.Tunnel.{Delivery, lends, answer_to, after, joined, rests, total, sent_by, given, deliver, receiver}
use Rattle.talk.specs.Lawful.{Lawful}
use Rattle.talk.proofs.Feed.{Ready, Still, onward_append, onward_ready, onward_still, onward_within, onward_exact, onward_over}

module _ (M : Side) (law : Lawful M) (room : ℕ) where
  -- an empty piece changes nothing, as it should
  given_onward : (s : SessionOf M) → Still M s → (piece : List ℕ) → given M s piece ≡ onward M s piece
  given_onward s w [] = sym w
  given_onward s w (b ∷ bs) = refl

  -- one delivery that lends enough
  pub record Lent (s : SessionOf M) (d : Delivery) : Type 0 where
    pub session : (answer_to (receiver M room) s d).session ≡ (onward M s d.piece).session
    pub used : (answer_to (receiver M room) s d).used ≡ reached (onward M s d.piece) - length (held_by s)
    pub sent : take (answer_to (receiver M room) s d).sent (answer_to (receiver M room) s d).output ≡ (onward M s d.piece).sent

  pub lent : (s : SessionOf M) (d : Delivery) → Still M s → lends (receiver M room) d ≡ true → Lent s d
  unfolding deliver onward
  lent (waiting s held) d w e =
      let g = given_onward (waiting s held) w d.piece in
      record { session = rw (e, g); used = rw (e, g); sent = rw (e, g) (take-append_seam _ _) }
  lent (ended x) d w e = record { session = refl; used = refl; sent = refl }

  -- one that does not
  pub record Unlent (s : SessionOf M) (d : Delivery) : Type 0 where
    pub session : (answer_to (receiver M room) s d).session ≡ s
    pub used : (answer_to (receiver M room) s d).used ≡ 0
    pub sent : take (answer_to (receiver M room) s d).sent (answer_to (receiver M room) s d).output ≡ []

  pub unlent : (s : SessionOf M) (d : Delivery) → lends (receiver M room) d ≡ false → Unlent s d
  unfolding deliver onward
  unlent (waiting s held) d e = record { session = rw e; used = rw e; sent = rw e }
  unlent (ended x) d e = record { session = refl; used = refl; sent = refl }

  pub record Told (s : SessionOf M) (ds : List Delivery) : Type 0 where
    pub session : after (receiver M room) s ds ≡ (onward M s (joined (receiver M room) ds)).session
    pub sent : sent_by (receiver M room) s ds ≡ (onward M s (joined (receiver M room) ds)).sent
    pub count : total (receiver M room) s ds + length (held_by s) ≡ reached (onward M s (joined (receiver M room) ds))
    pub rest : rests (receiver M room) s ds ≡ drop (total (receiver M room) s ds) (joined (receiver M room) ds)

  told_nil : (s : SessionOf M) → Still M s → Told s []
  unfolding after sent_by total rests joined
  told_nil s w = record { session = rw w; sent = rw w; count = rw w; rest = refl }

  told_unlent : (s : SessionOf M) (d : Delivery) (ds : List Delivery) → lends (receiver M room) d ≡ false → Told s ds → Told s (d ∷ ds)
  unfolding after sent_by total rests joined
  told_unlent s d ds e t =
      let u = unlent s d e in
      record {
        session = rw (u.session, e) t.session;
        sent = rw (u.session, u.sent, e) t.sent;
        count = rw (u.session, u.used, e, zero-add) t.count;
        rest = rw (u.session, u.used, e, zero-add) t.rest;
      }

  rest_joins : (s : SessionOf M) (p j : List ℕ) (used later : ℕ)
      → used ≡ reached (onward M s p) - length (held_by s)
      → length (held_by s) ≤ reached (onward M s p)
      → later + length (held_by (onward M s p).session) ≡ reached (onward M (onward M s p).session j)
      → drop used p ++ drop later j ≡ drop (used + later) (p ++ j)
  rest_joins s p j used later u r c = go (is_over (onward M s p).session) refl
    where
      go : (b : Bool) → is_over (onward M s p).session ≡ b → drop used p ++ drop later j ≡ drop (used + later) (p ++ j)
      go true e =
          let z : later ≡ 0 = omega (arith, rw (onward_over M law (onward M s p).session j e) at c) in
          rw (z, add-zero, drop-append-le used p j (omega (arith, onward_within M law s p)))
      go false e =
          let z : used ≡ length p = omega (arith, onward_exact M law s p e) in
          rw (z, drop-length, drop-append-add)

  told_lent : (s : SessionOf M) (d : Delivery) (ds : List Delivery) → lends (receiver M room) d ≡ true → Ready M s → Still M s
      → Told (onward M s d.piece).session ds → Told s (d ∷ ds)
  unfolding after sent_by total rests joined
  told_lent s d ds e r w t =
      let l = lent s d w e in
      record {
        session = rw (l.session, e, onward_append M law) t.session;
        sent = rw (l.session, l.sent, e, onward_append M law, t.sent);
        count = rw (l.session, l.used, e, onward_append M law) (omega (arith, r d.piece, t.count));
        rest = rw (l.session, e, t.rest) (rest_joins s d.piece (joined (receiver M room) ds) (answer_to (receiver M room) s d).used _ l.used (r d.piece) t.count);
      }

  pub told : (ds : List Delivery) (s : SessionOf M) → Ready M s → Still M s → Told s ds
  told [] s r w = told_nil s w
  told (d ∷ ds) s r w = go (lends (receiver M room) d) refl (λ s' r' w'. told ds s' r' w')
    where
      go : (b : Bool) → lends (receiver M room) d ≡ b → ((s' : SessionOf M) → Ready M s' → Still M s' → Told s' ds) → Told s (d ∷ ds)
      go true e ih = told_lent s d ds e r w (ih _ (onward_ready M law s d.piece) (onward_still M law s d.piece))
      go false e ih = told_unlent s d ds e (ih s r w)
