-- Talks in a row, fed: the first, and what it left to the next; their messages are the first's and then the next's.
use Prim.Native.Nat.{ℕ, ◌+◌}
use native.Mathlib.Nat.{zero-add, add_assoc}
use mathlib.Core.Path.{◌≡◌, refl, sym, subst, ◌∙◌}
use mathlib.Core.List.{List, [], ◌++◌, append_assoc}
use lib.ListN.{take, drop}
use lib.Seq.{drop-drop}
use Rattle.talk.specs.Decision.{Decision, undecided, decided, good, bad}
use Rattle.talk.specs.Talk.{done, failed, Talk, stop, send, await, Side, Session, waiting, ended, Fed, sending, moving, deciding, feed}
use Rattle.talk.specs.Lawful.{Shaped, Accepts}
use Rattle.talk.specs.Graft.{graft, then_on}
use Rattle.talk.proofs.Feed.{same_fed}

module _ {S R S' R' E : Type 0} (name : S → S') where
  on_sending : (s : Session S R E) (q sent : List ℕ) (place : ℕ) (on : R → Fed S' R' E) → sending q (then_on name s sent place on) ≡ then_on name s (q ++ sent) place on
  on_sending (waiting s h) q sent place on = refl
  on_sending (ended (failed e)) q sent place on = refl
  on_sending (ended (done r)) q sent place on = same_fed _ _ refl (sym (append_assoc q sent _)) refl

  on_moving : (s : Session S R E) (n : ℕ) (sent : List ℕ) (place : ℕ) (on : R → Fed S' R' E) → moving n (then_on name s sent place on) ≡ then_on name s sent (n + place) on
  on_moving (waiting s h) n sent place on = refl
  on_moving (ended (failed e)) n sent place on = refl
  on_moving (ended (done r)) n sent place on = same_fed _ _ refl refl (sym (add_assoc n place _))

  graft_await : (d : Decision E) (s : S) (bs : List ℕ) (on : ℕ → Fed S R E) (on' : ℕ → Fed S' R' E) (next : ℕ → R → Fed S' R' E)
      → ((n : ℕ) → on' n ≡ then_on name (on n).session (on n).sent (on n).place (next (n + (on n).place)))
      → (let f = deciding d (waiting s bs) on in deciding d (waiting (name s) bs) on' ≡ then_on name f.session f.sent f.place (next f.place))
  graft_await undecided s bs on on' next ih = refl
  graft_await (decided n (bad e)) s bs on on' next ih = refl
  graft_await (decided n good) s bs on on' next ih = rw (ih n) (on_moving (on n).session n (on n).sent (on n).place _)

-- two sides with the same errors: how they read, what is left at a stage, and how they refuse
module _ {S R S' R' E : Type 0} (reads : S → List ℕ → Decision E) (at : S → Talk S R E) (reads' : S' → List ℕ → Decision E) (at' : S' → Talk S' R' E) (over short : E) where
  abbrev M : Side
  M = record { Stage = S; Result = R; Error = E; reads = reads; talk_at = at; over = over; short = short }

  abbrev N : Side
  N = record { Stage = S'; Result = R'; Error = E; reads = reads'; talk_at = at'; over = over; short = short }

  module _ (name : S → S') (alike : (s : S) (bs : List ℕ) → reads' (name s) bs ≡ reads s bs) (next : R → Talk S' R' E) where
    pub feed_graft : (t : Talk S R E) (bs : List ℕ)
        → (let f = feed M t bs in feed N (graft name t next) bs ≡ then_on name f.session f.sent f.place (λ r. feed N (next r) (drop f.place bs)))
    unfolding feed graft
    feed_graft (stop (done r)) bs = same_fed _ _ refl refl (sym (zero-add _))
    feed_graft (stop (failed e)) bs = refl
    feed_graft (send q t) bs = rw (feed_graft t bs) (on_sending name (feed M t bs).session q _ _ _)
    feed_graft (await s k) bs =
        rw (alike s bs)
        (graft_await name (reads s bs) s bs (λ n. feed M (k (take n bs)) (drop n bs)) (λ n. feed N (graft name (k (take n bs)) next) (drop n bs)) (λ n r. feed N (next r) (drop n bs))
        (λ n. feed_graft (k (take n bs)) (drop n bs) ∙ simp drop-drop))

    pub record Both (t : Talk S R E) (p : List ℕ) (x : R') : Type 0 where
      pub first : List ℕ
      pub second : List ℕ
      pub result : R
      pub split : p ≡ first ++ second
      pub one : Accepts M t first result
      pub two : Accepts N (next result) second x

    pub accepts_graft : (t : Talk S R E) (a b : List ℕ) (r : R) (x : R') → Accepts M t a r → Accepts N (next r) b x → Accepts N (graft name t next) (a ++ b) x
    unfolding graft
    accepts_graft (stop (done z)) a b r x (e, w) u = subst (λ (y : List ℕ). Accepts N (next z) (y ++ b) x) (sym e) (subst (λ (y : R). Accepts N (next y) b x) (sym w) u)
    accepts_graft (stop (failed c)) a b r x e u = absurd e
    accepts_graft (send q t) a b r x e u = accepts_graft t a b r x e u
    accepts_graft (await s k) a b r x (m, l, e, h, w) u = (m, l ++ b, rw e (append_assoc m l b), alike s m ∙ h, accepts_graft (k m) l b r x w u)

    pub graft_accepts : (t : Talk S R E) (p : List ℕ) (x : R') → Accepts N (graft name t next) p x → Both t p x
    unfolding graft
    graft_accepts (stop (done r)) p x a = record { first = []; second = p; result = r; split = refl; one = (refl, refl); two = a }
    graft_accepts (stop (failed c)) p x a = absurd a
    graft_accepts (send q t) p x a =
        let b = graft_accepts t p x a in
        record { first = b.first; second = b.second; result = b.result; split = b.split; one = b.one; two = b.two }
    graft_accepts (await s k) p x (m, l, e, h, w) =
        let b = graft_accepts (k m) l x w in
        record {
          first = m ++ b.first;
          second = b.second;
          result = b.result;
          split = cc (b.split, append_assoc m b.first b.second);
          one = (m, b.first, refl, sym (alike s m) ∙ h, b.one);
          two = b.two;
        }

    -- it is of the whole's shape where both are, if the whole's stages say the same
    pub graft_shaped : ((s : S) → at' (name s) ≡ graft name (at s) next) → ((r : R) → Shaped N (next r)) → (t : Talk S R E) → Shaped M t → Shaped N (graft name t next)
    unfolding graft
    graft_shaped same h (stop (done r)) w = h r
    graft_shaped same h (stop (failed e)) w = tt
    graft_shaped same h (send q t) w = graft_shaped same h t w
    graft_shaped same h (await s k) w = (same s ∙ rw w.0, λ m. graft_shaped same h (k m) (w.1 m))
