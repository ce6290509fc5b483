-- What the end wants by its field and what it holds is what it wants by the plain machine and all that it was sent; and a piece of no more is used up where it leads to the question.
use Prim.Native.Nat.{ℕ, ◌+◌, ◌-◌, ◌≤◌}
use native.Mathlib.Nat.{le_refl}
use native.Mathlib.Omega.{arith}
use mathlib.Core.Path.{◌≡◌, refl, ap, sym, subst, ◌∙◌}
use mathlib.Core.Bool.{Bool, true, false, true≢false, cond, not, ◌&&◌}
use mathlib.Core.List.{List, [], ◌∷◌, ◌++◌, append-nil}
use lib.ListN.{length, take, drop, length-append}
use lib.Dec.{leb, ltb, eqb, lit≤}
use borrow.Author.Tests.{ltb-true}
use Rattle.protocol.specs.Bytes.{Bytes, byte}
use Rattle.protocol.specs.Opening.{announces}
use Rattle.protocol.specs.declared.SocksError.{SocksError}
use Rattle.protocol.proofs.Bytes.{bytes_left}
use Rattle.proxy_spec.specs.declared.Field.{Field}
use Rattle.proxy_spec.specs.declared.Field.TheVariants.{First, Methods, User, Password, Head, Address, Request, UserId, Name}
use Rattle.proxy_spec.specs.End as end
use Rattle.proxy_spec.specs.End.{Setup, Asked, End, Standing, machine}
use Rattle.proxy_spec.specs.Side.{EndTalk, EndSession, reads, talk_at, server, standing_of, ip_of}
use Rattle.protocol.specs.Wants.{Least}
use Rattle.proxy_spec.specs.Wants.{Waits, Asks, Settles, WantedBy}
use Rattle.proxy_spec.specs.Shortest.{lacking, agrees, takes4, wants_at, wants_by}
use Rattle.proxy_spec.proofs.Side.{server_lawful}
use Rattle.proxy_spec.proofs.Feed.{counted, machine_feed, standing_feed}
use Rattle.proxy_spec.proofs.Wanting as wanting
use Rattle.proxy_spec.proofs.Wanting.{Taking, Settling, Wanted}
use Rattle.proxy_spec.proofs.WantingLogin.{Sendable}
use Rattle.proxy_spec.proofs.Shortest.{shortest}
use Rattle.talk.specs.Decision.{Decision, undecided, decided, good, bad}
use Rattle.talk.specs.Talk.{done, failed, stop, send, await, waiting, ended, FedOf, feed, onward, is_over, reached, deciding}
use Rattle.talk.specs.Lawful.{Accepts}
use Rattle.talk.proofs.Feed.{feed_append, feed_exact, feed_ready}
use Rattle.talk.proofs.Accept.{opens, parsed}

least_as : {P Q : List ℕ → Type 0} {n : ℕ} → ((bs : List ℕ) → P bs → Q bs) → ((bs : List ℕ) → Q bs → P bs) → Least P n → Least Q n
least_as f g l = record { stream = l.stream; bytes = l.bytes; is = f l.stream l.is; long = l.long; none_shorter = λ bs y q. l.none_shorter bs y (g bs q) }

-- bytes that begin as others do, and are no fewer, begin with them
parted : (h r p q : List ℕ) → h ++ r ≡ p ++ q → length h ≤ length p → (b : List ℕ) × (p ≡ h ++ b) × (r ≡ b ++ q)
parted [] r p q e l = (p, refl, e)
parted (x ∷ h) r [] q e l = absurd (omega arith)
parted (x ∷ h) r (y ∷ p) q e l =
    let t : h ++ r ≡ p ++ q = cc in
    let z : y ≡ x = cc in
    let (b, u, v) = parted h r p q t (omega arith) in
    (b, (λ i. z i ∷ u i), v)

no_rest : (l p r : List ℕ) → l ≡ p ++ r → length p ≡ length l → p ≡ l
no_rest l p [] e n = sym (e ∙ append-nil p)
no_rest l p (x ∷ r) e n = absurd (omega (arith, ap length e, length-append p (x ∷ r)))

-- ---- standings and sessions

done_of : (m : EndSession) (x : Asked) → standing_of m ≡ end.asks x → m ≡ ended (done x)
done_of (waiting f h) x q = let z : ◌≡◌ {A = ℕ} 0 1 = cc in absurd (omega arith)
done_of (ended (done y)) x q = let e : y ≡ x = cc in rw e
done_of (ended (failed e)) x q = let z : ◌≡◌ {A = ℕ} 0 1 = cc in absurd (omega arith)

over_of : (m : EndSession) → (standing_of m ≡ end.waits → ⊥) → is_over m ≡ true
over_of (waiting f h) n = absurd (n refl)
over_of (ended e) n = refl

settled_of : (m : EndSession) → is_over m ≡ true → standing_of m ≡ end.waits → ⊥
settled_of (waiting f h) o q = true≢false (sym o)
settled_of (ended (done x)) o q = let z : ◌≡◌ {A = ℕ} 0 1 = cc in omega arith
settled_of (ended (failed e)) o q = let z : ◌≡◌ {A = ℕ} 0 1 = cc in omega arith

module _ (c : Setup) where
  -- an end that waits holds bytes that do not decide its field
  waits_await : (s : Field) (bs : List ℕ) (on : ℕ → FedOf (server c)) (f : Field) (h : List ℕ) (d : Decision SocksError) → reads s bs ≡ d → (deciding d (waiting s bs) on).session ≡ waiting f h
      → ((n : ℕ) → (on n).session ≡ waiting f h → reads f h ≡ undecided) → reads f h ≡ undecided
  waits_await s bs on f h undecided e q ih = let p : s ≡ f = cc in let r : bs ≡ h = cc in rw (← p, ← r) e
  waits_await s bs on f h (decided n good) e q ih = ih n q
  waits_await s bs on f h (decided n (bad x)) e q ih = let z : ◌≡◌ {A = ℕ} 0 1 = cc in absurd (omega arith)

  waits_held : (t : EndTalk) (bs : List ℕ) (f : Field) (h : List ℕ) → (feed (server c) t bs).session ≡ waiting f h → reads f h ≡ undecided
  unfolding feed
  waits_held (stop e) bs f h q = let z : ◌≡◌ {A = ℕ} 0 1 = cc in absurd (omega arith)
  waits_held (send r t) bs f h q = waits_held t bs f h q
  waits_held (await s k) bs f h q = waits_await s bs _ f h (reads s bs) refl q (λ n z. waits_held (k (take n bs)) (drop n bs) f h z)

  abbrev start : EndTalk
  start = talk_at c First

  -- ---- from an end that was sent J, waits, and holds the last of it

  module _ (J : List ℕ) (f : Field) (h : List ℕ) (e : (feed (server c) start J).session ≡ waiting f h) where
    abbrev further : List ℕ → FedOf (server c)
    further bs = onward (server c) (waiting f h) bs

    fed_on : (bs : List ℕ) → ((feed (server c) start (J ++ bs)).session ≡ (further bs).session) × ((feed (server c) start (J ++ bs)).place ≡ (feed (server c) start J).place + (further bs).place)
    fed_on bs =
        let a = feed_append (server c) (server_lawful c) start ((server_lawful c).shaped First) J bs in
        (ap (λ (x : FedOf (server c)). x.session) a ∙ rw e, ap (λ (x : FedOf (server c)). x.place) a ∙ rw e)

    held_last : (feed (server c) start J).place + length h ≡ length J
    held_last = rw e at (feed_exact (server c) (server_lawful c) start J (rw e))

    standing_on : (bs : List ℕ) → (machine c (J ++ bs)).standing ≡ standing_of (further bs).session
    standing_on bs = standing_feed c (J ++ bs) ∙ ap standing_of (fed_on bs).0

    -- once it asks, the places are the same
    place_on : (bs : List ℕ) (x : Asked) → (machine c (J ++ bs)).standing ≡ end.asks x → (machine c (J ++ bs)).place ≡ (feed (server c) start J).place + (further bs).place
    place_on bs x q =
        let m = ap (λ (y : End). y.place) (machine_feed c (J ++ bs)) in
        let r = sym (standing_feed c (J ++ bs)) ∙ q in
        let k : (machine c (J ++ bs)).place ≡ (feed (server c) start (J ++ bs)).place = sym (ap (λ (y : Standing). counted y (machine c (J ++ bs)).place) q) ∙ m ∙ ap (λ (y : Standing). counted y (feed (server c) start (J ++ bs)).place) r in
        k ∙ (fed_on bs).1

    taking_of : (bs : List ℕ) → Asks c J bs → Taking c f h bs
    unfolding onward
    taking_of bs (x, s, n) =
        let d = done_of (further bs).session x (sym (standing_on bs) ∙ s) in
        let (p, (r, b), a) = parsed (server c) (server_lawful c) (talk_at c f) (h ++ bs) x d in
        let o = opens (server c) (server_lawful c) (talk_at c f) (h ++ bs) p x (r, b) a in
        let l = place_on bs x s in
        (x, subst (λ (i : List ℕ). Accepts (server c) (talk_at c f) i x) (no_rest (h ++ bs) p r b (omega (arith, o.place, held_last, length-append J bs, length-append h bs))) a)

    asks_of : (bs : List ℕ) → Taking c f h bs → Asks c J bs
    unfolding onward
    asks_of bs (x, a) =
        let o = opens (server c) (server_lawful c) (talk_at c f) (h ++ bs) (h ++ bs) x ([], sym (append-nil (h ++ bs))) a in
        let s : (machine c (J ++ bs)).standing ≡ end.asks x = standing_on bs ∙ ap standing_of o.session in
        (x, s, place_on bs x s ∙ omega (arith, o.place, held_last, length-append J bs, length-append h bs))

    settling_of : (bs : List ℕ) → Settles c J bs → Settling c f h bs
    unfolding onward
    settling_of bs n = over_of (further bs).session (λ q. n (standing_on bs ∙ q))

    settles_of : (bs : List ℕ) → Settling c f h bs → Settles c J bs
    unfolding onward
    settles_of bs o q = settled_of (further bs).session o (sym (standing_on bs) ∙ q)

    waits_now : Waits c J
    waits_now = standing_feed c J ∙ ap standing_of e

    waiting_wants : (n : ℕ) → Wanted c f h n → WantedBy c J n
    waiting_wants n (wanting.asks l) =
        record {
          settled = λ never. absurd (never waits_now);
          asks = λ w bs y k. least_as asks_of taking_of l;
          fails = λ w none. absurd (none l.stream l.bytes (asks_of l.stream l.is));
        }
    waiting_wants n (wanting.fails never l) =
        record {
          settled = λ m. absurd (m waits_now);
          asks = λ w bs y k. absurd (never bs (taking_of bs k));
          fails = λ w none. least_as settles_of settling_of l;
        }

    never_by : (n : ℕ) → Wanted c f h n → (piece : List ℕ) → Bytes piece → length piece ≤ n → (x : Asked) → (further piece).session ≡ ended (done x) → reached (further piece) ≡ length h + length piece
    unfolding onward
    never_by n w piece y l x d =
        let (p, (r, b), a) = parsed (server c) (server_lawful c) (talk_at c f) (h ++ piece) x d in
        let o = opens (server c) (server_lawful c) (talk_at c f) (h ++ piece) p x (r, b) a in
        let z : reached (further piece) ≡ length p = rw d (omega (arith, o.place)) in
        let q : length h ≤ reached (further piece) = rw e at (feed_ready (server c) (server_lawful c) start ((server_lawful c).shaped First) J) piece in
        let (k, u, v) = parted h piece p r b (omega arith) in
        go w k p r u v z (x, subst (λ (i : List ℕ). Accepts (server c) (talk_at c f) i x) u a)
      where
        go : Wanted c f h n → (k p r : List ℕ) → p ≡ h ++ k → piece ≡ k ++ r → reached (further piece) ≡ length p → Taking c f h k → reached (further piece) ≡ length h + length piece
        go (wanting.asks m) k p r u v z t = omega (arith, z, ap length u, ap length v, length-append h k, length-append k r, m.none_shorter k (bytes_left k r (rw v at y)) t)
        go (wanting.fails never m) k p r u v z t = absurd (never k t)

  -- ---- at any time

  module _ (s : Sendable c) where
    pub wanted : (J : List ℕ) → WantedBy c J (wants_by c (feed (server c) start J).session)
    wanted J = go (feed (server c) start J).session refl
      where
        over : (m : EndSession) → (feed (server c) start J).session ≡ m → is_over m ≡ true → WantedBy c J 0
        over m e o =
            let n : Waits c J → ⊥ = λ q. settled_of m o (ap standing_of (sym e) ∙ sym (standing_feed c J) ∙ q) in
            record { settled = λ never. refl; asks = λ w. absurd (n w); fails = λ w. absurd (n w) }

        go : (m : EndSession) → (feed (server c) start J).session ≡ m → WantedBy c J (wants_by c m)
        go (waiting f h) e = waiting_wants J f h e (wants_at c f h) (shortest c s f h (waits_held start J f h e))
        go (ended x) e = over (ended x) e refl

    pub never_past : (J : List ℕ) (f : Field) (h : List ℕ) → (feed (server c) start J).session ≡ waiting f h → (piece : List ℕ) → Bytes piece → length piece ≤ wants_at c f h
        → (x : Asked) → (onward (server c) (waiting f h) piece).session ≡ ended (done x) → reached (onward (server c) (waiting f h) piece) ≡ length h + length piece
    never_past J f h e = never_by J f h e (wants_at c f h) (shortest c s f h (waits_held start J f h e))

-- two set-ups with the same machine want the same
pub wanted_alike : (c d : Setup) → ((bs : List ℕ) → machine c bs ≡ machine d bs) → (J : List ℕ) (n : ℕ) → WantedBy c J n → WantedBy d J n
wanted_alike c d e J n w =
    record {
      settled = λ never. w.settled (λ q. never ((stand J).1 q));
      asks = λ q bs y k. least_as (λ l. (ask l).1) (λ l. (ask l).0) (w.asks ((stand J).0 q) bs y ((ask bs).0 k));
      fails = λ q none. least_as (λ l m z. m ((stand (J ++ l)).0 z)) (λ l m z. m ((stand (J ++ l)).1 z)) (w.fails ((stand J).0 q) (λ bs y k. none bs y ((ask bs).1 k)));
    }
  where
    stand : (l : List ℕ) → (Waits d l → Waits c l) × (Waits c l → Waits d l)
    stand l = (λ q. ap (λ (m : End). m.standing) (e l) ∙ q, λ q. ap (λ (m : End). m.standing) (sym (e l)) ∙ q)

    ask : (bs : List ℕ) → (Asks d J bs → Asks c J bs) × (Asks c J bs → Asks d J bs)
    ask bs = (
      λ (x, s, p). (x, ap (λ (m : End). m.standing) (e (J ++ bs)) ∙ s, ap (λ (m : End). m.place) (e (J ++ bs)) ∙ p),
      λ (x, s, p). (x, ap (λ (m : End). m.standing) (sym (e (J ++ bs))) ∙ s, ap (λ (m : End). m.place) (sym (e (J ++ bs))) ∙ p),
    )

-- ---- at least one while it waits, whatever it holds
lacking_some : (n : ℕ) (h : List ℕ) → 1 ≤ lacking n h
lacking_some n h = go (ltb (length h) n) refl
  where
    go : (b : Bool) → ltb (length h) n ≡ b → 1 ≤ cond b (n - length h) 1
    go true e = omega (arith, ltb-true (length h) n e)
    go false e = le_refl 1

either_some : (b : Bool) (n m : ℕ) → 1 ≤ n → 1 ≤ m → 1 ≤ cond b n m
either_some true n m p q = p
either_some false n m p q = q

pub wants_some : (c : Setup) (f : Field) (h : List ℕ) → 1 ≤ wants_at c f h
unfolding wants_at
wants_some c First h = either_some c.authenticates _ 9 (omega arith) (lit≤ tt)
wants_some c Methods h = lacking_some _ h
wants_some c User h = either_some (agrees 1 h c.user) _ _ (lacking_some _ h) (lacking_some _ h)
wants_some c (Password right) h = either_some (right && agrees 0 h c.password) _ _ (lacking_some _ h) (lacking_some _ h)
wants_some c Head h = either_some (leb 2 (length h) && not (eqb (byte h 1) 1)) 1 _ (le_refl 1) (lacking_some _ h)
wants_some c (Address command type) h = lacking_some _ h
wants_some c Request h = lacking_some 8 h
wants_some c (UserId p) h = either_some (announces (ip_of p)) _ 1 (either_some (takes4 c.authenticates p) 3 _ (lit≤ tt) (either_some (leb 255 (length h)) 1 2 (le_refl 1) (lit≤ tt))) (le_refl 1)
wants_some c (Name p) h = either_some (takes4 c.authenticates p && ltb (length h) 1) 2 1 (lit≤ tt) (le_refl 1)
