-- The shortest stream that completes a talk, or ends it: by its first message and what follows; behind bytes that came, by what is held.
use Prim.Native.Nat.{ℕ, ◌+◌, ◌≤◌}
use native.Mathlib.Nat.{add-zero}
use native.Mathlib.Omega.{arith}
use mathlib.Core.Path.{◌≡◌, refl, ap, sym, ◌∙◌}
use mathlib.Core.Bool.{Bool, true, false, cond, true≢false}
use mathlib.Core.List.{List, [], ◌∷◌, ◌++◌, append_assoc, append-nil}
use lib.ListN.{length, take, drop, length-append, take-append-drop}
use lib.Dec.{leb}
use borrow.Author.Tests.{leb-true, leb-false, le-leb}
use Rattle.protocol.specs.Bytes.{Bytes}
use Rattle.protocol.specs.Wants.{Some, Least, Wanted}
use Rattle.protocol.proofs.Bytes.{bytes_join, bytes_left, bytes_right}
use Rattle.talk.specs.Decision.{Verdict, Decision, undecided, decided, good, bad}
use Rattle.talk.specs.Talk.{done, stop, send, await, Side, waiting, ended, TalkOf, SessionOf, FedOf, deciding, feed, onward, is_over, reached}
use Rattle.talk.specs.Lawful.{Lawful, Shaped, Good, Accepts}
use Rattle.talk.proofs.Feed.{Ready, Still, and_then, feed_append, feed_exact, stays_of}
use Rattle.talk.proofs.Deliveries.{Lent, lent, unlent}
use Rattle.talk.specs.Tunnel.{Receiver, Delivery, lends, answer_to, receiver}
use Rattle.talk.specs.Follow.{Alike}
use Rattle.talk.proofs.Accept.{Done, opens, parsed, decides_first}

-- ---- streams

-- two kinds of byte stream that are one
pub least_same : {P Q : List ℕ → Type 0} {n : ℕ} → ((bs : List ℕ) → Bytes bs → P bs → Q bs) → ((bs : List ℕ) → Bytes bs → Q bs → P bs) → Least P n → Least Q n
least_same f g l =
    record { stream = l.stream; bytes = l.bytes; is = f l.stream l.bytes l.is; long = l.long; none_shorter = λ bs y q. l.none_shorter bs y (g bs y q) }

-- two ways to cut a list: where the second is no shorter, it goes on from the first
pub further : (h bs m l : List ℕ) → h ++ bs ≡ m ++ l → length h ≤ length m → (a : List ℕ) × (m ≡ h ++ a) × (bs ≡ a ++ l)
further [] bs m l e k = (m, refl, e)
further (c ∷ h) bs [] l e k = absurd (omega arith)
further (c ∷ h) bs (d ∷ m) l e k =
    let q : h ++ bs ≡ m ++ l = cc in
    let (a, p, r) = further h bs m l q (omega arith) in
    (a, cc, r)

all_of : (p f bs : List ℕ) → bs ≡ p ++ f → length bs ≡ length p → bs ≡ p
all_of p [] bs e l = e ∙ append-nil p
all_of p (c ∷ f) bs e l = absurd (omega (arith, ap length e, length-append p (c ∷ f)))

-- ---- messages and talks of a lawful side

module _ (M : Side) (law : Lawful M) where
  -- behind held bytes, others make up a good message; and decide one
  abbrev pub GoodBehind : M.Stage → List ℕ → List ℕ → Type 0
  GoodBehind s h bs = Good M s (h ++ bs)

  abbrev pub DecidedBehind : M.Stage → List ℕ → List ℕ → Type 0
  DecidedBehind s h bs = M.reads s (h ++ bs) ≡ undecided → ⊥

  -- whether a message that has so far come can be good, and how many bytes it then lacks at the least, or else to be decided
  pub record Turn (s : M.Stage) (h : List ℕ) (n : ℕ) (b : Bool) : Type 0 where
    pub goods : b ≡ true → Least (GoodBehind s h) n
    pub none : b ≡ false → Some (GoodBehind s h) → ⊥
    pub decides : b ≡ false → Least (DecidedBehind s h) n

  -- the same of a talk: they make up its messages; and end it
  abbrev pub Rest : TalkOf M → List ℕ → List ℕ → Type 0
  Rest t h bs = (x : M.Result) × Accepts M t (h ++ bs) x

  abbrev pub Ends : TalkOf M → List ℕ → List ℕ → Type 0
  Ends t h bs = is_over (feed M t (h ++ bs)).session ≡ true

  pub record Lacks (t : TalkOf M) (h : List ℕ) (n : ℕ) (b : Bool) : Type 0 where
    pub completes : b ≡ true → Least (Rest t h) n
    pub none : b ≡ false → Some (Rest t h) → ⊥
    pub settles : b ≡ false → Least (Ends t h) n

  -- a message that decides has more than the undecided bytes that it goes on from
  longer : (s : M.Stage) (h bs m l : List ℕ) (v : Verdict M.Error) → M.reads s h ≡ undecided → h ++ bs ≡ m ++ l → M.reads s m ≡ decided (length m) v → length h ≤ length m
  longer s h bs m l v u e g = go (leb (length h) (length m)) refl
    where
      go : (b : Bool) → leb (length h) (length m) ≡ b → length h ≤ length m
      go true q = leb-true (length h) (length m) q
      go false q =
          let w = leb-false (length h) (length m) q in
          let (a, p, r) = further m l h bs (sym e) (omega arith) in
          let z = ap (M.reads s) p ∙ stays_of (law.stable s m a) (length m) v g in
          let y : ◌≡◌ {A = ℕ} 0 1 = cc in
          absurd (omega arith)

  module _ (s : M.Stage) (k : List ℕ → TalkOf M) (h : List ℕ) (u : M.reads s h ≡ undecided) where
    -- a stream that completes a talk at a wait: a good message, and what completes the rest
    cut : (bs : List ℕ) (x : M.Result) → Accepts M (await s k) (h ++ bs) x → (a : List ℕ) × (l : List ℕ) × (bs ≡ a ++ l) × GoodBehind s h a × Accepts M (k (h ++ a)) l x
    cut bs x (m, l, e, g, w) =
        let (a, p, q) = further h bs m l e (longer s h bs m l good u e g) in
        (a, l, q, rw p at g, rw p at w)

    -- what is decided good begins with a good message
    begins_good : (bs : List ℕ) (n : ℕ) → Bytes bs → M.reads s (h ++ bs) ≡ decided n good → Some (GoodBehind s h)
    begins_good bs n y r =
        let g = decides_first M law s (h ++ bs) n good r in
        let e = sym (take-append-drop n (h ++ bs)) in
        let (a, p, q) = further h bs (take n (h ++ bs)) (drop n (h ++ bs)) e (longer s h bs (take n (h ++ bs)) (drop n (h ++ bs)) good u e g) in
        (a, bytes_left a (drop n (h ++ bs)) (rw q at y), rw p at g)

    over_await : (bs : List ℕ) → ((n : ℕ) → M.reads s (h ++ bs) ≡ decided n good → ⊥) → DecidedBehind s h bs → Ends (await s k) h bs
    unfolding feed
    over_await bs f d = go (M.reads s (h ++ bs)) refl
      where
        go : (r : Decision M.Error) → M.reads s (h ++ bs) ≡ r → is_over (deciding r (waiting s (h ++ bs)) (λ n. feed M (k (take n (h ++ bs))) (drop n (h ++ bs)))).session ≡ true
        go undecided e = absurd (d e)
        go (decided n good) e = absurd (f n e)
        go (decided n (bad x)) e = refl

    await_over : (bs : List ℕ) → Ends (await s k) h bs → DecidedBehind s h bs
    unfolding feed
    await_over bs w e = true≢false (sym w ∙ rw e)

    -- at a wait: its message's and, where that can be good, those of the shortest streams behind it
    pub lacks_await : (n j : ℕ) (b : Bool) → Turn s h n b → (b ≡ true → (m : List ℕ) → Least (Rest (k m) []) j) → Lacks (await s k) h (n + cond b j 0) b
    lacks_await n j true t f =
        let g = t.goods refl in
        let r = f refl (h ++ g.stream) in
        record {
          completes = λ q. record {
            stream = g.stream ++ r.stream;
            bytes = bytes_join g.stream r.stream g.bytes r.bytes;
            is = (r.is.0, (h ++ g.stream, r.stream, sym (append_assoc h g.stream r.stream), g.is, r.is.1));
            long = omega (arith, length-append g.stream r.stream, g.long, r.long);
            none_shorter = λ bs y (x, w).
                let (a, l, e, i, v) = cut bs x w in
                let y' = rw e at y in
                omega (arith, g.none_shorter a (bytes_left a l y') i, (f refl (h ++ a)).none_shorter l (bytes_right a l y') (x, v), ap length e, length-append a l);
          };
          none = λ q. absurd (true≢false q);
          settles = λ q. absurd (true≢false q);
        }
    lacks_await n j false t f =
        let d = t.decides refl in
        record {
          completes = λ q. absurd (true≢false (sym q));
          none = λ q (bs, y, (x, w)). let (a, l, e, i, v) = cut bs x w in t.none refl (a, bytes_left a l (rw e at y), i);
          settles = λ q. record {
            stream = d.stream;
            bytes = d.bytes;
            is = over_await d.stream (λ n r. t.none refl (begins_good d.stream n d.bytes r)) d.is;
            long = omega (arith, d.long);
            none_shorter = λ bs y w. omega (arith, d.none_shorter bs y (await_over bs w));
          };
        }

  -- a talk that is done lacks nothing
  pub least_done : (x : M.Result) → Least (Rest (stop (done x)) []) 0
  least_done x = record { stream = []; bytes = λ i. omega arith; is = (x, (refl, refl)); long = refl; none_shorter = λ bs y w. omega arith }

  -- ---- behind bytes that came

  record Whole (t : TalkOf M) (p : List ℕ) (x : M.Result) : Type 0 where
    session : (feed M t p).session ≡ ended (done x)
    place : (feed M t p).place ≡ length p

  whole_of : (t : TalkOf M) (p : List ℕ) (x : M.Result) → Accepts M t p x → Whole t p x
  whole_of t p x a = let d = opens M law t p p x ([], sym (append-nil p)) a in record { session = d.session; place = d.place }

  whole_is : (t : TalkOf M) (p : List ℕ) (x : M.Result) → Whole t p x → Accepts M t p x
  whole_is t p x w =
      let (q, (f, e), a) = parsed M law t p x w.session in
      let d = opens M law t p q x (f, e) a in
      rw (all_of q f p e (sym w.place ∙ d.place)) a

  module _ (t : TalkOf M) (v : Shaped M t) (came : List ℕ) (s : M.Stage) (h : List ℕ) (w : (feed M t came).session ≡ waiting s h) where
    fed_on : (bs : List ℕ) → feed M t (came ++ bs) ≡ and_then M (feed M t came) bs
    fed_on bs = feed_append M law t v came bs

    on_session : (bs : List ℕ) → (feed M t (came ++ bs)).session ≡ (feed M (M.talk_at s) (h ++ bs)).session
    unfolding onward
    on_session bs = ap (λ (f : FedOf M). f.session) (fed_on bs) ∙ ap (λ (m : SessionOf M). (onward M m bs).session) w

    on_place : (bs : List ℕ) → (feed M t (came ++ bs)).place ≡ (feed M t came).place + (feed M (M.talk_at s) (h ++ bs)).place
    unfolding onward
    on_place bs = ap (λ (f : FedOf M). f.place) (fed_on bs) ∙ ap (λ (m : SessionOf M). (feed M t came).place + (onward M m bs).place) w

    held : (feed M t came).place + length h ≡ length came
    held = let z = feed_exact M law t came (rw w) in rw w at z

    rest_of : (bs : List ℕ) → Rest (M.talk_at s) h bs → Rest t came bs
    rest_of bs (x, a) =
        let u = whole_of (M.talk_at s) (h ++ bs) x a in
        (x, whole_is t (came ++ bs) x (record { session = on_session bs ∙ u.session; place = omega (arith, on_place bs, u.place, held, length-append h bs, length-append came bs) }))

    rest_is : (bs : List ℕ) → Rest t came bs → Rest (M.talk_at s) h bs
    rest_is bs (x, a) =
        let u = whole_of t (came ++ bs) x a in
        (x, whole_is (M.talk_at s) (h ++ bs) x (record { session = sym (on_session bs) ∙ u.session; place = omega (arith, on_place bs, u.place, held, length-append h bs, length-append came bs) }))

    pub lacks_behind : (n : ℕ) (b : Bool) → Lacks (M.talk_at s) h n b → Lacks t came n b
    lacks_behind n b l =
        record {
          completes = λ q. least_same (λ bs y. rest_of bs) (λ bs y. rest_is bs) (l.completes q);
          none = λ q (bs, y, r). l.none q (bs, y, rest_is bs r);
          settles = λ q. least_same (λ bs y o. ap is_over (on_session bs) ∙ o) (λ bs y o. sym (ap is_over (on_session bs)) ∙ o) (l.settles q);
        }

  -- ---- of a session

  -- one that waits holds what is not decided
  pub waits_undecided : (t : TalkOf M) (bs : List ℕ) (s : M.Stage) (h : List ℕ) → (feed M t bs).session ≡ waiting s h → M.reads s h ≡ undecided
  unfolding feed
  waits_undecided (stop e) bs s h q = let z : ◌≡◌ {A = ℕ} 0 1 = cc in absurd (omega arith)
  waits_undecided (send p t) bs s h q = waits_undecided t bs s h q
  waits_undecided (await r k) bs s h q = go (M.reads r bs) refl q (λ n. waits_undecided (k (take n bs)) (drop n bs) s h)
    where
      same : (a b : M.Stage) (c d : List ℕ) → ◌≡◌ {A = SessionOf M} (waiting a c) (waiting b d) → M.reads a c ≡ M.reads b d
      same a b c d e = let (f, g) : (a ≡ b) × (c ≡ d) = (cc, cc) in λ i. M.reads (f i) (g i)

      go : (d : Decision M.Error) → M.reads r bs ≡ d → (deciding d (waiting r bs) (λ n. feed M (k (take n bs)) (drop n bs))).session ≡ waiting s h
          → ((n : ℕ) → (feed M (k (take n bs)) (drop n bs)).session ≡ waiting s h → M.reads s h ≡ undecided) → M.reads s h ≡ undecided
      go undecided e w ih = sym (same r s bs h w) ∙ e
      go (decided n good) e w ih = ih n w
      go (decided n (bad x)) e w ih = let z : ◌≡◌ {A = ℕ} 0 1 = cc in absurd (omega arith)

  -- it waits and lacks so much; or has ended, and lacks nothing
  abbrev pub WantsIn : SessionOf M → ℕ → Type 0
  WantsIn (waiting s h) n = (b : Bool) × Lacks (M.talk_at s) h n b
  WantsIn (ended e) n = n ≡ 0

  -- by words for streams that complete the talk behind bytes that came, and for those that end it
  module _ (t : TalkOf M) (v : Shaped M t) (came : List ℕ) {C S : List ℕ → Type 0}
      (rest-c : (bs : List ℕ) → Bytes bs → Rest t came bs → C bs) (c-rest : (bs : List ℕ) → Bytes bs → C bs → Rest t came bs)
      (ends-s : (bs : List ℕ) → Ends t came bs → S bs) (s-ends : (bs : List ℕ) → S bs → Ends t came bs) where
    wanted_some : (n : ℕ) (b : Bool) → Lacks t came n b → Some C → Least C n
    wanted_some n true l p = least_same rest-c c-rest (l.completes refl)
    wanted_some n false l (bs, y, p) = absurd (l.none refl (bs, y, c-rest bs y p))

    wanted_none : (n : ℕ) (b : Bool) → Lacks t came n b → (Some C → ⊥) → Least S n
    wanted_none n true l f = let q = l.completes refl in absurd (f (q.stream, q.bytes, rest-c q.stream q.bytes q.is))
    wanted_none n false l f = least_same (λ bs y. ends-s bs) (λ bs y. s-ends bs) (l.settles refl)

    pub wanted : (n : ℕ) → WantsIn (feed M t came).session n → Wanted C S n
    wanted n w = go (feed M t came).session refl w
      where
        over : (m : SessionOf M) → (feed M t came).session ≡ m → is_over (feed M t (came ++ [])).session ≡ is_over m
        over m e = ap (λ (l : List ℕ). is_over (feed M t l).session) (append-nil came) ∙ ap is_over e

        go : (m : SessionOf M) → (feed M t came).session ≡ m → WantsIn m n → Wanted C S n
        go (waiting s h) e (b, l) =
            let k = lacks_behind t v came s h e n b l in
            record {
              settled = λ z. absurd (true≢false (sym (s-ends [] z) ∙ over (waiting s h) e));
              opens = λ z. wanted_some n b k;
              fails = λ z. wanted_none n b k;
            }
        go (ended x) e z =
            let f = ends-s [] (over (ended x) e) in
            record { settled = λ q. z; opens = λ q. absurd (q f); fails = λ q. absurd (q f) }

  -- ---- a delivery to it

  module _ (s : M.Stage) (h : List ℕ) (n : ℕ) (b : Bool) (l : Lacks (M.talk_at s) h n b) where
    enough : (q : Bool) → b ≡ q → (a : List ℕ) → Bytes a → Rest (M.talk_at s) h a → n ≤ length a
    enough true e a y r = (l.completes e).none_shorter a y r
    enough false e a y r = absurd (l.none e (a, y, r))

    -- of at most so many bytes that brings it to its end: all are read
    past : Ready M (waiting s h) → (piece : List ℕ) → Bytes piece → length piece ≤ n → (x : M.Result) → (onward M (waiting s h) piece).session ≡ ended (done x)
        → reached (onward M (waiting s h) piece) ≡ length h + length piece
    unfolding onward
    past r piece y k x e =
        let f = feed M (M.talk_at s) (h ++ piece) in
        let (p, (rest, c), a) = parsed M law (M.talk_at s) (h ++ piece) x e in
        let d = opens M law (M.talk_at s) (h ++ piece) p x (rest, c) a in
        let z : reached f ≡ f.place = rw e (add-zero _) in
        let (i, u, w) = further h piece p rest c (omega (arith, r piece, d.place)) in
        let j = enough b refl i (bytes_left i rest (rw w at y)) (x, rw u at a) in
        omega (arith, d.place, ap length u, length-append h i, ap length w, length-append i rest)

  -- by whatever takes deliveries as the side does
  module _ (room : ℕ) {X A : Type 0} (R : X → SessionOf M → Type 0) (K : Receiver X A)
      (step : (x : X) (m : SessionOf M) → R x m → (d : Delivery) → Alike R (answer_to K x d) (answer_to (receiver M room) m d)) where
    pub uses_all : (x : X) (m : SessionOf M) → R x m → Ready M m → Still M m → (n : ℕ) → WantsIn m n → (d : Delivery) → Bytes d.piece → length d.piece ≤ n → (y : M.Result)
        → (answer_to (receiver M room) m d).session ≡ ended (done y) → (answer_to K x d).used ≡ length d.piece
    unfolding onward
    uses_all x (waiting s h) r u w n (b, l) d y k z e = (step x (waiting s h) r d).used ∙ go (lends (receiver M room) d) refl
      where
        go : (q : Bool) → lends (receiver M room) d ≡ q → (answer_to (receiver M room) (waiting s h) d).used ≡ length d.piece
        go true q =
            let v = lent M law room (waiting s h) d w q in
            omega (arith, v.used, past s h n b l u d.piece y k z (sym v.session ∙ e))
        go false q =
            let v = sym (unlent M law room (waiting s h) d q).session ∙ e in
            let o : ◌≡◌ {A = ℕ} 0 1 = cc in
            absurd (omega arith)
    uses_all x (ended c) r u w n z d y k v e = (step x (ended c) r d).used ∙ go (lends (receiver M room) d) refl
      where
        go : (q : Bool) → lends (receiver M room) d ≡ q → (answer_to (receiver M room) (ended c) d).used ≡ length d.piece
        go true q = omega (arith, (lent M law room (ended c) d w q).used)
        go false q = omega (arith, (unlent M law room (ended c) d q).used)

    -- the shortest stream, with any bytes behind it: it comes to its end, and those are left
    pub record Leaves (x : X) (m : SessionOf M) (n : ℕ) : Type 0 where
      pub stream : List ℕ
      pub bytes : Bytes stream
      pub long : length stream ≡ n
      pub result : M.Result
      pub ends : (more out : List ℕ) → room ≤ length out → (answer_to (receiver M room) m (record { piece = stream ++ more; output = out })).session ≡ ended (done result)
      pub used : (more out : List ℕ) → room ≤ length out → (answer_to K x (record { piece = stream ++ more; output = out })).used ≡ n

    pub leaves : (x : X) (s : M.Stage) (h : List ℕ) → R x (waiting s h) → Still M (waiting s h) → (n : ℕ) → Lacks (M.talk_at s) h n true → Leaves x (waiting s h) n
    unfolding onward
    leaves x s h r w n l =
        record {
          stream = c.stream;
          bytes = c.bytes;
          long = c.long;
          result = c.is.0;
          ends = λ more out k. (taken more out k).session ∙ (fed more).session;
          used = λ more out k.
              let z : reached (feed M (M.talk_at s) (h ++ (c.stream ++ more))) ≡ length (h ++ c.stream) = rw (fed more).session (add-zero _ ∙ (fed more).place) in
              (step x (waiting s h) r (given more out)).used ∙ omega (arith, (taken more out k).used, z, length-append h c.stream, c.long);
        }
      where
        c : Least (Rest (M.talk_at s) h) n
        c = l.completes refl

        given : List ℕ → List ℕ → Delivery
        given more out = record { piece = c.stream ++ more; output = out }

        taken : (more out : List ℕ) → room ≤ length out → Lent M law room (waiting s h) (given more out)
        taken more out k = lent M law room (waiting s h) (given more out) w (le-leb room (length out) k)

        fed : (more : List ℕ) → Done M (feed M (M.talk_at s) (h ++ (c.stream ++ more))) (length (h ++ c.stream)) c.is.0
        fed more = opens M law (M.talk_at s) (h ++ (c.stream ++ more)) (h ++ c.stream) c.is.0 (more, sym (append_assoc h c.stream more)) c.is.1
