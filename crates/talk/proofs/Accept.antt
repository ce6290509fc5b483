-- A talk is done just on bytes that begin with messages good at each of its stages in turn.
use Prim.Native.Nat.{ℕ, ◌+◌, ◌≤◌}
use native.Mathlib.Nat.{add-zero}
use native.Mathlib.Omega.{arith}
use mathlib.Core.Path.{◌≡◌, refl, ap, sym, subst, ◌∙◌}
use mathlib.Core.Bool.{true, true≢false}
use mathlib.Core.List.{List, [], ◌++◌, append_assoc}
use lib.ListN.{length, take, drop, length-append, take-append-drop}
use lib.Seq.{take_at, drop_at, length-take-le, take-add}
use Rattle.talk.specs.Decision.{Verdict, Decision, undecided, decided, good, bad}
use Rattle.talk.specs.Talk.{done, failed, stop, send, await, Side, Session, waiting, ended, TalkOf, FedOf, deciding, feed, is_over}
use Rattle.talk.specs.Lawful.{Extends, Lawful, Accepts, Begins}
use Rattle.talk.proofs.Feed.{same_fed, within_of, stays_of, first_of}

-- done with a result, at a place
pub record Done (M : Side) (f : FedOf M) (n : ℕ) (x : M.Result) : Type 0 where
  pub session : f.session ≡ ended (done x)
  pub place : f.place ≡ n

not_done : {S R E : Type 0} (e : E) (x : R) → ◌≡◌ {A = Session S R E} (ended (failed e)) (ended (done x)) → ⊥
not_done e x q = let z : ◌≡◌ {A = ℕ} 0 1 = cc in omega arith

module _ (M : Side) (law : Lawful M) where
  pub opens : (t : TalkOf M) (bs p : List ℕ) (x : M.Result) → Begins p bs → Accepts M t p x → Done M (feed M t bs) (length p) x
  unfolding feed
  opens (stop (done r)) bs p x b a = record { session = ap (λ (z : M.Result). ended (done z)) a.1; place = ap length (sym a.0) }
  opens (stop (failed e)) bs p x b a = absurd a
  opens (send r t) bs p x b a = let o = opens t bs p x b a in record { session = o.session; place = o.place }
  opens (await s k) bs p x (q, b) (m, l, c, g, a) =
      let b' : bs ≡ m ++ (l ++ q) = cc (append_assoc m l q) in
      let z : M.reads s bs ≡ decided (length m) good = ap (M.reads s) b' ∙ stays_of (law.stable s m (l ++ q)) (length m) good g in
      let d : drop (length m) bs ≡ l ++ q = ap (drop (length m)) b' ∙ drop_at m (l ++ q) (length m) refl in
      let e : take (length m) bs ≡ m = ap (take (length m)) b' ∙ take_at m (l ++ q) (length m) refl in
      let o = opens (k m) (drop (length m) bs) l x (q, d) a in
      rw (z, e) (record { session = o.session; place = omega (arith, o.place, length-append m l, ap length c) })

  -- the bytes that decide a message decide it alone
  pub decides_first : (s : M.Stage) (bs : List ℕ) (n : ℕ) (v : Verdict M.Error) → M.reads s bs ≡ decided n v → M.reads s (take n bs) ≡ decided (length (take n bs)) v
  decides_first s bs n v z =
      let i : n ≤ length bs = rw z at (within_of (law.stable s bs [])) in
      let e = subst (λ (y : List ℕ). Extends (length (take n bs)) (M.reads s (take n bs)) (M.reads s y)) (take-append-drop n bs) (law.stable s (take n bs) (drop n bs)) in
      first_of (length (take n bs)) n (M.reads s (take n bs)) v (length-take-le n bs i) (rw z at e)

  abbrev pub Parsed : TalkOf M → List ℕ → M.Result → Type 0
  Parsed t bs x = (p : List ℕ) × Begins p bs × Accepts M t p x

  parsed_await : (s : M.Stage) (k : List ℕ → TalkOf M) (bs : List ℕ) (x : M.Result) (d : Decision M.Error) → M.reads s bs ≡ d
      → (deciding d (waiting s bs) (λ n. feed M (k (take n bs)) (drop n bs))).session ≡ ended (done x)
      → ((n : ℕ) → (feed M (k (take n bs)) (drop n bs)).session ≡ ended (done x) → Parsed (k (take n bs)) (drop n bs) x)
      → Parsed (await s k) bs x
  parsed_await s k bs x undecided z q ih = let w : ◌≡◌ {A = ℕ} 0 1 = cc in absurd (omega arith)
  parsed_await s k bs x (decided n (bad e)) z q ih = absurd (not_done e x q)
  parsed_await s k bs x (decided n good) z q ih =
      let g = decides_first s bs n good z in
      let (p, (f, c), a) = ih n q in
      (take n bs ++ p, (f, cc (take-append-drop n bs, append_assoc (take n bs) p f)), (take n bs, p, refl, g, a))

  pub parsed : (t : TalkOf M) (bs : List ℕ) (x : M.Result) → (feed M t bs).session ≡ ended (done x) → Parsed t bs x
  unfolding feed
  parsed (stop (done r)) bs x q = ([], (bs, refl), (refl, cc))
  parsed (stop (failed e)) bs x q = absurd (not_done e x q)
  parsed (send r t) bs x q = let (p, b, a) = parsed t bs x q in (p, b, a)
  parsed (await s k) bs x q =
      parsed_await s k bs x (M.reads s bs) refl q (λ n h. parsed (k (take n bs)) (drop n bs) x h)

  -- ---- once a talk has ended, what follows its used bytes changes nothing

  used_await : (s : M.Stage) (k : List ℕ → TalkOf M) (bs more : List ℕ) (d : Decision M.Error) → M.reads s bs ≡ d
      → is_over (deciding d (waiting s bs) (λ n. feed M (k (take n bs)) (drop n bs))).session ≡ true
      → ((n : ℕ) → is_over (feed M (k (take n bs)) (drop n bs)).session ≡ true
      → feed M (k (take n bs)) (take (feed M (k (take n bs)) (drop n bs)).place (drop n bs) ++ more) ≡ feed M (k (take n bs)) (drop n bs))
      → feed M (await s k) (take (deciding d (waiting s bs) (λ n. feed M (k (take n bs)) (drop n bs))).place bs ++ more)
      ≡ deciding d (waiting s bs) (λ n. feed M (k (take n bs)) (drop n bs))
  unfolding feed
  used_await s k bs more undecided z w ih = absurd (true≢false (sym w))
  used_await s k bs more (decided n (bad e)) z w ih =
      let l : length (take n bs) ≡ n = length-take-le n bs (rw z at (within_of (law.stable s bs []))) in
      let g = stays_of (law.stable s (take n bs) more) (length (take n bs)) (bad e) (decides_first s bs n (bad e) z) in
      rw (add-zero, g, l) (same_fed _ _ refl refl (add-zero n))
  used_await s k bs more (decided n good) z w ih =
      let l : length (take n bs) ≡ n = length-take-le n bs (rw z at (within_of (law.stable s bs []))) in
      let f = feed M (k (take n bs)) (drop n bs) in
      let rest = take f.place (drop n bs) ++ more in
      let a : take (n + f.place) bs ++ more ≡ take n bs ++ rest = rw (take-add n f.place bs) (append_assoc (take n bs) (take f.place (drop n bs)) more) in
      let g = stays_of (law.stable s (take n bs) rest) (length (take n bs)) good (decides_first s bs n good z) in
      rw (a, g, l, take_at (take n bs) rest n l, drop_at (take n bs) rest n l, ih n w)

  pub feed_used : (t : TalkOf M) (bs more : List ℕ) → is_over (feed M t bs).session ≡ true → feed M t (take (feed M t bs).place bs ++ more) ≡ feed M t bs
  unfolding feed
  feed_used (stop e) bs more w = refl
  feed_used (send q t) bs more w = rw (feed_used t bs more w)
  feed_used (await s k) bs more w =
      used_await s k bs more (M.reads s bs) refl w (λ n h. feed_used (k (take n bs)) (drop n bs) more h)
