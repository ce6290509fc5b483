-- A talk fed in two parts, and how far it has read.
use Prim.Native.Nat.{ℕ, suc, ◌+◌, ◌≤◌, zero-le}
use native.Mathlib.Nat.{le_refl, add-zero, zero-add, add_assoc}
use native.Mathlib.Omega.{arith}
use mathlib.Core.Path.{◌≡◌, refl, ap, sym}
use mathlib.Core.Bool.{true, false, true≢false}
use mathlib.Core.List.{List, [], ◌++◌, append_assoc, append-nil}
use lib.ListN.{length, take, drop, length-append, length-drop}
use lib.Seq.{take-append-le, drop-append-le}
use Rattle.talk.specs.Decision.{Verdict, Decision, undecided, decided, good, bad}
use Rattle.talk.specs.Talk.{stop, send, await, failed, Side, Session, waiting, ended, TalkOf, SessionOf, Fed, FedOf, unmoved, deciding, feed, onward, held_by, is_over, reached}
use Rattle.talk.specs.Lawful.{Late, Extends, waits, stays, Shaped, Lawful}

pub same_fed : {S R E : Type 0} (f g : Fed S R E) → f.session ≡ g.session → f.sent ≡ g.sent → f.place ≡ g.place → f ≡ g
same_fed f g p q r = λ i. record { session = p i; sent = q i; place = r i }

-- ---- what the law of extension says of each kind of decision

-- decided, if at all, within n bytes
abbrev pub Within : {E : Type 0} → ℕ → Decision E → Type 0
Within n undecided = Unit {0}
Within n (decided m v) = m ≤ n

pub within_of : {E : Type 0} {n : ℕ} {d e : Decision E} → Extends n d e → Within n d
within_of (waits p) = tt
within_of (stays h) = h

pub late_of : {E : Type 0} {n : ℕ} {d e : Decision E} → Extends n d e → d ≡ undecided → Late (suc n) e
late_of (waits p) q = p
late_of (stays h) q = let z : ◌≡◌ {A = ℕ} 0 1 = cc in absurd (omega arith)

pub stays_of : {E : Type 0} {n : ℕ} {d e : Decision E} → Extends n d e → (m : ℕ) (v : Verdict E) → d ≡ decided m v → e ≡ decided m v
stays_of (waits p) m v q = let z : ◌≡◌ {A = ℕ} 0 1 = cc in absurd (omega arith)
stays_of (stays h) m v q = q

-- what m bytes of more decide, they decide alone
pub first_of : {E : Type 0} (n m : ℕ) (d : Decision E) (v : Verdict E) → n ≡ m → Extends n d (decided m v) → d ≡ decided n v
first_of n m _ v e (waits p) = absurd (omega arith)
first_of n m _ v e (stays h) = ap (λ (z : ℕ). decided z v) (sym e)

-- ---- over any decision

module _ {S R E : Type 0} (n : ℕ) where
  within_await : (d : Decision E) → Within n d → (s : Session S R E) (on : ℕ → Fed S R E) → length (held_by s) ≤ n
      → ((m : ℕ) → m ≤ n → m + reached (on m) ≤ n) → reached (deciding d s on) ≤ n
  within_await undecided p s on h ih = omega arith
  within_await (decided m good) p s on h ih = omega (arith, ih m p)
  within_await (decided m (bad e)) p s on h ih = omega arith

  exact_await : (d : Decision E) → Within n d → (s : Session S R E) (on : ℕ → Fed S R E) → length (held_by s) ≡ n
      → ((m : ℕ) → m ≤ n → is_over (on m).session ≡ false → m + reached (on m) ≡ n)
      → is_over (deciding d s on).session ≡ false → reached (deciding d s on) ≡ n
  exact_await undecided p s on h ih w = omega arith
  exact_await (decided m good) p s on h ih w = omega (arith, ih m p w)
  exact_await (decided m (bad e)) p s on h ih w = absurd (true≢false w)

  late_await : (d : Decision E) → Late (suc n) d → (s : Session S R E) (on : ℕ → Fed S R E) → n ≤ length (held_by s) → n ≤ reached (deciding d s on)
  late_await undecided p s on h = omega arith
  late_await (decided m good) p s on h = omega arith
  late_await (decided m (bad e)) p s on h = omega arith

-- what was fed, and then more
abbrev pub and_then : (M : Side) → FedOf M → List ℕ → FedOf M
and_then M f more =
    let g = onward M f.session more in
    record { session = g.session; sent = f.sent ++ g.sent; place = f.place + g.place }

-- a session that stands after bytes reads past what it holds, whatever comes
abbrev pub Ready : (M : Side) → SessionOf M → Type 0
Ready M s = (more : List ℕ) → length (held_by s) ≤ reached (onward M s more)

-- and with no more bytes stays as it is
abbrev pub Still : (M : Side) → SessionOf M → Type 0
Still M s = onward M s [] ≡ unmoved s

module _ (M : Side) where
  await_append : (n : ℕ) {d d' : Decision M.Error} → Extends n d d' → (s s' : SessionOf M) (on on' : ℕ → FedOf M) (more : List ℕ)
      → onward M s more ≡ deciding d' s' on'
      → ((m : ℕ) → m ≤ n → on' m ≡ and_then M (on m) more)
      → deciding d' s' on' ≡ and_then M (deciding d s on) more
  unfolding onward
  await_append n (waits p) s s' on on' more w h = rw (← w) (same_fed _ _ refl refl (sym (zero-add _)))
  await_append n (stays {m} {v = good} p) s s' on on' more w h = rw (h m p) (same_fed _ _ refl refl (sym (add_assoc m _ _)))
  await_append n (stays {m} {v = bad e} p) s s' on on' more w h = same_fed _ _ refl refl (sym (add-zero _))

  -- what holds of the session that waits, and of each that goes on, and of each that has ended
  await_all : (P : SessionOf M → Type 0) → ((e : M.Error) → P (ended (failed e))) → (d : Decision M.Error) (s : SessionOf M) (on : ℕ → FedOf M)
      → (d ≡ undecided → P s) → ((m : ℕ) → P (on m).session) → P (deciding d s on).session
  await_all P over undecided s on w ih = w refl
  await_all P over (decided m good) s on w ih = ih m
  await_all P over (decided m (bad e)) s on w ih = over e

module _ (M : Side) (law : Lawful M) where
  pub feed_append : (t : TalkOf M) → Shaped M t → (bs more : List ℕ) → feed M t (bs ++ more) ≡ and_then M (feed M t bs) more
  unfolding feed onward
  feed_append (stop e) w bs more = refl
  feed_append (send q t) w bs more = rw (feed_append t w bs more) (same_fed _ _ refl (sym (append_assoc q _ _)) refl)
  feed_append (await s k) w bs more =
      await_append M (length bs) (law.stable s bs more) (waiting s bs) (waiting s (bs ++ more))
      (λ n. feed M (k (take n bs)) (drop n bs)) (λ n. feed M (k (take n (bs ++ more))) (drop n (bs ++ more))) more
      (rw w.0)
      (λ n h. rw (drop-append-le n bs more h, take-append-le n bs more h) (feed_append (k (take n bs)) (w.1 (take n bs)) (drop n bs) more))

  -- at most to the end
  pub feed_within : (t : TalkOf M) (bs : List ℕ) → reached (feed M t bs) ≤ length bs
  unfolding feed
  feed_within (stop e) bs = zero-le
  feed_within (send q t) bs = feed_within t bs
  feed_within (await s k) bs =
      within_await (length bs) (M.reads s bs) (within_of (law.stable s bs [])) (waiting s bs) (λ n. feed M (k (take n bs)) (drop n bs)) (le_refl (length bs))
      (λ n h. omega (arith, feed_within (k (take n bs)) (drop n bs), length-drop n bs))

  -- while it waits, just to the end
  pub feed_exact : (t : TalkOf M) (bs : List ℕ) → is_over (feed M t bs).session ≡ false → reached (feed M t bs) ≡ length bs
  unfolding feed
  feed_exact (stop e) bs v = absurd (true≢false v)
  feed_exact (send q t) bs v = feed_exact t bs v
  feed_exact (await s k) bs v =
      exact_await (length bs) (M.reads s bs) (within_of (law.stable s bs [])) (waiting s bs) (λ n. feed M (k (take n bs)) (drop n bs)) refl
      (λ n h u. omega (arith, feed_exact (k (take n bs)) (drop n bs) u, length-drop n bs)) v

  pub feed_ready : (t : TalkOf M) → Shaped M t → (bs : List ℕ) → Ready M (feed M t bs).session
  unfolding feed onward
  feed_ready (stop e) w bs = λ more. zero-le
  feed_ready (send q t) w bs = feed_ready t w bs
  feed_ready (await s k) w bs =
      await_all M (Ready M) (λ e more. zero-le) (M.reads s bs) (waiting s bs) (λ n. feed M (k (take n bs)) (drop n bs))
      (λ u more. rw w.0 (late_await (length bs) (M.reads s (bs ++ more)) (late_of (law.stable s bs more) u) (waiting s (bs ++ more))
      (λ n. feed M (k (take n (bs ++ more))) (drop n (bs ++ more))) (omega (arith, length-append bs more))))
      (λ n. feed_ready (k (take n bs)) (w.1 (take n bs)) (drop n bs))

  pub feed_still : (t : TalkOf M) → Shaped M t → (bs : List ℕ) → Still M (feed M t bs).session
  unfolding feed onward
  feed_still (stop e) w bs = refl
  feed_still (send q t) w bs = feed_still t w bs
  feed_still (await s k) w bs =
      await_all M (Still M) (λ e. refl) (M.reads s bs) (waiting s bs) (λ n. feed M (k (take n bs)) (drop n bs))
      (λ u. rw (w.0, append-nil, u))
      (λ n. feed_still (k (take n bs)) (w.1 (take n bs)) (drop n bs))

  -- ---- the same of a session

  pub onward_append : (s : SessionOf M) (a b : List ℕ) → onward M s (a ++ b) ≡ and_then M (onward M s a) b
  unfolding onward
  onward_append (waiting s held) a b = rw (← append_assoc held a b) (feed_append (M.talk_at s) (law.shaped s) (held ++ a) b)
  onward_append (ended e) a b = refl

  pub onward_ready : (s : SessionOf M) (a : List ℕ) → Ready M (onward M s a).session
  unfolding onward
  onward_ready (waiting s held) a = feed_ready (M.talk_at s) (law.shaped s) (held ++ a)
  onward_ready (ended e) a = λ more. zero-le

  pub onward_still : (s : SessionOf M) (a : List ℕ) → Still M (onward M s a).session
  unfolding onward
  onward_still (waiting s held) a = feed_still (M.talk_at s) (law.shaped s) (held ++ a)
  onward_still (ended e) a = refl

  pub onward_within : (s : SessionOf M) (a : List ℕ) → reached (onward M s a) ≤ length (held_by s) + length a
  unfolding onward
  onward_within (waiting s held) a = omega (arith, feed_within (M.talk_at s) (held ++ a), length-append held a)
  onward_within (ended e) a = zero-le

  pub onward_exact : (s : SessionOf M) (a : List ℕ) → is_over (onward M s a).session ≡ false → reached (onward M s a) ≡ length (held_by s) + length a
  unfolding onward
  onward_exact (waiting s held) a w = omega (arith, feed_exact (M.talk_at s) (held ++ a) w, length-append held a)
  onward_exact (ended e) a w = absurd (true≢false w)

  pub onward_over : (s : SessionOf M) (a : List ℕ) → is_over s ≡ true → onward M s a ≡ unmoved s
  unfolding onward
  onward_over (waiting s held) a w = absurd (true≢false (sym w))
  onward_over (ended e) a w = refl
