-- How much a talk sends, whatever is read; and what stands behind it in the output.
use Prim.Native.Nat.{ℕ, ◌-◌, ◌≤◌, zero-le}
use native.Mathlib.Nat.{le_trans}
use native.Mathlib.Omega.{arith}
use mathlib.Core.Path.{◌≡◌, refl, ap}
use mathlib.Core.Bool.{Bool, true, false, cond}
use mathlib.Core.List.{List, ◌++◌}
use lib.ListN.{length, take, drop, length-append, length-drop}
use lib.Seq.{drop-append_seam}
use Rattle.talk.specs.Decision.{Decision, undecided, decided, good, bad}
use Rattle.talk.specs.Talk.{Side, Talk, TalkOf, stop, send, await, Session, waiting, Fed, deciding, feed}
use Rattle.talk.specs.Tunnel.{Answer, Behind}

-- at most so many bytes
abbrev pub Sends : {S R E : Type 0} → ℕ → Talk S R E → Type 0
Sends n (stop e) = Unit {0}
Sends n (send q t) = (length q ≤ n) × Sends (n - length q) t
Sends n (await s k) = (m : List ℕ) → Sends n (k m)

pub sends_more : {S R E : Type 0} (n k : ℕ) (t : Talk S R E) → n ≤ k → Sends n t → Sends k t
sends_more n k (stop e) h p = tt
sends_more n k (send q t) h p = (le_trans p.0 h, sends_more (n - length q) (k - length q) t (omega arith) p.1)
sends_more n k (await s f) h p = λ m. sends_more n k (f m) h (p m)

pub sends_cond : {S R E : Type 0} (n : ℕ) (b : Bool) (t u : Talk S R E) → Sends n t → Sends n u → Sends n (cond b t u)
sends_cond n true t u p q = p
sends_cond n false t u p q = q

sends_await : {S R E : Type 0} (n : ℕ) (d : Decision E) (s : Session S R E) (on : ℕ → Fed S R E) → ((k : ℕ) → length (on k).sent ≤ n) → length (deciding d s on).sent ≤ n
sends_await n undecided s on ih = zero-le
sends_await n (decided k good) s on ih = ih k
sends_await n (decided k (bad e)) s on ih = zero-le

pub sends_fed : (M : Side) (n : ℕ) (t : TalkOf M) → Sends n t → (bs : List ℕ) → length (feed M t bs).sent ≤ n
unfolding feed
sends_fed M n (stop e) p bs = zero-le
sends_fed M n (send q t) p bs =
    let h = p.0 in
    let ih = sends_fed M (n - length q) t p.1 bs in
    omega (arith, length-append q (feed M t bs).sent)
sends_fed M n (await s k) p bs = sends_await n (M.reads s bs) (waiting s bs) (λ i. feed M (k (take i bs)) (drop i bs)) (λ i. sends_fed M n (k (take i bs)) (p (take i bs)) (drop i bs))

-- bytes that stand at the start of an output that has room for them
pub stand_at : {X A : Type 0} (a : A) (s : X) (used : ℕ) (bs out : List ℕ) → length bs ≤ length out
    → Behind (record { answer = a; session = s; used = used; sent = length bs; output = bs ++ drop (length bs) out }) out
stand_at a s used bs out h = record { bytes = drop-append_seam bs (drop (length bs) out); size = omega (arith, length-append bs (drop (length bs) out), length-drop (length bs) out) }

-- and a call that sent nothing and left the output
pub none_sent : {X A : Type 0} (a : A) (s : X) (used : ℕ) (out : List ℕ) → Behind (record { answer = a; session = s; used = used; sent = 0; output = out }) out
none_sent a s used out = record { bytes = refl; size = refl }

-- so the byte behind what was sent is the one that was lent
pub next_byte : {X A : Type 0} (c : Answer X A) (out : List ℕ) → Behind c out → take 1 (drop c.sent c.output) ≡ take 1 (drop c.sent out)
next_byte c out b = ap (take 1) b.bytes
