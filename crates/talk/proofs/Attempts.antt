-- F-11: what more bytes decide comes on top of what the bytes before them decided.
use Prim.Native.Nat.{ℕ, ◌+◌, ◌≤◌}
use native.Mathlib.Omega.{arith}
use mathlib.Core.Path.{◌≡◌}
use mathlib.Core.List.{List, ◌++◌}
use lib.ListN.{length, take, drop}
use lib.Seq.{take-append-le, drop-append-le}
use Rattle.talk.specs.Decision.{Decision, good, bad}
use Rattle.talk.specs.Talk.{Side, TalkOf, stop, send, await, SessionOf, waiting, FedOf, deciding, feed}
use Rattle.talk.specs.Lawful.{Extends, waits, stays, Shaped, Lawful}
use Rattle.talk.specs.Attempts.{counting, decided_in, decided_by}

module _ (M : Side) where
  await_more : (n : ℕ) {d d' : Decision M.Error} → Extends n d d' → (s : SessionOf M) (on : ℕ → FedOf M) (before after : ℕ → ℕ) (more : List ℕ)
      → decided_by M s more ≡ counting d' after
      → ((m : ℕ) → m ≤ n → after m ≡ before m + decided_by M (on m).session more)
      → counting d' after ≡ counting d before + decided_by M (deciding d s on).session more
  unfolding decided_by
  await_more n (waits p) s on before after more w h = omega (arith, w)
  await_more n (stays {m} {v = good} p) s on before after more w h = omega (arith, h m p)
  await_more n (stays {m} {v = bad e} p) s on before after more w h = omega arith

module _ (M : Side) (law : Lawful M) where
  pub decided_append : (t : TalkOf M) → Shaped M t → (bs more : List ℕ) → decided_in M t (bs ++ more) ≡ decided_in M t bs + decided_by M (feed M t bs).session more
  unfolding decided_in decided_by feed
  decided_append (stop e) w bs more = omega arith
  decided_append (send q t) w bs more = decided_append t w bs more
  decided_append (await s k) w bs more =
      await_more M (length bs) (law.stable s bs more) (waiting s bs) (λ n. feed M (k (take n bs)) (drop n bs))
      (λ n. decided_in M (k (take n bs)) (drop n bs)) (λ n. decided_in M (k (take n (bs ++ more))) (drop n (bs ++ more))) more
      (rw w.0)
      (λ n h. rw (drop-append-le n bs more h, take-append-le n bs more h) (decided_append (k (take n bs)) (w.1 (take n bs)) (drop n bs) more))
