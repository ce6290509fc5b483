-- F-12: how many bytes a stream has at most: twelve for an opening, which v5 with credentials reaches, and so many for each proxy up to the one at which to end.
use Prim.Native.Nat.{ℕ, zero, suc, ◌+◌, ◌*◌, ◌≤◌}
use native.Mathlib.Nat.{le_refl}
use native.Mathlib.Omega.{arith}
use mathlib.Core.Path.{◌≡◌}
use Rattle.std.specs.Prelude.{Option, None, Some}
use mathlib.Core.List.{List, [], ◌∷◌}
use lib.ListN.{length, drop, length-append}
use Rattle.protocol.specs.declared.Outcome.{Outcome}
use Rattle.protocol.specs.declared.Outcome.TheVariants.{Waiting, Open, Failed}
use Rattle.protocol.specs.declared.Reply.{Reply}
use Rattle.protocol.specs.Opening.{Opening, v5, v4, no_auth, user_pass, replies}
use Rattle.protocol.specs.Machine.{machine}
use Rattle.endings_spec.specs.declared.OutcomeStatus.{OutcomeStatus}
use Rattle.endings_spec.specs.RouteEndings.{behind, begun}
use Rattle.endings_spec.specs.Streams.{is_of, stream_for, stream_at}
use Rattle.endings_spec.proofs.ReplyWords.{good_for, ends_for}
use Rattle.endings_spec.proofs.Words.{test, size_of, GoodWord, good_word, EndWord, end_word}
use Rattle.endings_spec.proofs.Through.{or_else, then, through}
use Rattle.endings_spec.proofs.Table.{ends_at, stream_step}
use Rattle.endings_spec.proofs.Streams.{route_stream_wanted}

abbrev Sized : ℕ → Option (List ℕ) → Type 0
Sized k None = Unit {0}
Sized k (Some u) = length u ≤ k

sized_more : (j k : ℕ) (r : Option (List ℕ)) → j ≤ k → Sized j r → Sized k r
sized_more j k None h s = tt
sized_more j k (Some u) h s = omega arith

sized_or : (k : ℕ) (r s : Option (List ℕ)) → Sized k r → Sized k s → Sized k (or_else r s)
sized_or k None s p q = q
sized_or k (Some u) s p q = p

sized_then : (j k : ℕ) (r s : Option (List ℕ)) → Sized j r → Sized k s → Sized (j + k) (then r s)
sized_then j k None s p q = tt
sized_then j k (Some u) None p q = tt
sized_then j k (Some u) (Some v) p q = omega (arith, length-append u v)

sized_good : (e : Reply) → Sized (size_of e) (good_for e)
sized_good e = go (good_for e) (good_word e)
  where
    go : (r : Option (List ℕ)) → GoodWord e r → Sized (size_of e) r
    go None g = tt
    go (Some u) (g, l) = g.small

sized_end : (n : ℕ) (w : OutcomeStatus) (e : Reply) → Sized (size_of e) (ends_at n w e)
sized_end zero w e = go (ends_for w e) (end_word w e)
  where
    go : (r : Option (List ℕ)) → EndWord w e r → Sized (size_of e) r
    go None b = tt
    go (Some u) (y, h, l) = l
sized_end (suc n) w e = tt

-- replies in turn, and k bytes behind them
abbrev total : List Reply → ℕ → ℕ
total [] k = k
total (e ∷ es) k = size_of e + total es k

total_12 : (o : Opening) (k : ℕ) → total (replies o) k ≤ 12 + k
total_12 (v5 no_auth d port o) k = omega arith
total_12 (v5 (user_pass u p) d port o) k = omega arith
total_12 (v4 d port) k = omega arith

sized_through : (n : ℕ) (w : OutcomeStatus) (k : ℕ) (r : Option (List ℕ)) → Sized k r → (es : List Reply) → Sized (total es k) (through (ends_at n w) es r)
unfolding through
sized_through n w k r s [] = s
sized_through n w k r s (e ∷ es) =
    let t = through (ends_at n w) es r in
    sized_or (total (e ∷ es) k) (ends_at n w e) (then (good_for e) t)
    (sized_more (size_of e) (total (e ∷ es) k) (ends_at n w e) (omega arith) (sized_end n w e))
    (sized_then (size_of e) (total es k) (good_for e) t (sized_good e) (sized_through n w k r s es))

step : (o : Opening) (os : List Opening) (n : ℕ) (w : OutcomeStatus) → Sized (12 * n) (stream_at os n w) → Sized (12 * suc n) (stream_at (o ∷ os) (suc n) w)
step o os n w s =
    let r = stream_at os n w in
    rw (stream_step o os n w)
    (sized_more (total (replies o) (12 * n)) (12 * suc n) (through (ends_at n w) (replies o) r) (omega (arith, total_12 o (12 * n))) (sized_through n w (12 * n) r s (replies o)))

sized_at : (os : List Opening) (n : ℕ) (w : OutcomeStatus) → Sized (12 * n) (stream_at os n w)
unfolding stream_at
sized_at [] zero w = test (Sized 0) (is_of w 0 0 0) (λ t. le_refl 0) (λ t. tt)
sized_at [] (suc n) w = tt
sized_at (o ∷ os) zero w = tt
sized_at (o ∷ os) (suc n) w = step o os n w (sized_at os n w)

pub stream_size : (o : Opening) (w : OutcomeStatus) (bs : List ℕ) → stream_for o w ≡ Some bs → length bs ≤ 12
unfolding stream_at
stream_size o w bs q = rw q at (sized_at (o ∷ []) 1 w)

-- ---- and a route's ends at one of its proxies

begun_within : (os : List Opening) (bs : List ℕ) → begun os bs ≤ length os
unfolding begun
begun_within [] bs = le_refl 0
begun_within (o ∷ os) bs = let m = machine o bs in go m.outcome (begun os (drop m.place bs)) (begun_within os (drop m.place bs))
  where
    go : (r : Outcome) (b : ℕ) → b ≤ length os → suc (behind r b) ≤ suc (length os)
    go Waiting b h = omega arith
    go Open b h = omega arith
    go (Failed e) b h = omega arith

pub route_stream_size : (os : List Opening) (proxy : ℕ) (w : OutcomeStatus) (bs : List ℕ) → stream_at os proxy w ≡ Some bs → (proxy ≤ length os) × (length bs ≤ 12 * proxy)
route_stream_size os proxy w bs q = (rw (route_stream_wanted os proxy w bs q).leads.0 at (begun_within os bs), rw q at (sized_at os proxy w))
