-- F-12: the table of streams is what the replies in turn come to.
use Prim.Native.Nat.{ℕ, zero, suc}
use mathlib.Core.Path.{◌≡◌, refl, sym, ◌∙◌}
use Rattle.std.specs.Prelude.{Option, None, Some}
use mathlib.Core.List.{List, [], ◌∷◌}
use lib.Dec.{eqb}
use borrow.Author.Tests.{eqb-true}
use Rattle.protocol.specs.declared.Reply.{Reply}
use Rattle.protocol.specs.Opening.{Opening, v5, v4, no_auth, user_pass, replies}
use Rattle.endings_spec.specs.declared.OutcomeStatus.{OutcomeStatus}
use Rattle.endings_spec.specs.Streams.{kind_of, open_stream, is_of, if, stream_of, stream_for, last_for, joined, stream_at}
use Rattle.endings_spec.proofs.ReplyWords.{good_for, bad_for, ends_for}
use Rattle.endings_spec.proofs.Words.{test}
use Rattle.endings_spec.proofs.Through.{then, through, open_ends}

-- ---- an opening

abbrev open_for : OutcomeStatus → Option (List ℕ)
open_for w = if (is_of w 0 0 0) [] None

for_through : (o : Opening) (w : OutcomeStatus) → stream_for o w ≡ through (ends_for w) (replies o) (open_for w)
unfolding stream_of through ends_for bad_for
for_through (v5 no_auth d port o) w =
    let P : Option (List ℕ) → Type 0 = λ r. r ≡ through (ends_for w) (replies (v5 no_auth d port o)) (open_for w) in
    test P (is_of w 9 0 0) (λ a. rw a)
    (λ a. test P (is_of w 10 0 0) (λ b. rw (a, b))
    (λ b. test P (is_of w 12 0 0) (λ c. rw (a, b, c))
    (λ c. test P (is_of w 13 0 0) (λ d. rw (a, b, c, d))
    (λ d. test P (is_of w 15 1 8) (λ e. rw (a, b, c, d, e))
    (λ e. test P (is_of w 0 0 0) (λ f. rw (a, b, c, d, e, f)) (λ f. rw (a, b, c, d, e, f)))))))
for_through (v5 (user_pass u p) d port o) w =
    let P : Option (List ℕ) → Type 0 = λ r. r ≡ through (ends_for w) (replies (v5 (user_pass u p) d port o)) (open_for w) in
    test P (is_of w 9 0 0) (λ a. rw a)
    (λ a. test P (is_of w 10 0 0) (λ b. rw (a, b))
    (λ b. test P (is_of w 12 0 0) (λ c. rw (a, b, c))
    (λ c. test P (is_of w 13 0 0) (λ d. rw (a, b, c, d))
    (λ d. test P (is_of w 14 0 0) (λ e. rw (a, b, c, d, e))
    (λ e. test P (is_of w 15 1 8) (λ f. rw (a, b, c, d, e, f))
    (λ f. test P (is_of w 0 0 0) (λ g. rw (a, b, c, d, e, f, g)) (λ g. rw (a, b, c, d, e, f, g))))))))
for_through (v4 d port) w =
    let P : Option (List ℕ) → Type 0 = λ r. r ≡ through (ends_for w) (replies (v4 d port)) (open_for w) in
    test P (is_of w 9 0 0) (λ a. rw a)
    (λ a. test P (is_of w 10 0 0) (λ b. rw (a, b))
    (λ b. test P (is_of w 15 91 93) (λ c. rw (a, b, c))
    (λ c. test P (is_of w 0 0 0) (λ d. rw (a, b, c, d)) (λ d. rw (a, b, c, d)))))

-- ---- a route

-- with so many proxies still behind this one up to the one at which to end: at that one it ends, before it nowhere
abbrev pub ends_at : ℕ → OutcomeStatus → Reply → Option (List ℕ)
ends_at zero w e = ends_for w e
ends_at (suc n) w e = None

through_none : (ends : Reply → Option (List ℕ)) → ((e : Reply) → ends e ≡ None) → (es : List Reply) → through ends es None ≡ None
unfolding through
through_none ends h [] = refl
through_none ends h (e ∷ es) = rw (h e, through_none ends h es) (go (good_for e))
  where
    go : (g : Option (List ℕ)) → then g None ≡ None
    go None = refl
    go (Some u) = refl

last_through : (o : Opening) (os : List Opening) (w : OutcomeStatus) → last_for o os w ≡ through (ends_for w) (replies o) (stream_at os zero w)
unfolding stream_at
last_through o [] w = for_through o w
last_through o (p ∷ ps) w =
    let X = through (ends_for w) (replies o) in
    test (λ (r : Option (List ℕ)). r ≡ X None) (eqb w.number 0)
    (λ q. sym (through_none (ends_for w) (open_ends w (eqb-true w.number 0 q)) (replies o)))
    (λ q. for_through o w ∙ rw q)

joined_through : (o : Opening) (r : Option (List ℕ)) → joined (open_stream (kind_of o)) r ≡ through (λ e. None) (replies o) r
unfolding through
joined_through (v5 no_auth d port o) None = refl
joined_through (v5 no_auth d port o) (Some u) = refl
joined_through (v5 (user_pass u p) d port o) None = refl
joined_through (v5 (user_pass u p) d port o) (Some v) = refl
joined_through (v4 d port) None = refl
joined_through (v4 d port) (Some u) = refl

pub stream_step : (o : Opening) (os : List Opening) (n : ℕ) (w : OutcomeStatus) → stream_at (o ∷ os) (suc n) w ≡ through (ends_at n w) (replies o) (stream_at os n w)
unfolding stream_at
stream_step o os zero w = last_through o os w
stream_step o os (suc n) w = joined_through o (stream_at os (suc n) w)
