-- What a field wants that is not decided yet: the shortest stream that brings the end to its question or, where none does, that settles it.
use Prim.Native.Nat.{ℕ, ◌+◌, ◌-◌, ◌≤◌, ◌<◌}
use native.Mathlib.Omega.{arith}
use mathlib.Core.Path.{◌≡◌, refl, ap, sym, subst, ◌∙◌}
use mathlib.Core.Bool.{Bool, true, false, true≢false, cond}
use mathlib.Core.List.{List, [], ◌∷◌, ◌++◌, append-nil}
use lib.ListN.{length, take, drop, replicate, length-append, length-drop, length-replicate, take-append-drop}
use lib.Dec.{leb}
use borrow.Author.Tests.{leb-true, leb-false, le-leb, lt-ltb}
use Rattle.protocol.specs.Bytes.{Bytes}
use Rattle.protocol.proofs.Bytes.{bytes_right}
use Rattle.proxy_spec.specs.declared.Field.{Field}
use Rattle.proxy_spec.specs.End.{Setup}
use Rattle.proxy_spec.specs.Side.{once, test, EndTalk, talk_at, reads}
use Rattle.protocol.specs.Wants.{Least}
use Rattle.proxy_spec.specs.Shortest.{lacking}
use Rattle.proxy_spec.proofs.Side.{extends}
use Rattle.proxy_spec.proofs.Fields.{Read, once_in}
use Rattle.proxy_spec.proofs.Taken.{Taken}
use Rattle.proxy_spec.proofs.Made.{Over}
use Rattle.talk.specs.Decision.{undecided, decided, good}
use Rattle.talk.specs.Talk.{await, feed}
use Rattle.talk.proofs.Feed.{late_of, stays_of}

abbrev pub Taking : Setup → Field → List ℕ → List ℕ → Type 0
Taking c f h bs = Taken c (talk_at c f) (h ++ bs)

abbrev pub Settling : Setup → Field → List ℕ → List ℕ → Type 0
Settling c f h bs = Over c (talk_at c f) (h ++ bs)

pub data Wanted (c : Setup) (f : Field) (h : List ℕ) (n : ℕ) : Type 0 where
  asks : Least (Taking c f h) n → Wanted c f h n
  fails : ((bs : List ℕ) → Taking c f h bs → ⊥) → Least (Settling c f h) n → Wanted c f h n

-- ---- a stream and a bound, counted from what is held

module _ (c : Setup) (f : Field) (h : List ℕ) where
  pub asks_just : (s : List ℕ) (n : ℕ) → Bytes s → length s ≡ n → Taking c f h s → ((bs : List ℕ) → Taking c f h bs → n ≤ length bs) → Wanted c f h n
  asks_just s n y l k low = asks (record { stream = s; bytes = y; is = k; long = l; none_shorter = λ bs z t. low bs t })

  pub fails_just : (s : List ℕ) (n : ℕ) → Bytes s → length s ≡ n → ((bs : List ℕ) → Taking c f h bs → ⊥) → Settling c f h s → ((bs : List ℕ) → Settling c f h bs → n ≤ length bs)
      → Wanted c f h n
  fails_just s n y l none k low = fails none (record { stream = s; bytes = y; is = k; long = l; none_shorter = λ bs z t. low bs t })

  -- to so many in all
  pub asks_by : (s : List ℕ) (n : ℕ) → Bytes s → length h + length s ≡ n → length h < n → Taking c f h s → ((bs : List ℕ) → Taking c f h bs → n ≤ length (h ++ bs))
      → Wanted c f h (lacking n h)
  asks_by s n y l o k low =
      rw (lt-ltb (length h) n o) (asks_just s (n - length h) y (omega arith) k (λ bs t. omega (arith, low bs t, length-append h bs)))

  pub fails_by : (s : List ℕ) (n : ℕ) → Bytes s → length h + length s ≡ n → length h < n → ((bs : List ℕ) → Taking c f h bs → ⊥) → Settling c f h s
      → ((bs : List ℕ) → Settling c f h bs → n ≤ length (h ++ bs)) → Wanted c f h (lacking n h)
  fails_by s n y l o none k low =
      rw (lt-ltb (length h) n o) (fails_just s (n - length h) y (omega arith) none k (λ bs t. omega (arith, low bs t, length-append h bs)))

  -- a stream that what is held begins
  pub asks_word : (w : List ℕ) (n : ℕ) → Bytes w → length w ≡ n → h ≡ take (length h) w → length h < n → Taken c (talk_at c f) w → ((bs : List ℕ) → Taking c f h bs → n ≤ length (h ++ bs))
      → Wanted c f h (lacking n h)
  asks_word w n y l e o k low =
      let j : h ++ drop (length h) w ≡ w = ap (λ (z : List ℕ). z ++ drop (length h) w) e ∙ take-append-drop (length h) w in
      asks_by (drop (length h) w) n (bytes_right h (drop (length h) w) (subst Bytes (sym j) y)) (omega (arith, length-drop (length h) w)) o (subst (Taken c (talk_at c f)) (sym j) k) low

-- ---- fields that are not decided

pub once_waits : (n : ℕ) (bs : List ℕ) (d : Read) → n ≤ length bs → once n bs d ≡ undecided → d ≡ undecided
once_waits n bs d h q = rw (le-leb n (length bs) h) at q

pub test_waits : (b : Bool) (n : ℕ) (d : Read) → test b n d ≡ undecided → (b ≡ true) × (d ≡ undecided)
test_waits true n d q = (refl, q)
test_waits false n d q = let z : ◌≡◌ {A = ℕ} 0 1 = cc in absurd (omega arith)

pub sized_waits : (n : ℕ) (bs : List ℕ) → once n bs (decided n good) ≡ undecided → length bs < n
sized_waits n bs q = go (leb n (length bs)) refl q
  where
    go : (b : Bool) → leb n (length bs) ≡ b → cond {A = Read} b (decided n good) undecided ≡ undecided → length bs < n
    go true e r = let z : ◌≡◌ {A = ℕ} 0 1 = cc in absurd (omega arith)
    go false e r = leb-false n (length bs) e

module _ (c : Setup) (f : Field) (k : List ℕ → EndTalk) where
  pub over_waits : (l : List ℕ) → reads f l ≡ undecided → Over c (await f k) l → ⊥
  unfolding feed
  over_waits l u o = true≢false (sym (rw u at o))

  pub over_next : (l : List ℕ) (n : ℕ) → reads f l ≡ decided n good → Over c (await f k) l → Over c (k (take n l)) (drop n l)
  unfolding feed
  over_next l n u o = rw u at o

  module _ (h : List ℕ) (u : reads f h ≡ undecided) where
    pub over_one : (bs : List ℕ) → Over c (await f k) (h ++ bs) → 1 ≤ length bs
    over_one [] o = absurd (over_waits (h ++ []) (ap (reads f) (append-nil h) ∙ u) o)
    over_one (b ∷ bs) o = omega arith

module _ (f : Field) (h : List ℕ) (u : reads f h ≡ undecided) where
  -- a message that begins with what is held is longer
  pub longer : (bs m r : List ℕ) → h ++ bs ≡ m ++ r → reads f m ≡ decided (length m) good → length h < length m
  longer bs m r e g =
      let z : reads f (h ++ bs) ≡ decided (length m) good = ap (reads f) e ∙ stays_of (extends f m r) (length m) good g in
      rw z at (late_of (extends f h bs) u)

  pub message_one : (bs m r : List ℕ) → h ++ bs ≡ m ++ r → reads f m ≡ decided (length m) good → 1 ≤ length bs
  message_one bs m r e g = omega (arith, longer bs m r e g, ap length e, length-append h bs, length-append m r)

-- ---- fields whose size is known by what is held

abbrev pub Fixed : Field → List ℕ → ℕ → Type 0
Fixed f h n = (bs : List ℕ) → reads f (h ++ bs) ≡ once n (h ++ bs) (decided n good)

module _ (f : Field) (h : List ℕ) (n : ℕ) (x : Fixed f h n) where
  pub fixed_short : reads f h ≡ undecided → length h < n
  fixed_short u = subst (λ (z : List ℕ). length z < n) (append-nil h) (sized_waits n (h ++ []) (sym (x []) ∙ ap (reads f) (append-nil h) ∙ u))

  pub fixed_good : (s : List ℕ) → length (h ++ s) ≡ n → reads f (h ++ s) ≡ decided (length (h ++ s)) good
  fixed_good s e = x s ∙ rw (le-leb n (length (h ++ s)) (omega arith)) (ap (λ (j : ℕ). decided j good) (sym e))

  pub fixed_message : (bs m r : List ℕ) → h ++ bs ≡ m ++ r → reads f m ≡ decided (length m) good → n ≤ length (h ++ bs)
  fixed_message bs m r e g =
      (once_in n (h ++ bs) (decided n good) (length m) good (sym (x bs) ∙ ap (reads f) e ∙ stays_of (extends f m r) (length m) good g)).0

  pub fixed_over : (c : Setup) (k : List ℕ → EndTalk) (bs : List ℕ) → Over c (await f k) (h ++ bs) → (n ≤ length (h ++ bs)) × Over c (k (take n (h ++ bs))) (drop n (h ++ bs))
  fixed_over c k bs o = go (leb n (length (h ++ bs))) refl
    where
      go : (b : Bool) → leb n (length (h ++ bs)) ≡ b → (n ≤ length (h ++ bs)) × Over c (k (take n (h ++ bs))) (drop n (h ++ bs))
      go true e = (leb-true n (length (h ++ bs)) e, over_next c f k (h ++ bs) n (x bs ∙ rw e) o)
      go false e = absurd (over_waits c f k (h ++ bs) (x bs ∙ rw e) o)

-- zeros up to so many
abbrev pub fill : List ℕ → ℕ → List ℕ
fill h n = replicate (n - length h) 0

pub filled : (h : List ℕ) (n : ℕ) → length h < n → (length h + length (fill h n) ≡ n) × (length (h ++ fill h n) ≡ n)
filled h n o =
    let l = length-replicate {A = ℕ} (n - length h) 0 in
    (omega arith, omega (arith, length-append h (fill h n)))
