-- F-12's order of streams: the shorter one goes first, of equal ones the first in byte order; its laws, and that just one is wanted.
use Prim.Native.Nat.{ℕ, suc, ◌+◌, ◌≤◌, ◌<◌, zero-le}
use native.Mathlib.Omega.{arith}
use mathlib.Core.Path.{◌≡◌, refl, sym}
use Rattle.std.specs.Prelude.{Option, None, Some}
use mathlib.Core.List.{List, [], ◌∷◌, ◌++◌}
use lib.ListN.{length, take, drop, length-append}
use lib.Seq.{drop-cons, length-take-le}
use Rattle.protocol.specs.Bytes.{Bytes, byte}
use Rattle.endings_spec.specs.Endings.{Before, here, there, Wanted, Nowhere}

-- ---- byte by byte no greater, and so not behind

pub data Under : List ℕ → List ℕ → Type 0 where
  end : Under [] []
  step : {a b : ℕ} {xs ys : List ℕ} → a ≤ b → Under xs ys → Under (a ∷ xs) (b ∷ ys)

under_append : {a a' b b' : List ℕ} → Under a a' → Under b b' → Under (a ++ b) (a' ++ b')
under_append end v = v
under_append (step h u) v = step h (under_append u v)

abbrev Unders : List ℕ → List ℕ → Type 0
Unders [] [] = Unit {0}
Unders [] (b ∷ ys) = ⊥
Unders (a ∷ xs) [] = ⊥
Unders (a ∷ xs) (b ∷ ys) = (a ≤ b) × Under xs ys

unders : {xs ys : List ℕ} → Under xs ys → Unders xs ys
unders end = tt
unders (step h u) = (h, u)

under_before : {xs ys : List ℕ} → Before ys xs → Under xs ys → ⊥
under_before (here h) u = omega (arith, (unders u).0)
under_before (there b) u = under_before b (unders u).1

-- ---- the order, as what is wanted has it

pub record AtMost (xs ys : List ℕ) : Type 0 where
  pub short : length xs ≤ length ys
  pub low : length xs ≡ length ys → Under xs ys

pub at_most_append : {a a' b b' : List ℕ} → AtMost a a' → AtMost b b' → AtMost (a ++ b) (a' ++ b')
at_most_append {a} {a'} {b} {b'} p q =
    record {
      short = omega (arith, length-append a b, length-append a' b', p.short, q.short);
      low = λ l.
          under_append (p.low (omega (arith, length-append a b, length-append a' b', p.short, q.short)))
          (q.low (omega (arith, length-append a b, length-append a' b', p.short, q.short)));
    }

pub at_most_longer : {xs ys : List ℕ} → length xs < length ys → AtMost xs ys
at_most_longer h = record { short = omega arith; low = λ l. absurd (omega arith) }

pub at_most_nil : (ys : List ℕ) → AtMost [] ys
at_most_nil [] = record { short = zero-le; low = λ l. end }
at_most_nil (b ∷ ys) = at_most_longer (omega arith)

-- each byte is no greater than the one that stands at its place, from place k on
abbrev pub From : List ℕ → ℕ → List ℕ → Type 0
From [] k bs = Unit {0}
From (a ∷ xs) k bs = (a ≤ byte bs k) × From xs (suc k) bs

from_under : (xs : List ℕ) (k : ℕ) (bs : List ℕ) → k + length xs ≤ length bs → From xs k bs → Under xs (take (length xs) (drop k bs))
from_under [] k bs h f = end
from_under (a ∷ xs) k bs h (p, f) = rw (drop-cons bs k 0 (omega arith)) (step p (from_under xs (suc k) bs (omega arith) f))

-- a word is at most the first n bytes
pub at_most_take : (xs bs : List ℕ) (n : ℕ) → n ≤ length bs → length xs ≤ n → (length xs ≡ n → From xs 0 bs) → AtMost xs (take n bs)
at_most_take xs bs n h k f =
    record {
      short = rw (length-take-le n bs h) k;
      low = λ l. let e : length xs ≡ n = rw (length-take-le n bs h) at l in rw (← e) (from_under xs 0 bs (omega arith) (f e));
    }

-- ---- the least of the streams of a property, or none

pub record Least (P : List ℕ → Type 0) (bs : List ℕ) : Type 0 where
  pub bytes : Bytes bs
  pub leads : P bs
  pub least : (cs : List ℕ) → P cs → AtMost bs cs

abbrev pub Best : (List ℕ → Type 0) → Option (List ℕ) → Type 0
Best P None = (cs : List ℕ) → P cs → ⊥
Best P (Some bs) = Least P bs

pub least_wanted : {P : List ℕ → Type 0} {bs : List ℕ} → Least P bs → Wanted P bs
least_wanted l =
    record {
      bytes = l.bytes;
      leads = l.leads;
      shortest = λ cs y p. (l.least cs p).short;
      first = λ cs y p e b. under_before b ((l.least cs p).low (sym e));
    }

-- ---- just one is wanted

same : (xs ys : List ℕ) → length xs ≡ length ys → (Before xs ys → ⊥) → (Before ys xs → ⊥) → xs ≡ ys
same [] [] l p q = refl
same [] (b ∷ ys) l p q = absurd (omega arith)
same (a ∷ xs) [] l p q = absurd (omega arith)
same (a ∷ xs) (b ∷ ys) l p q = go (omega (arith, less, more)) (same xs ys (omega arith))
  where
    less : a < b → ⊥
    less h = p (here h)

    more : b < a → ⊥
    more h = q (here h)

    go : a ≡ b → ((Before xs ys → ⊥) → (Before ys xs → ⊥) → xs ≡ ys) → a ∷ xs ≡ b ∷ ys
    go e ih = let t : xs ≡ ys = ih (λ f. p (rw e (there f))) (λ f. q (rw e (there f))) in cc

-- what is wanted is somewhere: of an answer and of none just one holds
pub wanted_somewhere : (To : List ℕ → Type 0) (bs : List ℕ) → Wanted To bs → Nowhere To → ⊥
wanted_somewhere To bs w n = n bs w.bytes w.leads

pub wanted_once : (To : List ℕ → Type 0) (bs cs : List ℕ) → Wanted To bs → Wanted To cs → bs ≡ cs
wanted_once To bs cs v w =
    let l : length bs ≡ length cs = omega (arith, v.shortest cs w.bytes w.leads, w.shortest bs v.bytes v.leads) in
    same bs cs l (w.first bs v.bytes v.leads l) (v.first cs w.bytes w.leads (sym l))
