-- What the claims of an opening's answer and of its reply sequence come to: each names one number.
use Prim.Native.Nat.{ℕ, zero, suc, ◌<◌}
use native.Mathlib.Omega.{arith}
use mathlib.Core.Path.{◌≡◌, refl, ap, sym, ◌∙◌}
use mathlib.Core.Logic.{◌⊎◌, inl, inr}
use mathlib.Core.List.{List, [], ◌∷◌, ◌++◌}
use lib.ListN.{length}
use Rattle.protocol.specs.Bound.{Endpoint}
use Rattle.protocol.specs.Opening.{Opening, Condition, None, First, Answers}
use Rattle.protocol.specs.Grammar.{Sequence, JustOne}
use Rattle.talk.specs.Lawful.{Begins}

-- at most one number is the first whose condition holds
pub first_one : (n m : ℕ) (cs : List Condition) → First n cs → First m cs → n ≡ m
first_one n m [] f g = absurd f
first_one n m (c ∷ cs) (inl f) (inl g) = sym f.1 ∙ g.1
first_one n m (c ∷ cs) (inl f) (inr g) = absurd (g.0 f.0)
first_one n m (c ∷ cs) (inr f) (inl g) = absurd (f.0 g.0)
first_one n m (c ∷ cs) (inr f) (inr g) = first_one n m cs f.1 g.1

-- conditions have one answer
pub answers_one : (n m : ℕ) (cs : List Condition) → Answers n cs → Answers m cs → n ≡ m
answers_one zero m cs a b = sym (b.accepts.1 (a.accepts.0 refl))
answers_one (suc k) m cs a b = let l : 0 < suc k = omega arith in sym ((b.refuses (suc k) l).1 ((a.refuses (suc k) l).0 refl))

-- ---- one list of conditions behind another

pub none_then : (cs ds : List Condition) → None cs → None ds → None (cs ++ ds)
none_then [] ds x y = y
none_then (c ∷ cs) ds x y = (x.0, none_then cs ds x.1 y)

pub none_both : (cs ds : List Condition) → None (cs ++ ds) → None cs × None ds
none_both [] ds x = (tt, x)
none_both (c ∷ cs) ds x = let y = none_both cs ds x.1 in ((x.0, y.0), y.1)

first_before : (k : ℕ) (cs ds : List Condition) → First k cs → First k (cs ++ ds)
first_before k [] ds f = absurd f
first_before k (c ∷ cs) ds (inl f) = inl f
first_before k (c ∷ cs) ds (inr f) = inr (f.0, first_before k cs ds f.1)

first_behind : (k : ℕ) (cs ds : List Condition) → None cs → First k ds → First k (cs ++ ds)
first_behind k [] ds x f = f
first_behind k (c ∷ cs) ds x f = inr (x.0, first_behind k cs ds x.1 f)

first_either : (k : ℕ) (cs ds : List Condition) → First k (cs ++ ds) → First k cs ⊎ (None cs × First k ds)
first_either k [] ds f = inr (tt, f)
first_either k (c ∷ cs) ds (inl f) = inl (inl f)
first_either k (c ∷ cs) ds (inr f) = go (first_either k cs ds f.1)
  where
    go : First k cs ⊎ (None cs × First k ds) → First k (c ∷ cs) ⊎ (None (c ∷ cs) × First k ds)
    go (inl g) = inl (inr (f.0, g))
    go (inr g) = inr ((f.0, g.0), g.1)

-- where the first list accepts, the second answers
pub answers_behind : (m : ℕ) (cs ds : List Condition) → Answers 0 cs → Answers m ds → Answers m (cs ++ ds)
answers_behind m cs ds a b =
    let n = a.accepts.0 refl in
    record {
      accepts = (λ q. none_then cs ds n (b.accepts.0 q), λ x. b.accepts.1 (none_both cs ds x).1);
      refuses = λ k l. (λ q. first_behind k cs ds n ((b.refuses k l).0 q), λ f. go k l (first_either k cs ds f));
    }
  where
    go : (k : ℕ) → 0 < k → First k cs ⊎ (None cs × First k ds) → m ≡ k
    go k l (inl f) = let z = (a.refuses k l).1 f in absurd (omega arith)
    go k l (inr f) = (b.refuses k l).1 f.1

-- where it refuses, that is the answer
pub answers_before : (n : ℕ) (cs ds : List Condition) → 0 < n → Answers n cs → Answers n (cs ++ ds)
answers_before n cs ds p a =
    record {
      accepts = (λ q. absurd (omega arith), λ x. a.accepts.1 (none_both cs ds x).0);
      refuses = λ k l. (λ q. first_before k cs ds ((a.refuses k l).0 q), λ f. go k l (first_either k cs ds f));
    }
  where
    go : (k : ℕ) → 0 < k → First k cs ⊎ (None cs × First k ds) → n ≡ k
    go k l (inl f) = (a.refuses k l).1 f
    go k l (inr f) = let z = a.accepts.1 f.0 in absurd (omega arith)

-- whatever beginning is a reply sequence has the length that is claimed
pub one_length : {o : Opening} {bs : List ℕ} {n : ℕ} {x : Endpoint} → JustOne o bs n x → (p : List ℕ) (y : Endpoint) → Begins p bs → Sequence o p y → n ≡ length p
one_length j p y b s = j.long ∙ sym (ap length (j.only p y b s).0)
