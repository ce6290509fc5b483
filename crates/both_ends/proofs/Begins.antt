-- Bytes that begin others, and requests sent one behind the other.
use Prim.Native.Nat.{ℕ, zero, suc, ◌+◌, ◌≤◌}
use native.Mathlib.Omega.{arith}
use mathlib.Core.Path.{◌≡◌, refl, sym, ◌∙◌}
use mathlib.Core.Bool.{Bool, true, false, cond}
use mathlib.Core.List.{List, [], ◌∷◌, ◌++◌, append_assoc, append-nil}
use lib.ListN.{length, take, drop}
use lib.Seq.{take-nil, take_all, drop-drop}
use Rattle.protocol.specs.Machine.{sends}
use Rattle.talk.specs.Lawful.{Begins}

pub begins_all : (p : List ℕ) → Begins p p
begins_all p = ([], sym (append-nil p))

pub begins_then : (p q s : List ℕ) → Begins p q → Begins q s → Begins p s
begins_then p q s (a, e) (b, f) = (a ++ b, f ∙ rw e (append_assoc p a b))

-- ---- requests

pub sends_on : (qs : List (List ℕ)) (s : List ℕ) → Begins s (sends qs s)
sends_on [] s = begins_all s
sends_on (q ∷ qs) s = begins_then s (s ++ q) (sends qs (s ++ q)) (q, refl) (sends_on qs (s ++ q))

sends_some : (n : ℕ) (qs : List (List ℕ)) (s : List ℕ) → Begins (sends (take n qs) s) (sends qs s)
sends_some zero qs s = sends_on qs s
sends_some (suc n) [] s = begins_all s
sends_some (suc n) (q ∷ qs) s = sends_some n qs (s ++ q)

pub sends_next : (n : ℕ) (qs : List (List ℕ)) (s : List ℕ) → sends (take 1 (drop n qs)) (sends (take n qs) s) ≡ sends (take (suc n) qs) s
sends_next zero qs s = refl
sends_next (suc n) [] s = refl
sends_next (suc n) (q ∷ qs) s = sends_next n qs (s ++ q)

pub drop_next : (n : ℕ) (qs : List (List ℕ)) → drop 1 (drop n qs) ≡ drop (suc n) qs
drop_next n qs = let e : n + 1 ≡ suc n = omega arith in drop-drop 1 n qs ∙ rw e

-- what has gone when n replies are in, if all or the first went at the start
abbrev pub gone : Bool → List (List ℕ) → ℕ → List ℕ
gone all qs n = sends (take n (cond all [] (drop 1 qs))) (sends (cond all qs (take 1 qs)) [])

pub gone_so_far : (all : Bool) (qs : List (List ℕ)) (n : ℕ) → Begins (sends (take (suc n) qs) []) (gone all qs n)
gone_so_far true qs n = rw (take-nil {A = List ℕ} n) (sends_some (suc n) qs [])
gone_so_far false [] n = (gone false [] n, refl)
gone_so_far false (q ∷ qs) n = begins_all _

pub gone_all : (all : Bool) (qs : List (List ℕ)) (n : ℕ) → length qs ≤ suc n → gone all qs n ≡ sends qs []
gone_all true qs n h = rw (take-nil {A = List ℕ} n)
gone_all false [] n h = rw (take-nil {A = List ℕ} n)
gone_all false (q ∷ qs) n h = rw (take_all n qs (omega arith))
