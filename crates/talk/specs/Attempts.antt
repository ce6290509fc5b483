-- F-11: how many messages bytes decide, and the attempts of a piece.
use Rattle.std.specs.Prelude.{ℕ, suc, ◌+◌, List, ◌++◌, take, drop}
use Rattle.talk.specs.Decision.{Decision, undecided, decided, good, bad}
use Rattle.talk.specs.Talk.{Side, TalkOf, stop, send, await, Session, waiting, ended, SessionOf, onward}

-- one for each message decided, good or bad
abbrev pub counting : {E : Type 0} → Decision E → (ℕ → ℕ) → ℕ
counting undecided on = 0
counting (decided n good) on = suc (on n)
counting (decided n (bad e)) on = 1

unfoldable pub decided_in : (M : Side) → TalkOf M → List ℕ → ℕ
decided_in M (stop e) bs = 0
decided_in M (send q t) bs = decided_in M t bs
decided_in M (await s k) bs = counting (M.reads s bs) (λ n. decided_in M (k (take n bs)) (drop n bs))

-- by more bytes to a session
unfoldable pub decided_by : (M : Side) → SessionOf M → List ℕ → ℕ
decided_by M (waiting s held) more = decided_in M (M.talk_at s) (held ++ more)
decided_by M (ended e) more = 0

abbrev pub one_if_waiting : {S R E : Type 0} → Session S R E → ℕ
one_if_waiting (waiting s held) = 1
one_if_waiting (ended e) = 0

-- the messages decided in it, and one more if it ends waiting
abbrev pub attempts_by : (M : Side) → SessionOf M → List ℕ → ℕ
attempts_by M s piece = decided_by M s piece + one_if_waiting (onward M s piece).session
