-- 01, "Tunnel": what is asked of a side, and which bytes are just the messages of a talk.
use Rattle.std.specs.Prelude.{ℕ, suc, ◌≤◌, ◌≡◌, List, [], ◌++◌, length}
use Rattle.talk.specs.Decision.{Verdict, Decision, undecided, decided, good}
use Rattle.talk.specs.Talk.{Side, TalkOf, done, failed, stop, send, await}

-- decided, if at all, at n bytes or more
abbrev pub Late : {E : Type 0} → ℕ → Decision E → Type 0
Late n undecided = Unit {0}
Late n (decided m v) = n ≤ m

-- a decision on n bytes, and the one on more: what is decided stays, within the n bytes; what is not is decided past them, if at all
pub data Extends {E : Type 0} (n : ℕ) : Decision E → Decision E → Type 0 where
  waits : {d : Decision E} → Late (suc n) d → Extends n undecided d
  stays : {m : ℕ} {v : Verdict E} → m ≤ n → Extends n (decided m v) (decided m v)

-- wherever a talk waits, what is left to do is what the stage says
abbrev pub Shaped : (M : Side) → TalkOf M → Type 0
Shaped M (stop e) = Unit {0}
Shaped M (send q t) = Shaped M t
Shaped M (await s k) = (M.talk_at s ≡ await s k) × ((m : List ℕ) → Shaped M (k m))

pub record Lawful (M : Side) : Type 0 where
  pub stable : (s : M.Stage) (bs more : List ℕ) → Extends (length bs) (M.reads s bs) (M.reads s (bs ++ more))
  pub shaped : (s : M.Stage) → Shaped M (M.talk_at s)

-- bytes are one message, and it is good
abbrev pub Good : (M : Side) → M.Stage → List ℕ → Type 0
Good M s m = M.reads s m ≡ decided (length m) good

-- bytes are just the messages of a talk that is done with a result
abbrev pub Accepts : (M : Side) → TalkOf M → List ℕ → M.Result → Type 0
Accepts M (stop (done r)) p x = (p ≡ []) × (r ≡ x)
Accepts M (stop (failed e)) p x = ⊥
Accepts M (send q t) p x = Accepts M t p x
Accepts M (await s k) p x = (m : List ℕ) × (l : List ℕ) × (p ≡ m ++ l) × Good M s m × Accepts M (k m) l x

-- a list of bytes begins another
abbrev pub Begins : List ℕ → List ℕ → Type 0
Begins p bs = (follows : List ℕ) × (bs ≡ p ++ follows)
