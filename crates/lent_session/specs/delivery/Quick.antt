-- A piece that decides nothing, by the reply that is awaited and what is held.
use Rattle.std.specs.Prelude.{◌≡◌, ℕ, ◌+◌, ◌<◌, ◌≤◌, List, ◌++◌, length, take}
use Rattle.protocol.specs.declared.Reply.{Reply}
use Rattle.protocol.specs.Answers.{Undecided}
use Rattle.protocol.specs.Replies.{decide}

-- with fewer bytes in all than so many, the first of them held, a reply is not decided
abbrev pub Fewest : Reply → ℕ → List ℕ → ℕ → Type 0
Fewest e held hold k = (p : List ℕ) → held + length p < k → decide e (take held hold ++ p) ≡ Undecided

-- pieces of a length find room in the hold and do not decide a reply
pub record Stays (e : Reply) (held : ℕ) (hold : List ℕ) (len : ℕ) : Type 0 where
  pub room : held + len ≤ 261
  pub undecided : (p : List ℕ) → length p ≡ len → decide e (take held hold ++ p) ≡ Undecided
