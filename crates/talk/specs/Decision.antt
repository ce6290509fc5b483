-- 01, "Tunnel": what a reader says of the bytes that are there.
use Rattle.std.specs.Prelude.{ℕ}

-- a message is good, or bad with an error
pub data Verdict (E : Type 0) : Type 0 where
  good : Verdict E
  bad : E → Verdict E

-- not decided yet, or decided by so many bytes, and how
pub data Decision (E : Type 0) : Type 0 where
  undecided : Decision E
  decided : ℕ → Verdict E → Decision E
