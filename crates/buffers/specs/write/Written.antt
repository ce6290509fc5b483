-- 01, "Delivery": bytes written over a buffer from a place.
use Rattle.std.specs.Prelude.{ℕ, ◌+◌, ◌≤◌, ◌≡◌, List, ◌++◌, length, take, drop}

-- a buffer with bytes over it from a place; every other byte stays
unfoldable pub overwrite : List ℕ → ℕ → List ℕ → List ℕ
overwrite out at bs = take at out ++ (bs ++ drop (at + length bs) out)

-- bytes were written within the buffer: the place behind them, and the buffer after
pub record Wrote (out : List ℕ) (at : ℕ) (bs : List ℕ) (next : ℕ) (out' : List ℕ) : Type 0 where
  pub inside : at + length bs ≤ length out
  pub place : next ≡ at + length bs
  pub bytes : out' ≡ overwrite out at bs
