-- F-1: bytes put into an output from a place on.
use Rattle.std.specs.Prelude.{ℕ, ◌+◌, ◌≡◌, List, ◌++◌, length, take, drop}

-- the place behind the bytes, what stands before it, and that nothing else changed
pub record Adds (out : List ℕ) (at : ℕ) (bs : List ℕ) (next : ℕ) (out' : List ℕ) : Type 0 where
  pub place : next ≡ at + length bs
  pub added : take next out' ≡ take at out ++ bs
  pub behind : drop next out' ≡ drop next out
  pub same : length out' ≡ length out
