-- A law for each return of a reader that judges a reply by its first two bytes.
use mathlib.Core.Path.{◌≡◌}
use mathlib.Core.List.{List}
use Prim.Native.Nat.{ℕ, ◌≤◌, ◌<◌}
use native.Mathlib.Omega.{arith}
use lib.ListN.{length}
use borrow.Author.Tests.{le-leb, lt-leb}
use Rattle.protocol.specs.Answers.{Verdict, Decision, Undecided, Decided}
use Rattle.protocol.specs.Bytes.{byte}
use Rattle.protocol.specs.Replies.{upon}
use Rattle.reader.specs.declared.Two.{Two}
use Rattle.reader.proofs.Came.{CameTwo}

pub undecided : (n : ℕ) (bs : List ℕ) (d : Decision) → length bs < n → Undecided ≡ upon n bs d
undecided n bs d h = rw (lt-leb n (length bs) h)

-- a reply that is judged by its first two bytes
pub decided : (bs : List ℕ) (n : ℕ) (p : Two) (f : ℕ → ℕ → Verdict) (v : Verdict) → CameTwo bs 0 n p → v ≡ f p.first p.second
    → Decided n v ≡ upon n bs (Decided n (f (byte bs 0) (byte bs 1)))
decided bs n p f v k e =
    let i = k.inside in
    let h : n ≤ length bs = omega arith in
    let a = k.first in
    let b = k.second in
    rw (le-leb n (length bs) h) cc
