-- A place of two lists in a row: in the first, in the second, or behind both. And two bytes as a number.
use mathlib.Core.Path.{◌≡◌}
use mathlib.Core.Bool.{Bool, true, false}
use mathlib.Core.List.{List, ◌++◌}
use Prim.Native.Nat.{ℕ, ◌+◌, ◌-◌, ◌*◌, ◌≤◌, ◌<◌}
use native.Mathlib.Omega.{arith}
use lib.ListN.{length, drop, length-append, get_or-append, get_or-eq_default}
use lib.Seq.{get_or-append-add, get_or-drop}
use borrow.Author.Tests.{lt-ltb, le-ltb}
use Rattle.protocol.specs.Bytes.{byte, two_of}
use Rattle.reader.specs.declared.Took.{Took}
use Rattle.reader.specs.Reader.{byte_at}

abbrev took : ℕ → Bool → ℕ → Took
took b came at = record { byte = b; came = came; at = at }

module _ (h p : List ℕ) (at : ℕ) where
  pub in_first : at < length h → took (byte h at) true (at + 1) ≡ byte_at (h ++ p) at
  unfolding byte_at
  in_first i =
      let j : at < length (h ++ p) = rw length-append (omega arith) in
      rw (lt-ltb at (length (h ++ p)) j, get_or-append h p 0 at i)

  pub in_second : length h ≤ at → at - length h < length p → took (byte p (at - length h)) true (at + 1) ≡ byte_at (h ++ p) at
  unfolding byte_at
  in_second i k =
      let j : at < length (h ++ p) = rw length-append (omega arith) in
      let e : length h + (at - length h) ≡ at = omega arith in
      let f : byte (h ++ p) at ≡ byte p (at - length h) = rw e at (get_or-append-add h p (at - length h) 0) in
      rw (lt-ltb at (length (h ++ p)) j, f)

  pub behind : length h ≤ at → length p ≤ at - length h → took 0 false at ≡ byte_at (h ++ p) at
  unfolding byte_at
  behind i k =
      let j : length (h ++ p) ≤ at = rw length-append (omega arith) in
      rw (le-ltb at (length (h ++ p)) j, get_or-eq_default {A = ℕ} (h ++ p) 0 j)

pub two_is : (bytes : List ℕ) (at : ℕ) {a b : ℕ} → a ≡ byte bytes at → b ≡ byte bytes (at + 1) → a * 256 + b ≡ two_of (drop at bytes)
two_is bytes at p q =
    let z : at + 0 ≡ at = omega arith in
    rw (p, q, get_or-drop at bytes 0 0, get_or-drop at bytes 1 0, z)
