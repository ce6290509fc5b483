-- F-10: byte strings and captures that are the same; and that the joined bytes of a capture are bytes.
use Prim.Native.Nat.{ℕ, zero-le}
use mathlib.Core.Path.{◌≡◌}
use mathlib.Core.Logic.{◌↔◌}
use mathlib.Core.Bool.{true, ◌&&◌}
use mathlib.Core.List.{List, ◌++◌}
use lib.ListN.{length}
use Rattle.protocol.specs.Bytes.{Bytes, same}
use Rattle.protocol.proofs.Bytes.{bytes_join, bytes_left, bytes_right, both_true, same_equal, same_just}
use Rattle.captures_spec.specs.Captures as C
use Rattle.captures_spec.specs.Captures.{Direction, sent, received, Entry, header, Row, if, joined, Alike}
use Rattle.captures_spec.specs.Reading.{alike}

pub alike_just : (es fs : List Entry) → alike es fs ≡ true ↔ Alike es fs
unfolding alike
alike_just es fs = (there, λ a. rw ((same_just (joined sent es) (joined sent fs)).1 (a sent), (same_just (joined received es) (joined received fs)).1 (a received)))
  where
    there : (same (joined sent es) (joined sent fs) && same (joined received es) (joined received fs)) ≡ true → Alike es fs
    there q sent = same_equal _ _ (both_true (same (joined sent es) (joined sent fs)) _ q).0
    there q received = same_equal _ _ (both_true (same (joined sent es) (joined sent fs)) _ q).1

if_bytes : (d e : Direction) (bs : List ℕ) → Bytes bs → Bytes (if d e bs)
if_bytes sent sent bs y = y
if_bytes sent received bs y = λ i. zero-le
if_bytes received sent bs y = λ i. zero-le
if_bytes received received bs y = y

pub row_bytes : (d : Direction) {c : List ℕ} {es : List Entry} → Row c es → Bytes c → Bytes (joined d es)
unfolding joined
row_bytes d C.none y = λ i. zero-le
row_bytes d (C.next e bs {more} h r) y =
    let z = bytes_right (header e (length bs)) (bs ++ more) y in
    bytes_join (if d e bs) _ (if_bytes d e bs (bytes_left bs more z)) (row_bytes d r (bytes_right bs more z))
