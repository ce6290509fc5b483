-- 01, "a small reader over the unread bytes": bytes taken at a place of a list, and the place behind them. Where they have not all come, the place stays.
use Rattle.std.specs.Prelude.{ℕ, ◌+◌, cond, List, length, ltb, leb}
use Rattle.protocol.specs.Bytes.{byte}
use Rattle.reader.specs.declared.Took.{Took}
use Rattle.reader.specs.declared.Passed.{Passed}
use Rattle.reader.specs.declared.Two.{Two}
use Rattle.reader.specs.declared.Three.{Three}

-- the byte of a place past the end is 0
unfoldable pub byte_at : List ℕ → ℕ → Took
byte_at s at = let came = ltb at (length s) in record { byte = byte s at; came = came; at = cond came (at + 1) at }

unfoldable pub bytes_at : List ℕ → ℕ → ℕ → Passed
bytes_at s at n = let came = leb (at + n) (length s) in record { came = came; at = cond came (at + n) at }

-- in a row, each from the place behind the one before
unfoldable pub two_at : List ℕ → ℕ → Two
two_at s at =
    let a = byte_at s at in
    let b = byte_at s a.at in
    record { first = a.byte; second = b.byte; came = b.came; at = b.at }

unfoldable pub three_at : List ℕ → ℕ → Three
three_at s at =
    let a = byte_at s at in
    let b = byte_at s a.at in
    let c = byte_at s b.at in
    record { first = a.byte; second = b.byte; third = c.byte; came = c.came; at = c.at }
