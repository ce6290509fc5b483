use mathlib.Core.Path.{◌≡◌}
use mathlib.Core.Bool.{Bool}
use mathlib.Core.List.{List, ◌++◌}
use Prim.Native.Nat.{ℕ, ◌+◌, ◌-◌}
use native.Mathlib.Omega.{arith}
use lib.ListN.{take, drop}
use borrow.Author.Tests.{eq-eqb, ne_eqb}
use Rattle.protocol.specs.Utf8.{is_utf8}
use Rattle.replies.proofs.v5.name_allowed.Goals as goal

-- the part from a place to so many bytes behind it
part : (bs : List ℕ) (at w len : ℕ) (r : Bool) → w ≡ len → r ≡ is_utf8 (take (at + w - at) (drop at bs)) → r ≡ is_utf8 (take len (drop at bs))
part bs at w len r e f = let z : at + w - at ≡ len = omega arith in rw z at f

pub returns-then-atyp-ne3 : goal.returns-then-atyp-ne3
returns-then-atyp-ne3 c = rw (ne_eqb _ 0x03 c.if-atyp-ne3.true)

pub is_utf8_at-requires : goal.is_utf8_at-requires
is_utf8_at-requires c =
    let pre = c.requires in
    let inside = pre.1 c.if-atyp-ne3.false in
    let w = c.from.ensures in
    (omega arith, omega arith)

pub returns : goal.returns
returns c =
    let args = c.args in
    rw (eq-eqb args.atyp 0x03 c.if-atyp-ne3.false)
    (part (args.held.now ++ args.piece.now) args.at c.from.result args.len c.is_utf8_at.result c.from.ensures c.is_utf8_at.ensures)
