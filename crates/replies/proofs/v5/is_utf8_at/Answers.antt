use mathlib.Core.Path.{ap, ◌∙◌}
use native.Mathlib.Omega.{arith}
use lib.ListN.{length-append}
use Rattle.protocol.specs.Utf8.{is_utf8}
use Rattle.buffers.proofs.write.Parts.{part_two}
use Rattle.replies.proofs.v5.is_utf8_at.Goals as goal

pub slice_bounds-is_utf8_in_two-end-2 : goal.slice_bounds-is_utf8_in_two-end-2
slice_bounds-is_utf8_in_two-end-2 c = let args = c.args in omega (arith, length-append args.held.now args.piece.now)

pub returns : goal.returns
returns c =
    let args = c.args in
    let a = c.min-a in
    let b = c.min-b in
    c.is_utf8_in_two.ensures ∙ ap is_utf8 (part_two args.held.now args.piece.now args.from args.to a.result b.result c.requires.0 a.ensures b.ensures)
