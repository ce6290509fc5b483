use Prim.Native.Nat.{◌-◌}
use mathlib.Core.Path.{◌≡◌, ◌∙◌}
use lib.ListN.{take, drop}
use Rattle.buffers.specs.write.Written.{overwrite}
use Rattle.buffers.proofs.hold.Rest.{kept_piece, unshifted, kept_both}
use Rattle.buffers.proofs.hold.keep_rest.Goals.{then-place-gt0, else-place-gt0}
use Rattle.buffers.proofs.hold.keep_rest.Goals as goal

pub returns-then-n-place : goal.returns-then-n-place
returns-then-n-place c = kept_piece c.args.hold.now c.args.n c.args.place c.requires.0 c.args.piece.now c.if-n-place.true c.copy.ensures

pub returns : goal.returns
returns c =
    let a = c.args in
    let e : c.if-place-gt0.hold ≡ overwrite a.hold.now 0 (take (a.n - a.place) (drop a.place a.hold.now)) =
    elim c.if-place-gt0.branch [ then-place-gt0 w ↦ w.hold-is ∙ w.shift.ensures | else-place-gt0 w ↦ w.hold-is ∙ unshifted a.hold.now a.n a.place c.requires.0 w.if-place-gt0.false ] in
    kept_both a.hold.now a.n a.place c.requires.0 c.if-n-place.false e a.piece.now c.copy-2.ensures
