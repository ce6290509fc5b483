use borrow.Author.Rules.{rules}
use native.Mathlib.Omega.{arith}
use mathlib.Core.Path.{◌≡◌, ap, ◌∙◌}
use lib.ListN.{drop}
use lib.Seq.{paste, paste-zero}
use Rattle.buffers.proofs.hold.Rest.{moved, all_moved, moved_length}
use Rattle.buffers.proofs.hold.shift.Goals as goal

pub loop-i-init : goal.loop-i-init
loop-i-init c = (omega arith, paste-zero c.args.hold.now 0 (drop c.args.from c.args.hold.now))

pub bounds-hold-from : goal.bounds-hold-from
bounds-hold-from c =
    let l = c.loop-i in
    let a = c.args in
    let h = moved_length a.hold.now a.from l.i (search rules) l.invariant.1 in
    omega arith

pub bounds-hold-i : goal.bounds-hold-i
bounds-hold-i c =
    let l = c.loop-i in
    let a = c.args in
    let h = moved_length a.hold.now a.from l.i (search rules) l.invariant.1 in
    omega arith

pub loop-i-preserved : goal.loop-i-preserved
loop-i-preserved c =
    let l = c.loop-i in
    let a = c.args in
    (search rules, moved a.hold.now a.from l.i (search rules) l.invariant.1)

pub shape_of-hold : goal.shape_of-hold
shape_of-hold c =
    let l = c.loop-i in
    let a = c.args in
    moved_length a.hold.now a.from l.i (search rules) l.invariant.1

pub returns : goal.returns
returns c =
    let l = c.loop-i in
    let a = c.args in
    let e : l.i ≡ a.n = omega arith in
    l.invariant.1 ∙ ap (paste a.hold.now 0 (drop a.from a.hold.now)) e ∙ all_moved a.hold.now a.from a.n c.requires
