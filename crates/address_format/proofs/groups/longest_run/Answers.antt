use Rattle.address_format.proofs.groups.Scan.{best_none, here, behind, ahead_most}
use Rattle.address_format.proofs.groups.Runs.{longest_zeros}
use borrow.Author.Rules.{rules}
use mathlib.Core.Path.{◌≡◌, ◌∙◌}
use native.Mathlib.Nat.{zero-add}
use native.Mathlib.Omega.{arith}
use Rattle.address_format.proofs.groups.longest_run.Goals as goal

pub loop-i-init : goal.loop-i-init
loop-i-init c = (search rules, best_none c.args.groups.now 8 c.requires)

pub zeros_from-zeros-requires : goal.zeros_from-zeros-requires
zeros_from-zeros-requires c = omega (arith, ahead_most c.loop-i.invariant.1, c.requires)

pub loop-i-preserved-then-count-zeros : goal.loop-i-preserved-then-count-zeros
loop-i-preserved-then-count-zeros c =
    let l = c.loop-i in
    (search rules, here c.args.groups.now l.i c.loop-i-test.true (omega arith) l.invariant.1 c.zeros_from-zeros.ensures (omega arith))

pub loop-i-preserved : goal.loop-i-preserved
loop-i-preserved c =
    let l = c.loop-i in
    (search rules, behind c.args.groups.now l.i c.loop-i-test.true (omega arith) l.invariant.1 c.zeros_from-zeros.ensures (omega arith))

pub returns : goal.returns
returns c =
    let e : c.loop-i.i ≡ 0 = omega arith in
    let b = rw e at c.loop-i.invariant.1 in
    let l = (longest_zeros c.args.groups.now).inside in
    (b.begins ∙ zero-add _, (b.counts, omega (arith, b.begins, b.counts, c.requires)))
