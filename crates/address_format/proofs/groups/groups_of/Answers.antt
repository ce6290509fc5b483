use Rattle.std.proofs.Common.{◌≡◌, arith}
use lib.ListN.{length-set}
use Rattle.address_format.proofs.groups.Scan.{groups_more, groups_all}
use Rattle.address_format.proofs.groups.groups_of.Goals as goal

pub loop-i-preserved : goal.loop-i-preserved
loop-i-preserved c =
    let l = c.loop-i in
    (simp length-set l.invariant.0, groups_more c.args.bytes.now l.groups l.i c.from.result c.from-in-loop-i.result (omega arith) (omega arith) c.from.ensures c.from-in-loop-i.ensures l.invariant.1)

pub returns : goal.returns
returns c = (c.loop-i.invariant.0, groups_all c.args.bytes.now c.loop-i.groups 8 c.requires c.loop-i.invariant.0 (let e : c.loop-i.i ≡ 8 = omega arith in rw e at c.loop-i.invariant.1))
