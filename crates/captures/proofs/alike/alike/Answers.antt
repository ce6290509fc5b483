use Rattle.captures.proofs.alike.Laws.{alike_both, alike_not}
use Rattle.captures.proofs.alike.alike.Goals as goal

pub returns-then-same_way : goal.returns-then-same_way
returns-then-same_way c =
    let a = c.args in
    alike_both a.first.now a.second.now c.same_way.ensures c.if-same_way.true c.same_way-then-same_way.ensures

pub returns-else-same_way : goal.returns-else-same_way
returns-else-same_way c =
    let a = c.args in
    alike_not a.first.now a.second.now c.same_way.ensures c.if-same_way.false
