use Rattle.captures.specs.Coded.{size}
use Rattle.captures.proofs.alike.Laws.{Beside}
use Rattle.captures.proofs.alike.same_way.Given as goal

abbrev pub invariant-loop-byte : goal.invariant-loop-byte
invariant-loop-byte l = Beside l.direction l.first l.second l.a.bytes.now l.a.behind.now l.b.bytes.now l.b.behind.now

abbrev pub decreases-loop-byte : goal.decreases-loop-byte
decreases-loop-byte l = size l.a.bytes.now l.a.behind.now
