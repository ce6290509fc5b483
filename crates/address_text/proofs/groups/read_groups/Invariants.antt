use Rattle.address_text.proofs.groups.Colons.{Rows}
use Rattle.address_text.proofs.groups.read_groups.Given as goal

abbrev pub invariant-loop-k : goal.invariant-loop-k
invariant-loop-k l = Rows l.text l.bytes l.at l.k
