use Rattle.address_text.proofs.ipv4.Dots.{Numbers}
use Rattle.address_text.proofs.ipv4.read_ipv4.Given as goal

abbrev pub invariant-loop-k : goal.invariant-loop-k
invariant-loop-k l = Numbers l.text l.bytes l.at l.k
