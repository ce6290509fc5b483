use Rattle.std.proofs.Common.{refl, arith, eq-eqb, ne_eqb}
use Rattle.protocol.specs.AddressReading.{right_of}
use Rattle.address_text.proofs.ipv6.read_right.Goals as goal

pub returns-then-text-eq0 : goal.returns-then-text-eq0
unfolding right_of
returns-then-text-eq0 c = record { shown = rw (eq-eqb _ _ c.if-text-eq0.true); few = omega arith; sixteen = refl; inside = omega arith }

pub returns : goal.returns
unfolding right_of
returns c = rw (ne_eqb _ _ c.if-text-eq0.false) c.read_groups.ensures
