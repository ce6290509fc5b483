use Rattle.std.proofs.Common.{◌≡◌, drop, ◌^◌, ◌<◌}
use Rattle.address_format.specs.numerals.Read.{digits_from}
use Rattle.address_format.proofs.numerals.read.digits_of.Given as goal

abbrev pub invariant-loop-b : goal.invariant-loop-b
invariant-loop-b l = (l.value < 10 ^ l.b-index) × (digits_from l.value (drop l.b-index l.text) ≡ digits_from 0 l.text)
