use Rattle.std.proofs.Common.{◌≡◌, drop}
use Rattle.protocol.specs.AddressReading.{digits_from}
use Rattle.address_text.specs.digits.Digits.{goes_by, radix_of, digits_of}
use Rattle.address_text.proofs.digits.Runs.{Within}
use Rattle.address_text.proofs.digits.read_digits.Given as goal

abbrev pub invariant-loop-count : goal.invariant-loop-count
invariant-loop-count l = Within l.radix l.value l.count × (digits_from (goes_by l.radix) (radix_of l.radix) l.value l.count (drop l.count l.text) ≡ digits_of l.radix l.text)
