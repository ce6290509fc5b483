use Rattle.std.proofs.Common.{◌≡◌, ◌+◌, ◌*◌, take}
use Rattle.address_format.specs.numerals.Digits.{hex_of}
use Rattle.address_format.specs.numerals.Added.{Adds}
use Rattle.address_format.proofs.numerals.put_hex.Given as goal

abbrev pub invariant-loop-b : goal.invariant-loop-b
invariant-loop-b l = (l.end ≡ l.at + 2 * l.b-index) × Adds l.initial.out l.at (hex_of (take l.b-index l.s)) l.end l.out
