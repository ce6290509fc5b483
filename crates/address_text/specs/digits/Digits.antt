-- 01, "Address text": a number or a group by one definition, by its radix.
use Rattle.std.specs.Prelude.{ℕ, Bool, List}
use Rattle.protocol.specs.declared.Digits.{Digits}
use Rattle.protocol.specs.AddressReading.{decimal_goes, hex_goes, number_of, group_of}
use Rattle.address_text.specs.declared.digits.Radix.{Radix}
use Rattle.address_text.specs.declared.digits.Radix.TheVariants.{Decimal, Hexadecimal}

-- digits of a number (decimal) or of a group: which may follow, the radix, and what a text begins with
abbrev pub goes_by : Radix → ℕ → ℕ → ℕ → Bool
goes_by Decimal = decimal_goes
goes_by Hexadecimal = hex_goes

abbrev pub radix_of : Radix → ℕ
radix_of Decimal = 10
radix_of Hexadecimal = 16

abbrev pub digits_of : Radix → List ℕ → Digits
digits_of Decimal s = number_of s
digits_of Hexadecimal s = group_of s
