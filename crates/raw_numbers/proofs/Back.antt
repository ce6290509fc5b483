-- Nothing is lost in numbers: those of a value mean it.
use mathlib.Core.Path.{◌≡◌, refl}
use mathlib.Core.Bool.{Bool, true, false}
use Rattle.protocol.specs.declared.AddressKind.{AddressKind}
use Rattle.protocol.specs.declared.AddressKind.TheVariants.{Ipv4, Ipv6, Domain}
use Rattle.raw_numbers.specs.Numbers.{truth, bit, kind_of, kind_number}

pub bit_back : (b : Bool) → truth (bit b) ≡ b
unfolding truth
bit_back true = refl
bit_back false = refl

pub kind_back : (k : AddressKind) → kind_of (kind_number k) ≡ k
unfolding kind_of
kind_back Ipv4 = refl
kind_back Ipv6 = refl
kind_back Domain = refl
