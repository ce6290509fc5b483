-- A name's answer does not show the name.
use Rattle.std.proofs.Common.{◌≡◌, ℕ, List, refl}
use mathlib.Core.Option.{Option, none, some}
use Rattle.protocol.specs.AddressReading.{chosen}
use Rattle.address_text.specs.ipv4.Answers.{address_text}
use Rattle.address_text.specs.ipv6.Answers.{ipv6_text}

pub any_name : (s : List ℕ) (r : Option (List ℕ)) → address_text (chosen s none r) ≡ ipv6_text r
any_name s none = refl
any_name s (some bs) = refl
