-- 01, "Address text": what a text stands for that is read by the rule of IPv6 alone.
use Rattle.std.specs.Prelude.{ℕ, List, []}
use Rattle.std.proofs.Math.Option.{Option, none}
use Rattle.protocol.specs.AddressReading.{chosen}
use Rattle.address_text.specs.declared.ipv4.AddressText.{AddressText}
use Rattle.address_text.specs.ipv4.Answers.{address_text}

abbrev pub ipv6_text : Option (List ℕ) → AddressText
ipv6_text r = address_text (chosen [] none r)
