-- 01, "v5 requests": how many bytes an address field has, by its kind and length.
use Rattle.std.specs.Prelude.{ℕ, ◌+◌}
use Rattle.protocol.specs.declared.AddressKind.{AddressKind}
use Rattle.protocol.specs.declared.AddressKind.TheVariants.{Ipv4, Ipv6, Domain}

abbrev pub address_size : AddressKind → ℕ → ℕ
address_size Ipv4 n = n + 1
address_size Ipv6 n = n + 1
address_size Domain n = n + 2
