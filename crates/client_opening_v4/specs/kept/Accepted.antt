-- 01, "Opening v4" and "v4 request", and F-7: what the checks of an accepted opening over v4 give the code that follows them.
use Rattle.std.specs.Prelude.{ℕ, ◌≤◌, ◌≡◌, List, length}
use Rattle.protocol.specs.declared.AddressKind.{AddressKind}
use Rattle.protocol.specs.declared.AddressKind.TheVariants.{Ipv6, Domain}

pub record Short4 (kind : AddressKind) (text : List ℕ) : Type 0 where
  pub not_ipv6 : kind ≡ Ipv6 → ⊥
  pub name : kind ≡ Domain → length text ≤ 1014
