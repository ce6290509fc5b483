-- F-3: how many bytes an address field has, and the last fields in whose own bytes a destination stands.
use Rattle.std.specs.Prelude.{ℕ, ◌+◌, cond, List, eqb}
use Rattle.protocol.specs.Bytes.{byte}
use Rattle.proxy_spec.specs.declared.Field.{Field}
use Rattle.proxy_spec.specs.declared.Field.TheVariants.{First, Methods, User, Password, Head, Address, Request, UserId, Name}
use Rattle.proxy_decisions.specs.destination.Last.{Last}

-- by the type: an address and a port, or a length, a name and a port
unfoldable pub address_size : ℕ → List ℕ → ℕ
address_size type m = cond (eqb type 0x01) 6 (cond (eqb type 0x04) 18 (3 + byte m 0))

-- a last field, and not a user id, behind which the address of the field before is asked for
abbrev pub Tells : Field → List ℕ → Type 0
Tells First m = ⊥
Tells Methods m = ⊥
Tells User m = ⊥
Tells (Password right) m = ⊥
Tells Head m = ⊥
Tells (Address command type) m = Last (Address command type) m
Tells Request m = ⊥
Tells (UserId p) m = ⊥
Tells (Name p) m = Last (Name p) m
