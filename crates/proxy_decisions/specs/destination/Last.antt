-- F-3: a last field, whole, and a destination as a value that is handed out.
use Rattle.std.specs.Prelude.{ℕ, min, ◌≡◌, List, length, take}
use Rattle.protocol.specs.Bytes.{padded}
use Rattle.protocol.specs.Bound.{Endpoint, kind_in, bytes_in}
use Rattle.proxy_spec.specs.declared.Field.{Field}
use Rattle.proxy_spec.specs.declared.Field.TheVariants.{First, Methods, User, Password, Head, Address, Request, UserId, Name}
use Rattle.proxy_spec.specs.Side.{reads}
use Rattle.talk.specs.Decision.{decided, good}
use Rattle.proxy_decisions.specs.declared.destination.Target.{Target}

-- the field may be the last, and bytes are just it
abbrev pub Last : Field → List ℕ → Type 0
Last First m = ⊥
Last Methods m = ⊥
Last User m = ⊥
Last (Password right) m = ⊥
Last Head m = ⊥
Last (Address command type) m = reads (Address command type) m ≡ decided (length m) good
Last Request m = ⊥
Last (UserId p) m = reads (UserId p) m ≡ decided (length m) good
Last (Name p) m = reads (Name p) m ≡ decided (length m) good

-- the bytes stand at the start of an array of zeros, which holds 1,014
abbrev pub target_as : Endpoint → Target
target_as x =
    record {
      kind = kind_in x.address;
      len = min (length (bytes_in x.address)) 1014;
      bytes = padded 1014 (take 1014 (bytes_in x.address));
      port = x.port;
    }
