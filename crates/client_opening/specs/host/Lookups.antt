-- 01, "Lookup": whether preparing reads its lookup's list.
use Rattle.std.specs.Prelude.{ℕ, Bool, ◌&&◌, not, List, length, ltb}
use Rattle.protocol.specs.Host.{strip}
use Rattle.protocol.specs.AddressReading.{destination_of}
use Rattle.protocol.specs.Opening.{is_name}

-- whether a list of records is read: local lookup is on, and the host is a name of no more bytes than a request takes
abbrev pub looks_up : Bool → List ℕ → ℕ → Bool
looks_up local host most = local && (not (ltb most (length (strip host))) && is_name (destination_of (strip host)))
