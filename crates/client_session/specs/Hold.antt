-- F-2: what a delivery does to the hold.
use Rattle.std.specs.Prelude.{◌≡◌, ℕ, ◌≤◌}
use Rattle.protocol.specs.Bytes.{byte}
use Rattle.client_session.specs.declared.Session.{Session}

-- none of the hold's bytes has changed but the first ones, as many as are held after it
abbrev pub HoldStays : Session → Session → Type 0
HoldStays before after = (i : ℕ) → after.held ≤ i → byte after.hold i ≡ byte before.hold i
