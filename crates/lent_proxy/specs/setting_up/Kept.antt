-- An end that was set up, with credentials and without.
use Rattle.std.specs.Prelude.{◌≡◌, true, false, List, [], ℕ}
use Rattle.proxy_spec.specs.declared.Field.TheVariants.{First}
use Rattle.proxy_spec.specs.declared.Stage.TheVariants.{Awaiting}
use Rattle.proxy_session.specs.declared.Server.{Server}
use Rattle.proxy_session.specs.Server.{credential_of, fresh}
use Rattle.lent_proxy.specs.State.{state_of}

abbrev pub waits : Server
waits = fresh (Awaiting First) false (credential_of []) (credential_of [])

abbrev pub Keeps : List ℕ → List ℕ → List ℕ → Type 0
Keeps user password s = s ≡ state_of (fresh (Awaiting First) true (credential_of user) (credential_of password))
