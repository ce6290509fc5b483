-- F-9 as the code has it: what is read of a text, in structs and arrays.
use Rattle.std.specs.Prelude as code
use Rattle.std.specs.Prelude.{ℕ, Bool, true, false, Result, Ok, Err, Some, None, List, [], length, replicate}
use Rattle.std.proofs.Math.Option.{Option, none, some}
use Rattle.protocol.specs.Bytes.{padded}
use Rattle.proxy_url_spec.specs.Reading.{Read, reads, dies, Hosted, Rest}
use Rattle.proxy_url.specs.declared.credentials.Credential.{Credential}
use Rattle.proxy_url.specs.declared.hosts.HostPart.{HostPart}
use Rattle.proxy_url.specs.declared.endpoints.Endpoint.{Endpoint}
use Rattle.proxy_url.specs.declared.rests.Authority.{Authority}

abbrev pub zeros : List ℕ
zeros = replicate 255 0

-- the bytes of a credential, or of none
abbrev pub is_given : Option (List ℕ × List ℕ) → Bool
is_given none = false
is_given (some c) = true

abbrev pub user_of : Option (List ℕ × List ℕ) → List ℕ
user_of none = []
user_of (some c) = c.0

abbrev pub password_of : Option (List ℕ × List ℕ) → List ℕ
password_of none = []
password_of (some c) = c.1

abbrev pub credential_coded : List ℕ → Credential
credential_coded bs = record { len = length bs; bytes = padded 255 bs }

abbrev pub credentials_coded : Option (List ℕ × List ℕ) → code.Option (Credential × Credential)
credentials_coded none = None
credentials_coded (some c) = Some (credential_coded c.0, credential_coded c.1)

abbrev pub host_coded : Hosted → HostPart
host_coded h = record { at = h.at; len = length h.host }

abbrev pub endpoint_coded : Rest → Endpoint
endpoint_coded r = record { host = record { at = r.host_at; len = length r.host }; port = r.port }

abbrev pub authority_coded : Rest → Authority
authority_coded r = record { credentials = credentials_coded r.credentials; endpoint = endpoint_coded r }

-- a field up to the text's end: its value as code has it, or the place at which it dies
abbrev pub ending : {A B : Type 0} → (A → B) → Read A → Result B ℕ
ending f (reads v n) = Ok (f v)
ending f (dies n) = Err n
