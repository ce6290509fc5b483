-- F-2: a session keeps the requests of its opening as the bytes that will go.
use Rattle.std.specs.Prelude.{◌≡◌, []}
use Rattle.protocol.specs.declared.AuthMethod.TheVariants.{NoAuth, UserPass}
use Rattle.protocol.specs.Requests.{negotiation_req, authentication_req, proxy_req, request}
use Rattle.protocol.specs.Opening.{Opening, v5, v4, no_auth, user_pass}
use Rattle.client_stages.specs.declared.due.Requests.{Requests}
use Rattle.client_stages.specs.due.Parts.{negotiation_of, authentication_of, proxy_of, request_of}

-- each part of what is kept is a request of the opening
abbrev pub Parts : Opening → Requests → Type 0
Parts (v5 no_auth d port o) r = (negotiation_of r ≡ negotiation_req NoAuth) × (authentication_of r ≡ []) × (proxy_of r ≡ proxy_req d port)
Parts (v5 (user_pass u p) d port o) r = (negotiation_of r ≡ negotiation_req UserPass) × (authentication_of r ≡ authentication_req u p) × (proxy_of r ≡ proxy_req d port)
Parts (v4 d port) r = request_of r ≡ request d port
