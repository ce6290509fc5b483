-- F-2 and F-4: the requests that a session keeps, one behind the other, each cut at its limit whatever a session value says.
use Rattle.std.specs.Prelude.{ℕ, ◌+◌, ◌≤◌, min, cond, List, ◌++◌, length, take, drop}
use Rattle.protocol.specs.declared.Reply.{Reply}
use Rattle.protocol.specs.declared.Reply.TheVariants.{NegotiationRes, AuthenticationRes, ProxyRes, Response}
use Rattle.protocol.specs.Client.{Kept}
use Rattle.client_stages.specs.declared.due.Lengths.{Lengths}
use Rattle.client_stages.specs.declared.due.Requests.{Requests}

abbrev pub part : List ℕ → ℕ → ℕ → List ℕ
part bytes from n = take n (drop from bytes)

-- 3 bytes for a NegotiationReq, 513 for an AuthenticationReq, 262 for a ProxyReq; over v4 1,024 for a Request
abbrev pub negotiation_size : Lengths → ℕ
negotiation_size l = min l.first 3

abbrev pub authentication_size : Lengths → ℕ
authentication_size l = min l.authentication 513

abbrev pub proxy_size : Lengths → ℕ
proxy_size l = min l.proxy 262

abbrev pub request_size : Lengths → ℕ
request_size l = min l.first 1024

abbrev pub negotiation_of : Requests → List ℕ
negotiation_of r = part r.bytes 0 (negotiation_size r.lengths)

abbrev pub authentication_of : Requests → List ℕ
authentication_of r = part r.bytes (negotiation_size r.lengths) (authentication_size r.lengths)

abbrev pub proxy_of : Requests → List ℕ
proxy_of r = part r.bytes (negotiation_size r.lengths + authentication_size r.lengths) (proxy_size r.lengths)

abbrev pub request_of : Requests → List ℕ
request_of r = part r.bytes 0 (request_size r.lengths)

-- what is kept, as the requests that may still be due
abbrev pub requests_of : Requests → Kept
requests_of r = record { optimistic = r.lengths.optimistic; authentication = authentication_of r; proxy = proxy_of r }

-- F-7: what a start sends: over v5 the NegotiationReq, or optimistically all; over v4 the Request. The version is told by the reply that is waited for
abbrev pub first_of5 : Requests → List ℕ
first_of5 r = cond r.lengths.optimistic (negotiation_of r ++ (authentication_of r ++ proxy_of r)) (negotiation_of r)

abbrev pub first_of : Reply → Requests → List ℕ
first_of (NegotiationRes m) r = first_of5 r
first_of AuthenticationRes r = first_of5 r
first_of ProxyRes r = first_of5 r
first_of Response r = request_of r

-- the limits of the requests that may still be due
pub record Limited (c : Kept) : Type 0 where
  pub authentication : length c.authentication ≤ 513
  pub proxy : length c.proxy ≤ 262
