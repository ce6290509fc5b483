-- F-7: a start, by the lengths of what is kept and the output lent: what it answers, and how many bytes go.
use Rattle.std.specs.Prelude.{ℕ, ◌+◌, Bool, cond, leb, Result, Ok, Err}
use Rattle.protocol.specs.declared.Reply.{Reply}
use Rattle.protocol.specs.declared.Reply.TheVariants.{NegotiationRes, AuthenticationRes, ProxyRes, Response}
use Rattle.protocol.specs.declared.SocksError.{SocksError}
use Rattle.protocol.specs.declared.SocksError.TheVariants.{ShortOutput, Settled, OutOfOrder}
use Rattle.protocol.specs.Client.{first_room}
use Rattle.client_stages.specs.declared.due.Lengths.{Lengths}
use Rattle.client_stages.specs.declared.due.Stage.{Stage}
use Rattle.client_stages.specs.declared.due.Stage.TheVariants.{Awaiting, Open, Failed}
use Rattle.client_stages.specs.due.Parts.{negotiation_size, authentication_size, proxy_size, request_size}

-- how many bytes `first_of5` and `first_of` have of requests with these lengths
abbrev pub first_size5 : Lengths → ℕ
first_size5 l = cond l.optimistic (negotiation_size l + authentication_size l + proxy_size l) (negotiation_size l)

abbrev pub first_size : Lengths → Reply → ℕ
first_size l (NegotiationRes m) = first_size5 l
first_size l AuthenticationRes = first_size5 l
first_size l ProxyRes = first_size5 l
first_size l Response = request_size l

-- how many bytes go; on a refusal none, and the session stays as it was
abbrev pub start_awaiting : Reply → Bool → Lengths → ℕ → Result ℕ SocksError
start_awaiting e g l room = cond g (Err OutOfOrder) (cond (leb (first_room e) room) (Ok (first_size l e)) (Err ShortOutput))

abbrev pub start_at : Stage → Bool → Lengths → ℕ → Result ℕ SocksError
start_at (Awaiting e) g l room = start_awaiting e g l room
start_at Open g l room = Err Settled
start_at (Failed x) g l room = Err Settled
