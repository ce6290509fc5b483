-- 01, "End of stream": what an end makes of a stage; a session that has failed holds nothing.
use Rattle.std.specs.Prelude.{Bool, cond, Result, Ok, Err}
use Rattle.protocol.specs.declared.SocksError.{SocksError}
use Rattle.protocol.specs.declared.SocksError.TheVariants.{UnexpectedEof, Settled, OutOfOrder}
use Rattle.client_stages.specs.declared.due.Stage.{Stage}
use Rattle.client_stages.specs.declared.due.Stage.TheVariants.{Awaiting, Open, Failed}

-- the stage behind it; on a refusal the session stays as it was
abbrev pub end_awaiting : Bool → Result Stage SocksError
end_awaiting g = cond g (Ok (Failed UnexpectedEof)) (Err OutOfOrder)

abbrev pub end_at : Stage → Bool → Result Stage SocksError
end_at (Awaiting e) g = end_awaiting g
end_at Open g = Err Settled
end_at (Failed x) g = Err Settled
