-- 01, "The plain machine": the plain machine's state that the client's talk, fed with bytes, stands for.
use Rattle.protocol.specs.declared.Reply.{Reply}
use Rattle.protocol.specs.declared.SocksError.{SocksError}
use Rattle.protocol.specs.Bound.{Endpoint}
use Rattle.protocol.specs.Machine.{Machine, has}
use Rattle.protocol.specs.Client.{outcome_of, bound_in}
use Rattle.talk.specs.Talk.{Fed}

abbrev pub as_machine : Fed Reply Endpoint SocksError → Machine
as_machine f = has f.sent (outcome_of f.session) (bound_in f.session) f.place
