-- 01, "End of stream": whether a stage is that of an open session.
use Rattle.std.specs.Prelude.{Bool, true, false}
use Rattle.client_stages.specs.declared.due.Stage.{Stage}
use Rattle.client_stages.specs.declared.due.Stage.TheVariants.{Awaiting, Open, Failed}

abbrev pub is_open : Stage → Bool
is_open (Awaiting e) = false
is_open Open = true
is_open (Failed x) = false
