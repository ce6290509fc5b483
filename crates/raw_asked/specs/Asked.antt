-- The destination that a proxy's end hands out, in numbers.
use Rattle.proxy_decisions.specs.declared.destination.Target.{Target}
use Rattle.raw_numbers.specs.Numbers.{kind_number}
use Rattle.raw_asked.specs.declared.RawTarget.{RawTarget}

abbrev pub target_of : Target → RawTarget
target_of t = record { len = t.len; port = t.port; kind = kind_number t.kind; bytes = t.bytes }
