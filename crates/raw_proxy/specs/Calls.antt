-- What each call to the proxy's end answers and leaves, in numbers: the library's call on the end that the numbers mean.
use Rattle.std.specs.Prelude.{ℕ, ◌≡◌, List}
use Rattle.protocol.specs.declared.Record.{Record}
use Rattle.proxy_session.specs.declared.SetUp.{SetUp}
use Rattle.proxy_session.specs.Calls.{Call}
use Rattle.raw_numbers.specs.Numbers.{family_of}
use Rattle.raw_server.specs.declared.RawServed.{RawServed}
use Rattle.raw_server.specs.Raw.{served_of}
use Rattle.raw_proxy.specs.declared.RawRecord.{RawRecord}

abbrev pub record_of : RawRecord → Record
record_of r = record { family = family_of r.kind; address = r.address }

abbrev pub set_up_served : SetUp → RawServed
set_up_served u = served_of u.answer u.server 0 0

abbrev pub served_by : Call → RawServed
served_by c = served_of c.answer c.session c.used c.sent

-- what a call returns, and leaves in the output
pub record Serves (c : Call) (r : RawServed) (out' : List ℕ) : Type 0 where
  pub returned : r ≡ served_by c
  pub output : out' ≡ c.output
