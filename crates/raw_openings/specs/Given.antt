-- What the calls that prepare are given, as numbers and bytes, and what they return.
use Rattle.std.specs.Prelude.{ℕ, List}
use Rattle.protocol.specs.declared.SocksConfig.{SocksConfig}
use Rattle.protocol.specs.Opening.{V5, V4}
use Rattle.client_session.specs.declared.Prepared.{Prepared}
use Rattle.raw_numbers.specs.Numbers.{truth, port_of}
use Rattle.raw_records.specs.Records.{records_in}
use Rattle.raw_session.specs.declared.RawStep.{RawStep}
use Rattle.raw_session.specs.Raw.{step_of}
use Rattle.raw_openings.specs.declared.RawConfig.{RawConfig}

abbrev pub config_of : RawConfig → SocksConfig
config_of c = record { proxy_auth = truth c.proxy_auth; local_dns = truth c.local_dns; optimistic = truth c.optimistic }

abbrev pub given5 : RawConfig → List ℕ → ℕ → List ℕ → List ℕ → List ℕ → V5
given5 c host port user password records =
    record { config = config_of c; host = host; port = port_of port; user = user; password = password; records = records_in records }

abbrev pub given4 : ℕ → List ℕ → ℕ → List ℕ → V4
given4 local_dns host port records = record { local_dns = truth local_dns; host = host; port = port_of port; records = records_in records }

abbrev pub prepared_step : Prepared → RawStep
prepared_step p = step_of p.answer p.session 0 0
