-- Sessions that lent bytes can hold, and the number of the reply that one awaits.
use Rattle.std.specs.Prelude.{◌≡◌, ℕ, ◌^◌, ◌<◌, length}
use Rattle.client_stages.specs.declared.due.Stage.{Stage}
use Rattle.client_stages.specs.declared.due.Stage.TheVariants.{Awaiting, Open, Failed}
use Rattle.client_session.specs.declared.Session.{Session}
use Rattle.lent_session.specs.State.{reply_number}

pub record Fits (x : Session) : Type 0 where
  pub attempts : x.attempts < 2 ^ 64
  pub held : x.held < 65536
  pub first : x.requests.lengths.first < 65536
  pub authentication : x.requests.lengths.authentication < 65536
  pub proxy : x.requests.lengths.proxy < 65536
  pub port : x.bound.port < 65536
  pub hold : length x.hold ≡ 261
  pub bytes : length x.requests.bytes ≡ 1024

-- 0 where none is awaited
abbrev pub awaited_number : Stage → ℕ
awaited_number (Awaiting e) = reply_number e
awaited_number Open = 0
awaited_number (Failed x) = 0
