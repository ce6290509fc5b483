-- The texts of credentials, each of which a length byte counts.
use Rattle.std.specs.Prelude.{◌≤◌, length}
use Rattle.proxy_spec.specs.End.{Setup}

pub record Counted (c : Setup) : Type 0 where
  pub user : length c.user ≤ 255
  pub password : length c.password ≤ 255
