-- What a proxy's end has that fits its writing; and an end with some of its parts changed.
use Rattle.std.specs.Prelude.{ℕ, ◌<◌, ◌≡◌, List, length}
use Rattle.protocol.specs.declared.AddressKind.{AddressKind}
use Rattle.protocol.specs.declared.Bound.{Bound}
use Rattle.protocol.specs.Numbers.{number, status}
use Rattle.proxy_spec.specs.declared.Field.{Field}
use Rattle.proxy_spec.specs.declared.Field.TheVariants.{First, Methods, User, Password, Head, Address, Request, UserId, Name}
use Rattle.proxy_spec.specs.declared.Ports.{Ports}
use Rattle.proxy_spec.specs.declared.Stage.{Stage}
use Rattle.proxy_spec.specs.declared.Stage.TheVariants.{Awaiting, Asked, Open, Failed}
use Rattle.proxy_session.specs.declared.Server.{Server}
use Rattle.lent_proxy.specs.State.{state_of}

pub record PortsFit (p : Ports) : Type 0 where
  pub command : p.command < 256
  pub port : p.port < 65536
  pub first : p.first < 256
  pub second : p.second < 256
  pub third : p.third < 256
  pub fourth : p.fourth < 256

abbrev pub FieldFits : Field → Type 0
FieldFits First = Unit {0}
FieldFits Methods = Unit {0}
FieldFits User = Unit {0}
FieldFits (Password right) = Unit {0}
FieldFits Head = Unit {0}
FieldFits (Address command type) = (command < 256) × (type < 256)
FieldFits Request = Unit {0}
FieldFits (UserId p) = PortsFit p
FieldFits (Name p) = PortsFit p

abbrev pub StageFits : Stage → Type 0
StageFits (Awaiting f) = FieldFits f
StageFits (Asked v) = Unit {0}
StageFits (Open v) = Unit {0}
StageFits (Failed e) = (number e < 256) × (status e < 256)

pub record Fits (x : Server) : Type 0 where
  pub stage : StageFits x.stage
  pub held : x.held < 65536
  pub port : x.bound.port < 65536
  pub hold : length x.hold ≡ 1014
  pub user : length x.user.bytes ≡ 255

-- with another stage, count of held bytes, hold and destination
abbrev pub changed : Server → Stage → ℕ → List ℕ → Bound → Server
changed x stage held hold bound =
    record { stage = stage; held = held; hold = hold; bound = bound; authenticates = x.authenticates; user = x.user; password = x.password }

abbrev pub staged : Server → Stage → AddressKind → Server
staged x stage kind = changed x stage x.held x.hold (record { kind = kind; port = x.bound.port })

-- bytes that are the writing of an end are afterwards that of another
abbrev pub Rewrites : (Server → Server) → List ℕ → List ℕ → Type 0
Rewrites f s s' = (x : Server) → s ≡ state_of x → s' ≡ state_of (f x)
