-- What the code makes, field by field.
use Prim.Native.Nat.{ℕ}
use mathlib.Core.Path.{◌≡◌, sym, ap, ◌∙◌}
use mathlib.Core.Bool.{Bool}
use Rattle.protocol.specs.declared.AddressKind.{AddressKind}
use Rattle.protocol.specs.Answers.{Answer}
use Rattle.protocol.specs.declared.SocksError.{SocksError}
use Rattle.protocol.specs.declared.Version.{Version}
use Rattle.protocol.specs.Numbers.{number, status, answer_number}
use Rattle.proxy_spec.specs.declared.Stage.{Stage}
use Rattle.proxy_spec.specs.declared.Stage.TheVariants.{Asked, Failed}
use Rattle.proxy_spec.specs.End.{success}
use Rattle.proxy_session.specs.declared.Server.{Server}
use Rattle.raw_numbers.specs.Numbers.{truth, bit, kind_of, kind_number}
use Rattle.raw_session.specs.declared.RawOutcome.{RawOutcome}
use Rattle.raw_server.specs.declared.RawStage.{RawStage}
use Rattle.raw_server.specs.declared.RawServer.{RawServer}
use Rattle.raw_server.specs.declared.RawServed.{RawServed}
use Rattle.raw_server.specs.Raw.{stage_of, server_of, numbered, stage_numbers, raw_of, standing_of, served_of}

pub numbered_as : {r : RawStage} {n m : ℕ} → r ≡ numbered n → n ≡ m → r ≡ numbered m
numbered_as r n = r ∙ ap numbered n

abbrev failure_with : ℕ → ℕ → RawStage
failure_with n t =
    record { dstport = 0; number = 0; error = n; status = t; command = 0; atyp = 0; first = 0; second = 0; third = 0; fourth = 0 }

pub failure_as : {g : Stage} {e : SocksError} {n t : ℕ} → g ≡ Failed e → n ≡ number e → t ≡ status e → failure_with n t ≡ stage_numbers g
failure_as g n t = (λ i. failure_with (n i) (t i)) ∙ ap stage_numbers (sym g)

abbrev server_with : RawServer → Stage → AddressKind → Bool → Server
server_with r g k b =
    record {
      stage = g;
      held = r.held;
      hold = r.hold;
      bound = record { kind = k; port = r.port };
      authenticates = b;
      user = record { len = r.userlen; bytes = r.user };
      password = record { len = r.passlen; bytes = r.password };
    }

pub server_as : (r : RawServer) {g : Stage} {k : AddressKind} {b : Bool} → g ≡ stage_of r.stage → k ≡ kind_of r.kind → b ≡ truth r.authenticates
    → server_with r g k b ≡ server_of r
server_as r g k b = λ i. server_with r (g i) (k i) (b i)

abbrev raw_with : Server → RawStage → ℕ → ℕ → RawServer
raw_with s g k b =
    record {
      held = s.held;
      stage = g;
      port = s.bound.port;
      kind = k;
      authenticates = b;
      userlen = s.user.len;
      passlen = s.password.len;
      hold = s.hold;
      user = s.user.bytes;
      password = s.password.bytes;
    }

pub raw_as : (s : Server) {g : RawStage} {k b : ℕ} → g ≡ stage_numbers s.stage → k ≡ kind_number s.bound.kind → b ≡ bit s.authenticates
    → raw_with s g k b ≡ raw_of s
raw_as s g k b = λ i. raw_with s (g i) (k i) (b i)

pub asked_as : {g : Stage} {v : Version} {t : ℕ} → g ≡ Asked v → t ≡ success v
    → ◌≡◌ {A = RawOutcome} (record { state = 3; number = 0; status = t }) (standing_of g)
asked_as g t = (λ i. record { state = 3; number = 0; status = t i }) ∙ ap standing_of (sym g)

pub failed_as : {g : Stage} {e : SocksError} {n t : ℕ} → g ≡ Failed e → n ≡ number e → t ≡ status e
    → ◌≡◌ {A = RawOutcome} (record { state = 2; number = n; status = t }) (standing_of g)
failed_as g n t = (λ i. record { state = 2; number = n i; status = t i }) ∙ ap standing_of (sym g)

pub served_as : (a : Answer) (s : Server) (u n : ℕ) {r : RawServer} {x : ℕ} {w : RawOutcome} → r ≡ raw_of s → x ≡ answer_number a → w ≡ standing_of s.stage
    → ◌≡◌ {A = RawServed} (record { server = r; used = u; sent = n; answer = x; outcome = w }) (served_of a s u n)
served_as a s u n r x w = λ i. record { server = r i; used = u; sent = n; answer = x i; outcome = w i }
