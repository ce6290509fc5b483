-- What preparing returned says of the stream all that the call goes by: the checks' answer and the kind of opening.
use Prim.Native.Nat.{ℕ}
use mathlib.Core.Path.{◌≡◌, refl, ap, ◌∙◌}
use mathlib.Core.Bool.{Bool, true, false}
use mathlib.Core.List.{List}
use Rattle.protocol.specs.Answers as code
use Rattle.protocol.specs.declared.Version.TheVariants.{V5}
use Rattle.protocol.specs.Host.{strip}
use Rattle.protocol.specs.AddressReading.{Destination, destination_of}
use Rattle.protocol.specs.Opening.{V5 as Given5, V4 as Given4, check5, check4, Opening, v5, credentials_if, port_number, asked5, opening5, opening4}
use Rattle.client_session.specs.declared.Prepared.{Prepared}
use Rattle.client_session.specs.Calls.{prepared_by, prepare5, prepare4}
use Rattle.endings_spec.specs.declared.Kind.TheVariants.{OverV4}
use Rattle.endings_spec.specs.declared.OutcomeStatus.{OutcomeStatus}
use Rattle.endings_spec.specs.Streams.{kind_of, stream_of}
use Rattle.endings.specs.Calls.{produced, stream5, stream4}
use Rattle.endings.specs.Coded.{kind_by}

answered : (x : code.Answer) (o : Opening) → (prepared_by x o).answer ≡ x
answered code.Accepted o = refl
answered (code.Refused e) o = refl

kind_if : (b : Bool) (u p : List ℕ) (d : Destination) (port : ℕ) (o : Bool) → kind_by V5 b ≡ kind_of (v5 (credentials_if b u p) d port o)
kind_if true u p d port o = refl
kind_if false u p d port o = refl

pub kind5 : (a : Given5) → kind_by V5 a.config.proxy_auth ≡ kind_of (opening5 a)
unfolding opening5
kind5 a = kind_if a.config.proxy_auth a.user a.password (asked5 a.config.local_dns a.records (destination_of (strip a.host))) (port_number a.port) a.config.optimistic

pub kind4 : (a : Given4) → OverV4 ≡ kind_of (opening4 a)
unfolding opening4
kind4 a = refl

pub prepared5 : (a : Given5) (w : OutcomeStatus) (buffer : List ℕ) {p : Prepared} → p ≡ prepare5 a → produced p.answer (stream_of (kind_by V5 a.config.proxy_auth) w) buffer ≡ stream5 a w buffer
unfolding prepare5 stream5
prepared5 a w buffer q =
    let x = ap (λ (p : Prepared). p.answer) q ∙ answered (check5 a) (opening5 a) in
    λ i. produced (x i) (stream_of (kind5 a i) w) buffer

pub prepared4 : (a : Given4) (w : OutcomeStatus) (buffer : List ℕ) {p : Prepared} → p ≡ prepare4 a → produced p.answer (stream_of OverV4 w) buffer ≡ stream4 a w buffer
unfolding prepare4 stream4
prepared4 a w buffer q = let x = ap (λ (p : Prepared). p.answer) q ∙ answered (check4 a) (opening4 a) in λ i. produced (x i) (stream_of (kind4 a i) w) buffer
