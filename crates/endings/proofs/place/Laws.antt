-- A stream placed in a buffer, by the tests that led there.
use Prim.Native.Nat.{ℕ}
use mathlib.Core.Path.{◌≡◌, refl, subst}
use mathlib.Core.List.{List}
use Rattle.protocol.specs.declared.SocksError.{SocksError}
use Rattle.endings.specs.Calls.{Produced, Refused, Call, StreamResult, unwritten}

-- nothing is written
pub refuses : (e : SocksError) (buffer : List ℕ) → StreamResult (unwritten (Refused e) buffer) (Refused e) buffer
refuses e buffer = record { returned = refl; left = refl; inside = λ n q. cc }

-- by another call that is the same
pub as_call : {c d : Call} {r : Produced} {buffer : List ℕ} → c ≡ d → StreamResult c r buffer → StreamResult d r buffer
as_call {c} {d} {r} {buffer} q l = subst (λ (x : Call). StreamResult x r buffer) q l
