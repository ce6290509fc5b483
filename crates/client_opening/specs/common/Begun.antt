-- 01, "Opening v5" and "Opening v4", and F-7: what preparing comes to: its answer, its stage, and the requests that it keeps.
use Rattle.std.specs.Prelude.{ℕ, Bool, true, false, List}
use Rattle.protocol.specs.declared.AuthMethod.{AuthMethod}
use Rattle.protocol.specs.declared.AuthMethod.TheVariants.{NoAuth, UserPass}
use Rattle.client_session.specs.declared.Prepared.{Prepared}
use Rattle.client_session.specs.Calls.{fresh}
use Rattle.client_opening.specs.declared.common.Begun.{Begun}

abbrev pub method_of : Bool → AuthMethod
method_of true = UserPass
method_of false = NoAuth

-- what is returned of it, with the bytes of the requests
abbrev pub prepared_with : Begun → List ℕ → Prepared
prepared_with b bytes = record { answer = b.answer; session = fresh b.stage (record { lengths = b.lengths; bytes = bytes }) }
