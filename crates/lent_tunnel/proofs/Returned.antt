-- What the exported calls on a route's lent bytes return and leave is what the claims are about.
use Prim.Native.Nat.{ℕ}
use mathlib.Core.Path.{◌≡◌}
use mathlib.Core.List.{List}
use Rattle.protocol.specs.declared.SocksError.{SocksError}
use Rattle.protocol.specs.declared.SocksError.TheVariants.{Settled, OutOfOrder}
use Rattle.lent_numbers.specs.declared.told.RawStep.{RawStep}
use Rattle.route_session.specs.calls.Calls.{Call}
use Rattle.lent_route.specs.State.{Phase, preparing, opened, over}
use Rattle.lent_route.specs.Calls.{Untimely, Leaves, Delivers, OpensIn}
use Rattle.lent_tunnel.specs.Routed.{returned, untimely, opens_in, called_in}
use Rattle.talk.specs.Tunnel.{Answer}

-- a step, the lent bytes and the output behind it
abbrev pub given : RawStep → List ℕ → List ℕ → Answer (List ℕ) ℕ
given r state out = record { answer = r.answer; session = state; used = r.used; sent = r.sent; output = out }

module _ (s out : List ℕ) (r : RawStep) (s' out' : List ℕ) where
  as_untimely : (e : SocksError) → Untimely e s out r s' out' → given r s' out' ≡ untimely e s out
  as_untimely e w = λ i. given (w.returned i) (w.left i) (w.output i)

  as_left : (c : Call) → Leaves c s r s' out' → given r s' out' ≡ returned s c
  as_left c w = λ i. given (w.returned i) (w.left i) (w.output i)

  pub as_delivered : (p : Phase) (c : Call) → Delivers p c s out r s' out' → given r s' out' ≡ called_in p s out c
  as_delivered preparing c w = as_untimely OutOfOrder w
  as_delivered opened c w = as_left c w
  as_delivered over c w = as_left c w

  pub as_opened : (p : Phase) → OpensIn p s out r s' out' → given r s' out' ≡ opens_in p s out
  as_opened preparing w = λ i. given (w.returned i) (w.left i) (w.output i)
  as_opened opened w = as_untimely OutOfOrder w
  as_opened over w = as_untimely Settled w
