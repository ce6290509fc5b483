-- F-5's promise on the calls together: an empty route, the hops in their order and an opening, one call each, come to what one opening of that route comes to.
use Rattle.std.specs.Prelude.{ℕ, ◌≤◌, ◌≡◌, List, [], ◌∷◌, ltb, length, take}
use Rattle.protocol.specs.Answers as code
use Rattle.protocol.specs.declared.SocksError.TheVariants.{RouteLength, Settled, OutOfOrder}
use Rattle.protocol.specs.Opening.{refuse}
use Rattle.route_spec.specs.Route as routing
use Rattle.route_spec.specs.Route.{Asked, asked, openings, unless_refused, check_in_turn}
use Rattle.route_session.specs.calls.Calls.{Call, open_by, opening}
use Rattle.lent_route.specs.State.{Phase, preparing, opened, over, phase_at, state_of, preparing_of}
use Rattle.lent_route.specs.Calls.{hop_told, hopped, open_call, open_left}

-- ---- the calls in a row, from an empty route on

abbrev pub begun : List ℕ
begun = preparing_of []

-- what all hops leave, and the first refusal among them
unfoldable pub all_hopped : List Asked → List ℕ → List ℕ
all_hopped [] s = s
all_hopped (a ∷ later) s = all_hopped later (hopped a s)

unfoldable pub all_told : List Asked → List ℕ → code.Answer
all_told [] s = code.Accepted
all_told (a ∷ later) s = unless_refused (hop_told a s) (all_told later (hopped a s))

-- and what an opening then answers, leaves and puts out
abbrev pub open_told : Phase → List ℕ → List ℕ → code.Answer
open_told preparing s out = (open_call s out).answer
open_told opened s out = code.Refused OutOfOrder
open_told over s out = code.Refused Settled

abbrev pub open_leaves : Phase → List ℕ → List ℕ → List ℕ
open_leaves preparing s out = let c = open_call s out in open_left c.answer c.session s
open_leaves opened s out = s
open_leaves over s out = s

abbrev pub open_puts : Phase → List ℕ → List ℕ → List ℕ
open_puts preparing s out = (open_call s out).output
open_puts opened s out = out
open_puts over s out = out

-- ---- the numbers: 21 for none; a proxy's own defect ahead of a ninth's 21

abbrev pub verdict : List Asked → code.Answer
verdict [] = code.Refused RouteLength
verdict (a ∷ later) = unless_refused (check_in_turn (take 8 (a ∷ later))) (refuse (ltb 8 (length (a ∷ later))) RouteLength code.Accepted)

-- what the hops that a route asks for leave, and one opening of it but for the order of those numbers
abbrev pub reached : routing.Route → List ℕ
reached a = all_hopped (asked a) begun

abbrev pub at_once : routing.Route → List ℕ → Call
at_once a out = open_by (verdict (asked a)) (openings a) out

-- the first number that is not 0, the bytes and the output are those of the route that was asked for
pub record Together (a : routing.Route) (out : List ℕ) : Type 0 where
  pub answer : unless_refused (all_told (asked a) begun) (open_told (phase_at (reached a)) (reached a) out) ≡ (at_once a out).answer
  pub left : open_leaves (phase_at (reached a)) (reached a) out ≡ state_of (at_once a out).session
  pub output : open_puts (phase_at (reached a)) (reached a) out ≡ (at_once a out).output
  -- accepted, every hop was, and the opening is the route value's
  pub hops : verdict (asked a) ≡ code.Accepted → all_told (asked a) begun ≡ code.Accepted
  pub opens : verdict (asked a) ≡ code.Accepted → (phase_at (reached a) ≡ preparing) × (open_call (reached a) out ≡ at_once a out)
  -- of eight proxies at most, with 8,192 bytes of output, it is one opening
  pub one : length a.proxies ≤ 8 → length out ≡ 8192 → at_once a out ≡ opening a out
