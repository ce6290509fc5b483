-- A route's opening answers as its checks do; and what an accepted one has.
use Prim.Native.Nat.{ℕ, ◌≤◌, ◌<◌}
use native.Mathlib.Omega.{arith}
use mathlib.Core.Path.{◌≡◌, refl, sym, ◌∙◌}
use mathlib.Core.List.{List, [], ◌∷◌}
use lib.ListN.{length, length-map}
use Rattle.protocol.specs.Answers as code
use Rattle.protocol.specs.Opening.{Opening}
use Rattle.protocol.proofs.Openings.{clash}
use Rattle.route_spec.specs.Route as routing
use Rattle.route_spec.specs.Route.{asked, opening_for, openings, room_for, check}
use Rattle.route_spec.proofs.Asked.{asked_each}
use Rattle.route_spec.proofs.Checks.{Acceptable, accepted_has}
use Rattle.route_spec.proofs.Rooms.{EachLimits, each_limits}
use Rattle.route_session.specs.declared.calls.Route.{Route}
use Rattle.route_session.specs.calls.Calls.{room_in, open_by, opening}

-- ---- an opening: 21, then 1, then its openings' own numbers

by_answer : (x : code.Answer) (os : List Opening) (out : List ℕ) → (x ≡ code.Accepted → 0 < length os) → (open_by x os out).answer ≡ x
by_answer code.Accepted [] out h = absurd (omega (arith, h refl))
by_answer code.Accepted (o ∷ os) out h = refl
by_answer (code.Refused e) os out h = refl

pub openings_each : (a : routing.Route) → length (openings a) ≡ length a.proxies
openings_each a = length-map (asked a) opening_for ∙ asked_each a.proxies a.host a.port

module _ (a : routing.Route) (out : List ℕ) where
  -- it answers as the checks do
  pub opening_answers : (opening a out).answer ≡ check a (length out)
  unfolding opening
  opening_answers = by_answer (check a (length out)) (openings a) out (λ q. rw (openings_each a) (accepted_has a (length out) q).some)

by_room : (x : code.Answer) (os : List Opening) (out : List ℕ) → (open_by x os out).answer ≡ code.Accepted → length os ≤ 8 → room_in (open_by x os out).session ≡ room_for (length os)
by_room code.Accepted [] out q h = absurd (clash (sym q))
by_room code.Accepted (o ∷ os) out q h = omega arith
by_room (code.Refused d) os out q h = absurd (clash (sym q))

-- an accepted opening has one to eight openings, which keep to their limits; enough output was lent, and its deliveries ask for as much
module _ (a : routing.Route) (out : List ℕ) (q : (opening a out).answer ≡ code.Accepted) where
  acceptable : Acceptable a (length out)
  acceptable = accepted_has a (length out) (sym (opening_answers a out) ∙ q)

  pub opened_some : 0 < length (openings a)
  opened_some = rw (openings_each a) acceptable.some

  pub opened_eight : length (openings a) ≤ 8
  opened_eight = rw (openings_each a) acceptable.eight

  pub opened_limits : EachLimits (openings a)
  opened_limits = each_limits a.proxies a.host a.port acceptable.each

  pub opened_asks : room_in (opening a out).session ≡ room_for (length (openings a))
  unfolding opening
  opened_asks = by_room (check a (length out)) (openings a) out q opened_eight
