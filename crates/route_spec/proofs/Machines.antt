-- Fed, a route does what the plain machines of its openings do in turn.
use Prim.Native.Nat.{ℕ, ◌+◌}
use native.Mathlib.Nat.{add-zero}
use native.Mathlib.Omega.{arith}
use mathlib.Core.Path.{◌≡◌, refl, ap, sym, ◌∙◌}
use mathlib.Core.Bool.{false}
use mathlib.Core.List.{List, [], ◌∷◌, ◌++◌, map, append-nil}
use lib.ListN.{length, drop}
use Rattle.protocol.specs.declared.SocksError.{SocksError}
use Rattle.protocol.specs.declared.Reply.{Reply}
use Rattle.protocol.specs.declared.Outcome.TheVariants.{Open}
use Rattle.protocol.specs.Bound.{Endpoint, unbound}
use Rattle.protocol.specs.Opening.{Opening}
use Rattle.protocol.specs.Machine.{Machine, has, used_by}
use Rattle.protocol.specs.Agreement.{as_machine}
use Rattle.protocol.specs.Client.{Kept, kept, begun, side, outcome_of}
use Rattle.protocol.proofs.Client.{machine_feed}
use Rattle.route_spec.specs.Route.{followed, machines_from, machines, used_in_turn}
use Rattle.route_spec.specs.Hops.{Hop, hop_of, hop_talk, at, on_through, route_side, route_talk, RouteSession, RouteFed, outcome_in, bound_in, as_machines}
use Rattle.route_spec.proofs.Lawful.{grafted_feed, route_lawful, through_none, hop_feed}
use Rattle.talk.specs.Talk.{done, failed, Session, waiting, ended, unmoved, feed, is_over, reached}
use Rattle.talk.specs.Graft.{then_on}
use Rattle.talk.proofs.Feed.{feed_exact}

-- an opening, and behind it what it left
pub begun_through : (o : Opening) (hs : List Hop) (x : Endpoint) (bs : List ℕ)
    → (let f = feed (side o) (begun o) bs in
    feed route_side (on_through (hop_of o ∷ hs) x) bs ≡ then_on (at (kept o) hs) f.session f.sent f.place (λ y. feed route_side (on_through hs y) (drop f.place bs)))
unfolding on_through
begun_through o hs x bs = rw (hop_feed o bs) at (grafted_feed (kept o) hs (hop_talk (hop_of o)) bs)

module _ (c : Kept) (hs : List Hop) where
  -- the last
  alone : (s : Session Reply Endpoint SocksError) (sent : List ℕ) (place : ℕ) (on : Endpoint → RouteFed) → ((x : Endpoint) → on x ≡ unmoved (ended (done x)))
      → as_machine (record { session = s; sent = sent; place = place }) ≡ as_machines (then_on (at c hs) s sent place on)
  alone (waiting s h) sent place on e = refl
  alone (ended (failed x)) sent place on e = refl
  alone (ended (done x)) sent place on e =
      (λ i. has (sym (append-nil sent) i) Open x (sym (add-zero place) i))
      ∙ ap (λ (f : RouteFed). has (sent ++ f.sent) (outcome_in f.session) (bound_in f.session) (place + f.place)) (sym (e x))

  -- one, and the next
  in_turn : (s : Session Reply Endpoint SocksError) (sent : List ℕ) (place : ℕ) (on : Endpoint → RouteFed) (next : Machine) → ((x : Endpoint) → next ≡ as_machines (on x))
      → followed (as_machine (record { session = s; sent = sent; place = place })) (outcome_of s) next ≡ as_machines (then_on (at c hs) s sent place on)
  in_turn (waiting s h) sent place on next e = refl
  in_turn (ended (failed x)) sent place on next e = refl
  in_turn (ended (done x)) sent place on next e = rw (e x)

from_feed : (o : Opening) (os : List Opening) (x : Endpoint) (bs : List ℕ) → machines_from o os bs ≡ as_machines (feed route_side (on_through (map hop_of (o ∷ os)) x) bs)
unfolding machines_from
from_feed o [] x bs =
    let f = feed (side o) (begun o) bs in
    rw (machine_feed o bs, begun_through o [] x bs)
    (alone (kept o) [] f.session f.sent f.place (λ y. feed route_side (on_through [] y) (drop f.place bs)) (λ y. through_none y (drop f.place bs)))
from_feed o (p ∷ ps) x bs =
    let f = feed (side o) (begun o) bs in
    rw (machine_feed o bs, begun_through o (map hop_of (p ∷ ps)) x bs)
    (in_turn (kept o) (map hop_of (p ∷ ps)) f.session f.sent f.place (λ y. feed route_side (on_through (map hop_of (p ∷ ps)) y) (drop f.place bs)) (machines_from p ps (drop f.place bs))
    (λ y. from_feed p ps y (drop f.place bs)))

pub machines_feed : (o : Opening) (os : List Opening) (bs : List ℕ) → machines (o ∷ os) bs ≡ as_machines (feed route_side (route_talk (map hop_of (o ∷ os))) bs)
machines_feed o os bs = from_feed o os unbound bs

-- and uses as many bytes
used_reached : (f : RouteFed) (bs : List ℕ) → (is_over f.session ≡ false → reached f ≡ length bs) → used_by (outcome_in f.session) f.place bs ≡ reached f
used_reached f bs h = go f.session refl
  where
    go : (s : RouteSession) → f.session ≡ s → used_by (outcome_in s) f.place bs ≡ reached f
    go (waiting s held) e = sym (h (rw e))
    go (ended (done x)) e = rw e (omega arith)
    go (ended (failed x)) e = rw e (omega arith)

pub used_in_turn_lem : (o : Opening) (os : List Opening) (bs : List ℕ) → used_in_turn (o ∷ os) bs ≡ reached (feed route_side (route_talk (map hop_of (o ∷ os))) bs)
used_in_turn_lem o os bs =
    let t = route_talk (map hop_of (o ∷ os)) in
    rw (machines_feed o os bs) (used_reached (feed route_side t bs) bs (feed_exact route_side route_lawful t bs))
