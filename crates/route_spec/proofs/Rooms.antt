-- The output that a route asks: each opening keeps to its limits, and all that a route sends fits.
use Prim.Native.Nat.{ℕ, ◌+◌, ◌≤◌}
use native.Mathlib.Omega.{arith}
use mathlib.Core.Path.{◌≡◌}
use mathlib.Core.List.Memᴰ
use mathlib.Core.List.{List, [], ◌∷◌, map}
use lib.ListN.{length, drop, length-append}
use Rattle.protocol.specs.Answers.{Port, Accepted}
use Rattle.protocol.specs.declared.Outcome.{Outcome}
use Rattle.protocol.specs.declared.Outcome.TheVariants.{Waiting, Open, Failed}
use Rattle.protocol.specs.Opening.{Opening, v5, v4, Limits}
use Rattle.protocol.specs.Machine.{Machine, machine}
use Rattle.protocol.proofs.Limits.{limits5, limits4, sent_within}
use Rattle.protocol.specs.declared.Version.{Version}
use Rattle.protocol.specs.declared.Version.TheVariants.{V4, V5}
use Rattle.route_spec.specs.Route.{Proxy, host_of, port_of, asked_by, asked_of, opening_for, room_for, check_for, followed, machines_from, machines}
use Rattle.route_spec.proofs.Checks.{EachAccepted}

-- ---- the requests keep to their limits

abbrev pub EachLimits : List Opening → Type 0
EachLimits [] = Unit {0}
EachLimits (o ∷ os) = Limits o × EachLimits os

by_limits : (v : Version) (p : Proxy) (host : List ℕ) (port : Port) → check_for (asked_by v p host port) ≡ Accepted → Limits (opening_for (asked_by v p host port))
by_limits V5 p host port e = limits5 _ (λ r m. absurd (Memᴰ.not-nil m)) e
by_limits V4 p host port e = limits4 _ e

pub each_limits : (ps : List Proxy) (host : List ℕ) (port : Port) → EachAccepted (asked_of ps host port) → EachLimits (map opening_for (asked_of ps host port))
unfolding asked_of
each_limits [] host port w = tt
each_limits (p ∷ ps) host port w = (by_limits p.version p (host_of ps host) (port_of ps port) w.0, each_limits ps host port w.1)

-- ---- and all that is sent fits the output

one_fits : (o : Opening) (bs : List ℕ) → Limits o → length (machine o bs).sent ≤ 1024
one_fits (v5 c d port o) bs l = omega (arith, sent_within (v5 c d port o) l bs)
one_fits (v4 d port) bs l = sent_within (v4 d port) l bs

followed_fits : (m : Machine) (r : Outcome) (next : Machine) (n : ℕ) → length m.sent ≤ 1024 → length next.sent ≤ n → length (followed m r next).sent ≤ 1024 + n
followed_fits m Waiting next n h k = omega arith
followed_fits m Open next n h k = omega (arith, length-append m.sent next.sent)
followed_fits m (Failed e) next n h k = omega arith

pub sent_fits : (o : Opening) (os : List Opening) (bs : List ℕ) → EachLimits (o ∷ os) → length (machines (o ∷ os) bs).sent ≤ room_for (length (o ∷ os))
unfolding machines_from
sent_fits o [] bs w = one_fits o bs w.0
sent_fits o (p ∷ ps) bs w =
    let m = machine o bs in
    omega (arith, followed_fits m m.outcome (machines_from p ps (drop m.place bs)) (room_for (length (p ∷ ps))) (one_fits o bs w.0) (sent_fits p ps (drop m.place bs) w.1))
