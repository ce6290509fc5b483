-- F-12: the stream for an outcome and status, of an opening and of a route, is the one that is wanted; where there is none, no stream leads there.
use Prim.Native.Nat.{ℕ, zero, suc, ◌+◌}
use native.Mathlib.Omega.{arith}
use mathlib.Core.Path.{◌≡◌, refl}
use mathlib.Core.Logic.{◌↔◌}
use Rattle.std.specs.Prelude.{Option, None, Some}
use mathlib.Core.List.{List, [], ◌∷◌}
use lib.ListN.{drop}
use lib.Seq.{drop-drop}
use Rattle.protocol.specs.declared.Outcome.{Outcome}
use Rattle.protocol.specs.declared.Outcome.TheVariants.{Waiting, Open, Failed}
use Rattle.protocol.specs.declared.Reply.{Reply}
use Rattle.protocol.specs.Answers.{Good, Bad, Decision, Undecided, Decided}
use Rattle.protocol.specs.Bound.{Endpoint, unbound}
use Rattle.protocol.specs.Opening.{Opening, replies, at_opening, later}
use Rattle.protocol.specs.Replies.{decide}
use Rattle.protocol.specs.Machine.{Machine, sends, reads, run, machine}
use Rattle.route_spec.specs.Route.{followed, machines_from, machines}
use Rattle.endings_spec.specs.declared.OutcomeStatus.{OutcomeStatus}
use Rattle.endings_spec.specs.Endings.{ending_of, Leads, Wanted, Nowhere}
use Rattle.endings_spec.specs.RouteEndings.{behind, begun, LeadsAt}
use Rattle.endings_spec.specs.Streams.{is_of, if, stream_for, stream_at}
use Rattle.endings_spec.proofs.Order.{Best, least_wanted}
use Rattle.endings_spec.proofs.Words.{HereOr}
use Rattle.endings_spec.proofs.Through.{through, Ends, Blank, Aim, through_best, ending_aim, onward_aim, open_best, open_blank}
use Rattle.endings_spec.proofs.Table.{ends_at, stream_step}

-- ---- the plain machine reads replies in turn

-- it has ended as S says, or it is open and q holds
abbrev EndsAs : (OutcomeStatus → Type 0) → Outcome → Type 0 → Type 0
EndsAs S Waiting q = S (ending_of Waiting)
EndsAs S Open q = q
EndsAs S (Failed e) q = S (ending_of (Failed e))

module _ (S : OutcomeStatus → Type 0) (Q : List ℕ → Type 0) (bs : List ℕ) where
  abbrev Came : Machine → Type 0
  Came m = EndsAs S m.outcome (Q (drop m.place bs))

  run_ends : (es : List Reply) (left : List (List ℕ)) (sent : List ℕ) (x : Endpoint) (place : ℕ) → ◌≡◌ {A = Type 0} (Came (run es left sent x place bs)) (Ends S Q es (drop place bs))
  unfolding run
  run_ends [] left sent x place = refl
  run_ends (e ∷ es) left sent x place = go (decide e (drop place bs)) _ (λ n. run_ends es _ _ _ (place + n))
    where
      go : (d : Decision) (on : ℕ → Machine) → ((n : ℕ) → ◌≡◌ {A = Type 0} (Came (on n)) (Ends S Q es (drop (place + n) bs)))
          → ◌≡◌ {A = Type 0} (Came (reads d sent place on)) (HereOr S d (λ n. Ends S Q es (drop n (drop place bs))))
      go Undecided on ih = refl
      go (Decided n Good) on ih = rw (drop-drop n place bs) (ih n)
      go (Decided n (Bad x)) on ih = refl

  machine_ends : (o : Opening) → ◌≡◌ {A = Type 0} (Came (machine o bs)) (Ends S Q (replies o) bs)
  unfolding machine
  machine_ends o = run_ends (replies o) (later o) (sends (at_opening o) []) unbound 0

-- ---- and a route's are fed in turn

abbrev next : Outcome → Outcome → Outcome
next Waiting r = Waiting
next Open r = r
next (Failed e) r = Failed e

turn : (o : Opening) (os : List Opening) (bs : List ℕ)
    → (machines (o ∷ os) bs).outcome ≡ next (machine o bs).outcome (machines os (drop (machine o bs).place bs)).outcome
unfolding machines_from
turn o [] bs = go (machine o bs).outcome
  where
    go : (r : Outcome) → r ≡ next r Open
    go Waiting = refl
    go Open = refl
    go (Failed e) = refl
turn o (p ∷ ps) bs = go (machine o bs).outcome refl
  where
    m : Machine
    m = machines (p ∷ ps) (drop (machine o bs).place bs)

    go : (r : Outcome) → (machine o bs).outcome ≡ r → (followed (machine o bs) r m).outcome ≡ next r m.outcome
    go Waiting q = q
    go Open q = refl
    go (Failed e) q = q

-- with so many proxies still behind this one: at the one at which to end it ends so, before it nowhere
abbrev Aimed : ℕ → OutcomeStatus → OutcomeStatus → Type 0
Aimed zero w v = v ≡ w
Aimed (suc n) w v = ⊥

aimed : (n : ℕ) (w : OutcomeStatus) → Aim (Aimed n w) (ends_at n w)
aimed zero w = ending_aim w
aimed (suc n) w = onward_aim

at_turn : (n : ℕ) (w : OutcomeStatus) (r : Outcome) (b : ℕ) (l : Outcome)
    → (suc (behind r b) ≡ suc n) × (ending_of (next r l) ≡ w) ↔ EndsAs (Aimed n w) r ((b ≡ n) × (ending_of l ≡ w))
at_turn zero w Waiting b l = (λ (p, q). q, λ q. (refl, q))
at_turn (suc n) w Waiting b l = (λ (p, q). omega arith, λ h. absurd h)
at_turn n w Open b l = (λ (p, q). (omega arith, q), λ (p, q). (omega arith, q))
at_turn zero w (Failed e) b l = (λ (p, q). q, λ q. (refl, q))
at_turn (suc n) w (Failed e) b l = (λ (p, q). omega arith, λ h. absurd h)

leads_at : (o : Opening) (os : List Opening) (n : ℕ) (w : OutcomeStatus) (bs : List ℕ) → LeadsAt (o ∷ os) (suc n) w bs ↔ Ends (Aimed n w) (LeadsAt os n w) (replies o) bs
unfolding begun
leads_at o os n w bs =
    let m = machine o bs in
    let rest = drop m.place bs in
    rw (turn o os bs, ← machine_ends (Aimed n w) (LeadsAt os n w) bs o) (at_turn n w m.outcome (begun os rest) (machines os rest).outcome)

at_blank : (os : List Opening) (n : ℕ) (w : OutcomeStatus) → LeadsAt os n w [] → Blank (ends_at n w)
unfolding begun
at_blank [] zero w (p, q) = open_blank w q
at_blank (o ∷ os) zero w (p, q) = absurd (omega arith)
at_blank os (suc n) w h = λ e u q. let z : ◌≡◌ {A = ℕ} 0 1 = cc in absurd (omega arith)

-- ---- the streams

best_iff : {P Q : List ℕ → Type 0} → ((cs : List ℕ) → P cs ↔ Q cs) → (r : Option (List ℕ)) → Best Q r → Best P r
best_iff e None b = λ cs p. b cs ((e cs).0 p)
best_iff e (Some u) b = record { bytes = b.bytes; leads = (e u).1 b.leads; least = λ cs p. b.least cs ((e cs).0 p) }

step : (o : Opening) (os : List Opening) (n : ℕ) (w : OutcomeStatus) → Best (LeadsAt os n w) (stream_at os n w) → Best (LeadsAt (o ∷ os) (suc n) w) (stream_at (o ∷ os) (suc n) w)
step o os n w b =
    rw (stream_step o os n w)
    (best_iff (leads_at o os n w) (through (ends_at n w) (replies o) (stream_at os n w))
    (through_best (Aimed n w) (ends_at n w) (aimed n w) (LeadsAt os n w) (at_blank os n w) (stream_at os n w) b (replies o)))

route_best : (os : List Opening) (n : ℕ) (w : OutcomeStatus) → Best (LeadsAt os n w) (stream_at os n w)
unfolding stream_at begun
route_best [] zero w = best_iff (λ cs. (λ (p, q). q, λ q. (refl, q))) (if (is_of w 0 0 0) [] None) (open_best w)
route_best [] (suc n) w = λ cs (p, q). omega arith
route_best (o ∷ os) zero w = λ cs (p, q). omega arith
route_best (o ∷ os) (suc n) w = step o os n w (route_best os n w)

-- an opening is a route of one proxy
leads_one : (o : Opening) (w : OutcomeStatus) (bs : List ℕ) → Leads o w bs ↔ LeadsAt (o ∷ []) 1 w bs
unfolding begun machines_from
leads_one o w bs = (λ q. (go (machine o bs).outcome, q), λ (p, q). q)
  where
    go : (r : Outcome) → suc (behind r 0) ≡ 1
    go Waiting = refl
    go Open = refl
    go (Failed e) = refl

stream_best : (o : Opening) (w : OutcomeStatus) → Best (Leads o w) (stream_for o w)
unfolding stream_at
stream_best o w = best_iff (leads_one o w) (stream_for o w) (route_best (o ∷ []) 1 w)

pub stream_wanted : (o : Opening) (w : OutcomeStatus) (bs : List ℕ) → stream_for o w ≡ Some bs → Wanted (Leads o w) bs
stream_wanted o w bs q = least_wanted (rw q at (stream_best o w))

pub stream_nowhere : (o : Opening) (w : OutcomeStatus) → stream_for o w ≡ None → Nowhere (Leads o w)
stream_nowhere o w q bs y h = (rw q at (stream_best o w)) bs h

pub route_stream_wanted : (os : List Opening) (proxy : ℕ) (w : OutcomeStatus) (bs : List ℕ) → stream_at os proxy w ≡ Some bs → Wanted (LeadsAt os proxy w) bs
route_stream_wanted os proxy w bs q = least_wanted (rw q at (route_best os proxy w))

pub route_stream_nowhere : (os : List Opening) (proxy : ℕ) (w : OutcomeStatus) → stream_at os proxy w ≡ None → Nowhere (LeadsAt os proxy w)
route_stream_nowhere os proxy w q bs y h = (rw q at (route_best os proxy w)) bs h
