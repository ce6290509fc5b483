-- F-12 for a route: the proxy at which a stream ends, counted from 1, and to which outcome and status it leads there.
use Rattle.std.specs.Prelude.{ℕ, suc, ◌≡◌, List, [], ◌∷◌, drop}
use Rattle.protocol.specs.declared.Outcome.{Outcome}
use Rattle.protocol.specs.declared.Outcome.TheVariants.{Waiting, Open, Failed}
use Rattle.protocol.specs.Opening.{Opening}
use Rattle.protocol.specs.Machine.{machine}
use Rattle.route_spec.specs.Route.{machines}
use Rattle.endings_spec.specs.declared.OutcomeStatus.{OutcomeStatus}
use Rattle.endings_spec.specs.Endings.{ending_of}

-- how many machines are begun: the first, and behind one that opens the next, if there is one
abbrev pub behind : Outcome → ℕ → ℕ
behind Waiting later = 0
behind Open later = later
behind (Failed e) later = 0

unfoldable pub begun : List Opening → List ℕ → ℕ
begun [] bs = 0
begun (o ∷ os) bs = let m = machine o bs in suc (behind m.outcome (begun os (drop m.place bs)))

-- a stream ends at the proxy whose machine is the last to be begun, and leads there to this outcome and status
abbrev pub LeadsAt : List Opening → ℕ → OutcomeStatus → List ℕ → Type 0
LeadsAt os proxy w bs = (begun os bs ≡ proxy) × (ending_of (machines os bs).outcome ≡ w)
