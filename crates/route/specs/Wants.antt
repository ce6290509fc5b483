-- How many bytes may be read without reading past the handshake: what is promised of a route's `wants`.
use Rattle.std.specs.Prelude.{ℕ, ◌+◌, ◌≤◌, ◌≡◌, List, [], ◌∷◌, ◌++◌, length}
use Rattle.protocol.specs.Answers.{Accepted}
use Rattle.protocol.specs.declared.Outcome.TheVariants.{Waiting, Open}
use Rattle.protocol.specs.Bytes.{Bytes, BytePieces}
use Rattle.protocol.specs.Bound.{Endpoint}
use Rattle.protocol.specs.Opening.{no_auth, user_pass, Opening, v5, v4}
use Rattle.protocol.specs.Wants.{Wanted}
use Rattle.route_spec.specs.Route as routing
use Rattle.route_spec.specs.Route.{openings, machines, Sequences}
use Rattle.route_session.specs.declared.calls.Route.{Route}
use Rattle.route_session.specs.calls.Calls.{outcome, wants, opening, deliver}
use Rattle.route.specs.Routed.{tunnel_of, joined_of}
use Rattle.talk.specs.Tunnel.{Delivery}

-- behind bytes that came, others make up the grammars of openings in that order; and with them the machines in turn wait no more
abbrev pub CompletesInTurn : List Opening → List ℕ → List ℕ → Type 0
CompletesInTurn os came bs = (x : Endpoint) × Sequences os (came ++ bs) x

abbrev pub SettlesInTurn : List Opening → List ℕ → List ℕ → Type 0
SettlesInTurn os came bs = (machines os (came ++ bs)).outcome ≡ Waiting → ⊥

abbrev pub WantedInTurn : List Opening → List ℕ → ℕ → Type 0
WantedInTurn os came n = Wanted (CompletesInTurn os came) (SettlesInTurn os came) n

-- of every route value: none unless it waits; else at least one
pub record AnyWants (r : Route) : Type 0 where
  pub settled : (outcome r ≡ Waiting → ⊥) → wants r ≡ 0
  pub some : outcome r ≡ Waiting → 1 ≤ wants r

-- of the openings, the route behind deliveries and their joined bytes
pub record Reads (os : List Opening) (r : Route) (came : List ℕ) : Type 0 where
  -- the length of the shortest stream that completes the joined bytes to the grammars in their order; where none does, of the shortest with which the plain
  -- machines in turn wait no more
  pub wanted : WantedInTurn os came (wants r)
  -- a piece of at most so many bytes behind which the route is open was used whole
  pub never_past : (piece out : List ℕ) → Bytes piece → length piece ≤ wants r → outcome (deliver r piece out).session ≡ Open → (deliver r piece out).used ≡ length piece
  -- while it waits it asks for some
  pub some : outcome r ≡ Waiting → 1 ≤ wants r

-- the shortest reply sequence of an opening, and of openings in a row: the sum
abbrev pub shortest_of : Opening → ℕ
shortest_of (v5 no_auth d port o) = 10
shortest_of (v5 (user_pass u p) d port o) = 12
shortest_of (v4 d port) = 8

unfoldable pub shortest_row : List Opening → ℕ
shortest_row [] = 0
shortest_row (o ∷ os) = shortest_of o + shortest_row os

-- for every route whose opening is accepted: ahead of any byte the sum; and any output lent to that, and every list of deliveries
pub record Read (a : routing.Route) (out : List ℕ) : Type 0 where
  pub begins : wants (opening a out).session ≡ shortest_row (openings a)
  pub reads : (ds : List Delivery) → BytePieces ds → Reads (openings a) (tunnel_of (openings a) (opening a out).session [] ds).session (joined_of (openings a) ds)

abbrev pub ReadThrough : Type 0
ReadThrough = (a : routing.Route) (out : List ℕ) → (opening a out).answer ≡ Accepted → Read a out
