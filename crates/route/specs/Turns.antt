-- F-5's checks: what opening a route returns; and of any route which call is in turn, what a refused one leaves, and what an accepted one does beside what F-5's promise says.
use Rattle.std.specs.Prelude.{ℕ, ◌≤◌, ◌<◌, ◌≡◌, List, [], ◌∷◌, length}
use Rattle.protocol.specs.declared.Address.{Address}
use Rattle.protocol.specs.Answers.{Accepted, Refused}
use Rattle.protocol.specs.declared.Outcome.{Outcome}
use Rattle.protocol.specs.declared.Outcome.TheVariants.{Waiting, Failed}
use Rattle.protocol.specs.declared.SocksError.{SocksError}
use Rattle.protocol.specs.declared.SocksError.TheVariants.{UnexpectedEof}
use Rattle.protocol.specs.Numbers.{answer_number, outcome_number}
use Rattle.protocol.specs.Opening.{◌↣◌, Answers}
use Rattle.socks.specs.Turns.{no_address}
use Rattle.route_spec.specs.Route as routing
use Rattle.route_spec.specs.Route.{room_for, openings, conditions}
use Rattle.route_session.specs.declared.calls.Route.{Route}
use Rattle.route_session.specs.calls.Calls.{Call, refusal, outcome, bound, opening, deliver, end}
use Rattle.route.specs.Routed.{tunnel_of}
use Rattle.talk.specs.Tunnel.{Delivery, Behind}

-- what is told of a route, and how many bytes it holds
pub record Tells (r : Route) (how : Outcome) (at : Address) (tries held : ℕ) : Type 0 where
  pub outcomes : outcome r ≡ how
  pub bounds : bound r ≡ at
  pub attempts : r.attempts ≡ tries
  pub holds : r.held ≡ held

-- ---- a delivery and an end

-- a refused call uses, sends and changes nothing
abbrev pub Untouched : Call → Route → List ℕ → Type 0
Untouched c r out = (e : SocksError) → c.answer ≡ Refused e → c ≡ refusal e r out

-- of a route that asks for so much output at a delivery
pub record InTurn (room : ℕ) (r : Route) : Type 0 where
  -- 16 unless it waits, then 1
  pub deliver_number : (piece out : List ℕ) → Answers (answer_number (deliver r piece out).answer) (((outcome r ≡ Waiting → ⊥) ↣ 16) ∷ ((length out < room) ↣ 1) ∷ [])
  pub end_number : Answers (answer_number (end r).answer) (((outcome r ≡ Waiting → ⊥) ↣ 16) ∷ [])
  pub deliver_untouched : (piece out : List ℕ) → Untouched (deliver r piece out) r out
  pub end_untouched : Untouched (end r) r []
  -- an empty piece in turn uses and sends nothing, and changes nothing that is told
  pub nothing : (out : List ℕ) → (deliver r [] out).answer ≡ Accepted → ((deliver r [] out).used ≡ 0) × ((deliver r [] out).sent ≡ 0)
  pub nothing_told : (out : List ℕ) → (deliver r [] out).answer ≡ Accepted → Tells (deliver r [] out).session (outcome r) (bound r) r.attempts r.held
  -- an accepted end: 9
  pub end_fails : (end r).answer ≡ Accepted → Tells (end r).session (Failed UnexpectedEof) no_address r.attempts 0
  pub end_nine : (end r).answer ≡ Accepted → outcome_number (outcome (end r).session) ≡ 9
  -- the bytes behind what is sent are as they were
  pub deliver_behind : (piece out : List ℕ) → Behind (deliver r piece out) out

-- every route value asks as one of so many proxies does
abbrev pub AnyInTurn : Type 0
AnyInTurn = (r : Route) → (n : ℕ) × (1 ≤ n) × (n ≤ 8) × InTurn (room_for n) r

-- ---- opening, with any arguments

pub record OpensInTurn (a : routing.Route) (out : List ℕ) : Type 0 where
  -- each number comes exactly when its condition holds and none before it
  pub number : Answers (answer_number (opening a out).answer) (conditions a (length out))
  -- a refused one sends and writes nothing, and comes back failed with that number
  pub fails : (e : SocksError) → (opening a out).answer ≡ Refused e → Tells (opening a out).session (Failed e) no_address 0 0
  pub unsent : (e : SocksError) → (opening a out).answer ≡ Refused e → (opening a out).sent ≡ 0
  pub unwritten : (e : SocksError) → (opening a out).answer ≡ Refused e → (opening a out).output ≡ out
  -- an accepted one waits, and asks for as much output of a delivery, behind every list of deliveries
  pub waits : (opening a out).answer ≡ Accepted → Tells (opening a out).session Waiting no_address 0 0
  pub asks : (opening a out).answer ≡ Accepted → (ds : List Delivery) → InTurn (room_for (length (openings a))) (tunnel_of (openings a) (opening a out).session [] ds).session
  -- the bytes behind what is sent are as they were
  pub behind : Behind (opening a out) out

-- F-4: a number that a call does not meet, neither as its answer nor as the outcome of what it returns
abbrev pub Without : ℕ → Call → Type 0
Without n c = (answer_number c.answer ≡ n → ⊥) × (outcome_number (outcome c.session) ≡ n → ⊥)

abbrev pub Never11 : Type 0
Never11 = (a : routing.Route) (r : Route) (piece out : List ℕ) → Without 11 (opening a out) × Without 11 (deliver r piece out) × Without 11 (end r)
