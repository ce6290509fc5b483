-- F-12's promise: what is answered, by the streams that lead to what is wanted, and what is written.
use Rattle.std.specs.Prelude.{ℕ, ◌<◌, ◌≡◌, ◌↔◌, ◌⊎◌, List, [], ◌∷◌, ◌++◌, length, drop}
use Rattle.protocol.specs.Numbers.{number}
use Rattle.protocol.specs.Opening.{V5, V4, Condition, ◌↣◌, conditions5, conditions4, None, Answers, opening5, opening4}
use Rattle.route_spec.specs.Route as routing
use Rattle.route_spec.specs.Route.{asked, openings, conditions_in_turn}
use Rattle.endings_spec.specs.declared.OutcomeStatus.{OutcomeStatus}
use Rattle.endings_spec.specs.Endings.{Leads, Wanted, Nowhere}
use Rattle.endings_spec.specs.RouteEndings.{LeadsAt}
use Rattle.endings.specs.Calls.{Produced, Refused, NoStream, Stream, Call, stream5, stream4, stream_route}

-- the number of an answer: 0 for a stream, and for none, which is an answer of its own
abbrev pub produced_number : Produced → ℕ
produced_number (Refused e) = number e
produced_number NoStream = 0
produced_number (Stream n) = 0

-- of the conditions of preparing or of the route, where streams lead, the buffer lent, and what the call comes to
pub record Produces (cs : List Condition) (To : List ℕ → Type 0) (buffer : List ℕ) (c : Call) : Type 0 where
  -- their numbers in their order; then 27 exactly if the stream wanted is longer than the buffer, so never where there is none
  pub answers : Answers (produced_number c.answer) (cs ++ ((((bs : List ℕ) × Wanted To bs × (length buffer < length bs)) ↣ 27) ∷ []))
  -- none exactly if no stream whatsoever leads there
  pub none_just : c.answer ≡ NoStream ↔ (None cs × Nowhere To)
  -- a stream is the one wanted: its length is told, it stands at the buffer's start, and the bytes behind it are as they were
  pub stream_is : (n : ℕ) → c.answer ≡ Stream n → (bs : List ℕ) × Wanted To bs × (n ≡ length bs) × (c.buffer ≡ bs ++ drop n buffer)
  -- nothing is written with a refusal, none or 27
  pub unwritten : ((n : ℕ) → c.answer ≡ Stream n → ⊥) → c.buffer ≡ buffer

-- for any arguments
abbrev pub Produces5 : Type 0
Produces5 = (a : V5) (w : OutcomeStatus) (buffer : List ℕ) → Produces (conditions5 a) (Leads (opening5 a) w) buffer (stream5 a w buffer)

abbrev pub Produces4 : Type 0
Produces4 = (a : V4) (w : OutcomeStatus) (buffer : List ℕ) → Produces (conditions4 a) (Leads (opening4 a) w) buffer (stream4 a w buffer)

-- 21, then the openings', the first proxy's first, those behind the proxy too; its output is not asked
abbrev pub route_conditions : routing.Route → List Condition
route_conditions r = (((length r.proxies ≡ 0) ⊎ (8 < length r.proxies)) ↣ 21) ∷ conditions_in_turn (asked r)

abbrev pub ProducesRoute : Type 0
ProducesRoute = (r : routing.Route) (proxy : ℕ) (w : OutcomeStatus) (buffer : List ℕ)
    → Produces (route_conditions r) (LeadsAt (openings r) proxy w) buffer (stream_route r proxy w buffer)
