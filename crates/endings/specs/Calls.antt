-- F-12: what each call that produces a stream answers, and the buffer that it leaves, for any arguments.
use Rattle.std.specs.Prelude.{ℕ, ◌≤◌, ◌≡◌, Bool, cond, ◌||◌, Option, None, Some, Result, Ok, Err, List, ◌++◌, length, drop, leb, ltb, eqb}
use Rattle.protocol.specs.declared.SocksError.{SocksError}
use Rattle.protocol.specs.declared.SocksError.TheVariants.{RouteLength, ShortStream}
use Rattle.protocol.specs.Answers as code
use Rattle.protocol.specs.Opening.{V5, V4, refuse, check5, check4, opening5, opening4}
use Rattle.route_spec.specs.Route as routing
use Rattle.route_spec.specs.Route.{asked, openings, check_in_turn}
use Rattle.endings_spec.specs.declared.OutcomeStatus.{OutcomeStatus}
use Rattle.endings_spec.specs.Streams.{stream_for, stream_at}

-- a refusal, that no stream leads there, or a stream's length
abbrev pub Produced : Type 0
Produced = Result (Option ℕ) SocksError

pattern abbrev pub Refused : SocksError → Produced
Refused e = Err e

pattern abbrev pub NoStream : Produced
NoStream = Ok None

pattern abbrev pub Stream : ℕ → Produced
Stream n = Ok (Some n)

pub record Call : Type 0 where
  pub answer : Produced
  pub buffer : List ℕ

abbrev pub unwritten : Produced → List ℕ → Call
unwritten answer buffer = record { answer = answer; buffer = buffer }

-- what a function returns, and the buffer that it leaves, are the call's; a stream's length is within the buffer
pub record StreamResult (c : Call) (r : Produced) (buffer : List ℕ) : Type 0 where
  pub returned : r ≡ c.answer
  pub left : buffer ≡ c.buffer
  pub inside : (n : ℕ) → r ≡ Stream n → n ≤ length buffer

-- a stream for a buffer that has room for it, or has not
abbrev pub placed : Bool → List ℕ → List ℕ → Call
placed fits bs buffer =
    cond fits (record { answer = Stream (length bs); buffer = bs ++ drop (length bs) buffer })
    (unwritten (Refused ShortStream) buffer)

-- the checks' answer, then none, then 27, then the stream
abbrev pub produced : code.Answer → Option (List ℕ) → List ℕ → Call
produced (code.Refused e) stream buffer = unwritten (Refused e) buffer
produced code.Accepted None buffer = unwritten NoStream buffer
produced code.Accepted (Some bs) buffer = placed (leb (length bs) (length buffer)) bs buffer

unfoldable pub stream5 : V5 → OutcomeStatus → List ℕ → Call
stream5 a w buffer = produced (check5 a) (stream_for (opening5 a) w) buffer

unfoldable pub stream4 : V4 → OutcomeStatus → List ℕ → Call
stream4 a w buffer = produced (check4 a) (stream_for (opening4 a) w) buffer

-- the checks of a route but its output
unfoldable pub check_route : routing.Route → code.Answer
check_route r = refuse (eqb (length r.proxies) 0 || ltb 8 (length r.proxies)) RouteLength (check_in_turn (asked r))

unfoldable pub stream_route : routing.Route → ℕ → OutcomeStatus → List ℕ → Call
stream_route r proxy w buffer = produced (check_route r) (stream_at (openings r) proxy w) buffer
