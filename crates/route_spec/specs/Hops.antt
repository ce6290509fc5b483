-- F-5: the route as a side of a handshake: its openings' talks, each grafted in place of the end of the one before. Written apart from the plain machines.
use Rattle.std.specs.Prelude.{List, [], ◌∷◌, ℕ}
use Rattle.protocol.specs.declared.SocksError.{SocksError}
use Rattle.protocol.specs.declared.SocksError.TheVariants.{Settled, ShortOutput}
use Rattle.protocol.specs.declared.Reply.{Reply}
use Rattle.protocol.specs.declared.Outcome.{Outcome}
use Rattle.protocol.specs.declared.Outcome.TheVariants.{Waiting, Open, Failed}
use Rattle.protocol.specs.Bound.{Endpoint, unbound}
use Rattle.protocol.specs.Opening.{Opening, first_reply, at_opening}
use Rattle.protocol.specs.Machine.{Machine, has, sends}
use Rattle.protocol.specs.Client.{Kept, ClientTalk, talk_at, told, kept}
use Rattle.protocol.specs.Replies.{decide}
use Rattle.talk.specs.Decision.{Decision}
use Rattle.talk.specs.Talk.{done, failed, Talk, stop, send, Side, Session, waiting, ended, Fed}
use Rattle.talk.specs.Graft.{graft}

-- a proxy that is still to come: what goes when it is begun, the reply that it then awaits, and what is kept for later
pub record Hop : Type 0 where
  pub goes : List ℕ
  pub first : Reply
  pub kept : Kept

-- of an opening: what goes at the opening, as one
abbrev pub hop_of : Opening → Hop
hop_of o = record { goes = sends (at_opening o) []; first = first_reply o; kept = kept o }

abbrev pub hop_talk : Hop → ClientTalk
hop_talk h = send h.goes (talk_at h.kept h.first)

-- a stage: what the proxy that is spoken to keeps, the proxies behind it, and the reply that it awaits
pub data RouteStage : Type 0 where
  at : Kept → List Hop → Reply → RouteStage

abbrev pub RouteTalk : Type 0
RouteTalk = Talk RouteStage Endpoint SocksError

-- the talks of the proxies still to come; where none is, it is done with what the last reply named
unfoldable pub on_through : List Hop → Endpoint → RouteTalk
on_through [] x = stop (done x)
on_through (h ∷ hs) x = graft (at h.kept hs) (hop_talk h) (on_through hs)

abbrev pub route_reads : RouteStage → List ℕ → Decision SocksError
route_reads (at c hs e) bs = told (decide e bs)

unfoldable pub route_at : RouteStage → RouteTalk
route_at (at c hs e) = graft (at c hs) (talk_at c e) (on_through hs)

abbrev pub route_side : Side
route_side =
    record {
      Stage = RouteStage;
      Result = Endpoint;
      Error = SocksError;
      reads = route_reads;
      talk_at = route_at;
      over = Settled;
      short = ShortOutput;
    }

-- a route's talk
abbrev pub route_talk : List Hop → RouteTalk
route_talk hs = on_through hs unbound

abbrev pub RouteSession : Type 0
RouteSession = Session RouteStage Endpoint SocksError

abbrev pub RouteFed : Type 0
RouteFed = Fed RouteStage Endpoint SocksError

abbrev pub outcome_in : RouteSession → Outcome
outcome_in (waiting s held) = Waiting
outcome_in (ended (done x)) = Open
outcome_in (ended (failed e)) = Failed e

abbrev pub bound_in : RouteSession → Endpoint
bound_in (waiting s held) = unbound
bound_in (ended (done x)) = x
bound_in (ended (failed e)) = unbound

-- the plain machine's state that the route's talk, fed with bytes, stands for
abbrev pub as_machines : RouteFed → Machine
as_machines f = has f.sent (outcome_in f.session) (bound_in f.session) f.place
