-- 01, "The call: the session": the client as a side of a handshake: its stages are the replies that it waits for. Written apart from the plain machine.
use Rattle.std.specs.Prelude.{ℕ, ◌≡◌, Bool, true, false, List, []}
use Rattle.protocol.specs.declared.AuthMethod.{AuthMethod}
use Rattle.protocol.specs.declared.AuthMethod.TheVariants.{NoAuth, UserPass, NoneAcceptable}
use Rattle.protocol.specs.declared.SocksError.{SocksError}
use Rattle.protocol.specs.declared.SocksError.TheVariants.{MethodMismatch, Settled, ShortOutput}
use Rattle.protocol.specs.declared.Reply.{Reply}
use Rattle.protocol.specs.declared.Reply.TheVariants.{NegotiationRes, AuthenticationRes, ProxyRes, Response}
use Rattle.protocol.specs.Answers as code
use Rattle.protocol.specs.declared.Outcome.{Outcome}
use Rattle.protocol.specs.declared.Outcome.TheVariants.{Waiting, Open, Failed}
use Rattle.protocol.specs.Requests.{negotiation_req, authentication_req, proxy_req, request}
use Rattle.protocol.specs.Bound.{Endpoint, unbound, proxy_bound, response_bound}
use Rattle.protocol.specs.Opening.{no_auth, user_pass, Opening, v5, v4}
use Rattle.protocol.specs.Replies.{decide}
use Rattle.talk.specs.Decision.{Verdict, Decision, undecided, decided, good, bad}
use Rattle.talk.specs.Talk.{done, failed, Talk, stop, send, await, Side, Session, waiting, ended}

-- what a session keeps for later: whether all requests go at the start, and the requests for credentials and connection
pub record Kept : Type 0 where
  pub optimistic : Bool
  pub authentication : List ℕ
  pub proxy : List ℕ

abbrev pub ClientTalk : Type 0
ClientTalk = Talk Reply Endpoint SocksError

-- plainly a request is sent when it is due; optimistically it went at the start
abbrev pub due : Bool → List ℕ → ClientTalk → ClientTalk
due true q t = t
due false q t = send q t

-- F-1: a talk is done with the address and port that its last reply names
abbrev pub at_proxy_res : ClientTalk
at_proxy_res = await ProxyRes (λ m. stop (done (proxy_bound m)))

abbrev pub at_authentication_res : Kept → ClientTalk
at_authentication_res c = await AuthenticationRes (λ m. due c.optimistic c.proxy at_proxy_res)

-- after the reply to a method sent; no session sends NoneAcceptable, and no reply to it is good
abbrev pub after_method : AuthMethod → Kept → ClientTalk
after_method NoAuth c = due c.optimistic c.proxy at_proxy_res
after_method UserPass c = due c.optimistic c.authentication (at_authentication_res c)
after_method NoneAcceptable c = stop (failed MethodMismatch)

abbrev pub talk_at : Kept → Reply → ClientTalk
talk_at c (NegotiationRes m) = await (NegotiationRes m) (λ r. after_method m c)
talk_at c AuthenticationRes = at_authentication_res c
talk_at c ProxyRes = at_proxy_res
talk_at c Response = await Response (λ m. stop (done (response_bound m)))

-- a decision as any side has it
abbrev pub judged : code.Verdict → Verdict SocksError
judged code.Good = good
judged (code.Bad e) = bad e

abbrev pub told : code.Decision → Decision SocksError
told code.Undecided = undecided
told (code.Decided n v) = decided n (judged v)

abbrev pub client : Kept → Side
client c =
    record {
      Stage = Reply;
      Result = Endpoint;
      Error = SocksError;
      reads = λ s bs. told (decide s bs);
      talk_at = talk_at c;
      over = Settled;
      short = ShortOutput;
    }

-- what is kept of an opening; without credentials, and over v4, nothing stands in their place
abbrev pub kept : Opening → Kept
kept (v5 no_auth d port o) = record { optimistic = o; authentication = []; proxy = proxy_req d port }
kept (v5 (user_pass u p) d port o) = record { optimistic = o; authentication = authentication_req u p; proxy = proxy_req d port }
kept (v4 d port) = record { optimistic = false; authentication = []; proxy = [] }

-- an opening's talk
abbrev pub begun : Opening → ClientTalk
begun (v5 no_auth d port false) = send (negotiation_req NoAuth) (talk_at (kept (v5 no_auth d port false)) (NegotiationRes NoAuth))
begun (v5 no_auth d port true) = send (negotiation_req NoAuth) (send (proxy_req d port) (talk_at (kept (v5 no_auth d port true)) (NegotiationRes NoAuth)))
begun (v5 (user_pass u p) d port false) = send (negotiation_req UserPass) (talk_at (kept (v5 (user_pass u p) d port false)) (NegotiationRes UserPass))
begun (v5 (user_pass u p) d port true) =
    send (negotiation_req UserPass)
    (send (authentication_req u p) (send (proxy_req d port) (talk_at (kept (v5 (user_pass u p) d port true)) (NegotiationRes UserPass))))
begun (v4 d port) = send (request d port) (talk_at (kept (v4 d port)) Response)

abbrev pub side : Opening → Side
side o = client (kept o)

abbrev pub outcome_of : Session Reply Endpoint SocksError → Outcome
outcome_of (waiting s held) = Waiting
outcome_of (ended (done x)) = Open
outcome_of (ended (failed e)) = Failed e

abbrev pub bound_in : Session Reply Endpoint SocksError → Endpoint
bound_in (waiting s held) = unbound
bound_in (ended (done x)) = x
bound_in (ended (failed e)) = unbound

-- the output that a start must lend, told by the reply that is waited for
abbrev pub first_room : Reply → ℕ
first_room (NegotiationRes m) = 778
first_room AuthenticationRes = 778
first_room ProxyRes = 778
first_room Response = 1024

-- and a delivery
abbrev pub room : Reply → ℕ
room (NegotiationRes m) = 778
room AuthenticationRes = 778
room ProxyRes = 778
room Response = 262

-- a session that waits asks for so much output
abbrev pub Waits : ℕ → Session Reply Endpoint SocksError → Type 0
Waits r (waiting e h) = room e ≡ r
Waits r (ended x) = Unit {0}
