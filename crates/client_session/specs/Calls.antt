-- 01, "The call: the session": what each call answers and leaves, for any arguments. A call's answer, session, counts and output are one record.
use Rattle.std.specs.Prelude.{◌≡◌, ℕ, ◌-◌, ◌≤◌, Bool, true, false, cond, not, List, [], ◌∷◌, ◌++◌, length, drop, replicate, ◌≢◌, nat_le}
use Rattle.protocol.specs.declared.AuthMethod.TheVariants.{NoAuth, UserPass}
use Rattle.protocol.specs.declared.SocksError.{SocksError}
use Rattle.protocol.specs.declared.SocksError.TheVariants.{ShortOutput, UnexpectedEof, Settled, OutOfOrder}
use Rattle.protocol.specs.Answers as code
use Rattle.protocol.specs.Numbers.{answer_number, outcome_number}
use Rattle.protocol.specs.Bytes.{padded}
use Rattle.protocol.specs.Bound.{unbound, bound_of}
use Rattle.protocol.specs.Requests.{negotiation_req, authentication_req, proxy_req, request}
use Rattle.protocol.specs.Opening.{V5, V4, check5, check4, Opening, v5, v4, no_auth, user_pass, opening5, opening4, first_reply}
use Rattle.client_stages.specs.declared.due.Stage.{Stage}
use Rattle.client_stages.specs.declared.due.Stage.TheVariants.{Awaiting, Failed}
use Rattle.client_stages.specs.declared.due.Requests.{Requests}
use Rattle.client_session.specs.declared.Session.{Session}
use Rattle.client_session.specs.declared.Prepared.{Prepared}
use Rattle.client_session.specs.declared.Started.{Started}
use Rattle.client_session.specs.declared.Delivered.{Delivered}
use Rattle.client_session.specs.declared.Ended.{Ended}
use Rattle.client_session.specs.Session.{side_of, view, packed, attempted, outcome, first_room_at, first_at, room_at}
use Rattle.talk.specs.Talk.{failed, ended, onward, held_by, is_over, reached}
use Rattle.talk.specs.Attempts.{attempts_by}
use Rattle.talk.specs.Tunnel.{Answer}
use Rattle.client_stages.specs.due.Stages.{SideFed}

abbrev pub Call : Type 0
Call = Answer Session code.Answer

abbrev pub refusal : SocksError → Session → List ℕ → Call
refusal e s out = record { answer = code.Refused e; session = s; used = 0; sent = 0; output = out }

-- ---- what a function of the code returns and leaves in the output, as a call says; with the bounds that a caller slices by

abbrev pub started : Call → Started
started c = record { answer = c.answer; sent = c.sent; session = c.session }

pub record StartResult (c : Call) (r : Started) (out' : List ℕ) : Type 0 where
  pub returned : r ≡ started c
  pub output : out' ≡ c.output
  pub inside : r.sent ≤ length out'

abbrev pub delivered : Call → Delivered
delivered c = record { answer = c.answer; used = c.used; sent = c.sent; session = c.session }

pub record DeliverResult (c : Call) (piece : List ℕ) (r : Delivered) (out' : List ℕ) : Type 0 where
  pub returned : r ≡ delivered c
  pub output : out' ≡ c.output
  pub inside : r.sent ≤ length out'
  pub within : r.used ≤ length piece

abbrev pub ended_by : Call → Ended
ended_by c = record { answer = c.answer; session = c.session }

-- ---- Preparing (F-7)

-- requests one behind the other: the first, an AuthenticationReq and a ProxyReq
abbrev pub kept_with : Bool → List ℕ → List ℕ → List ℕ → Requests
kept_with o q a p =
    record {
      lengths = record { optimistic = o; first = length q; authentication = length a; proxy = length p };
      bytes = padded 1024 (q ++ (a ++ p));
    }

abbrev pub nothing_kept : Requests
nothing_kept = kept_with false [] [] []

-- what a session keeps of an opening
abbrev pub kept_by : Opening → Requests
kept_by (v5 no_auth d port o) = kept_with o (negotiation_req NoAuth) [] (proxy_req d port)
kept_by (v5 (user_pass u p) d port o) = kept_with o (negotiation_req UserPass) (authentication_req u p) (proxy_req d port)
kept_by (v4 d port) = kept_with false (request d port) [] []

-- a session that is not started and holds nothing
abbrev pub fresh : Stage → Requests → Session
fresh s q = record { stage = s; started = false; held = 0; hold = replicate 261 0; bound = bound_of unbound; attempts = 0; requests = q }

-- prepared: the requests are kept, and the first reply is waited for
abbrev pub prepared_for : Opening → Session
prepared_for o = fresh (Awaiting (first_reply o)) (kept_by o)

-- the empty session, failed with an error
abbrev pub empty_session : SocksError → Session
empty_session e = fresh (Failed e) nothing_kept

abbrev pub prepared_by : code.Answer → Opening → Prepared
prepared_by code.Accepted o = record { answer = code.Accepted; session = prepared_for o }
prepared_by (code.Refused e) o = record { answer = code.Refused e; session = empty_session e }

unfoldable pub prepare5 : V5 → Prepared
prepare5 a = prepared_by (check5 a) (opening5 a)

unfoldable pub prepare4 : V4 → Prepared
prepare4 a = prepared_by (check4 a) (opening4 a)

-- ---- Starting (F-7)

-- bytes sent stand at the output's start; nothing else of the session changes
abbrev pub starts : Session → List ℕ → List ℕ → Call
starts s first out =
    record {
      answer = code.Accepted;
      session = record { stage = s.stage; started = true; held = s.held; hold = s.hold; bound = s.bound; attempts = s.attempts; requests = s.requests };
      used = 0;
      sent = length first;
      output = first ++ drop (length first) out;
    }

unfoldable pub start : Session → List ℕ → Call
start s out =
    cond (is_over (view s)) (refusal Settled s out)
    (cond s.started (refusal OutOfOrder s out)
    (cond (nat_le (first_room_at s.stage) (length out)) (starts s (first_at s.stage s.requests) out) (refusal ShortOutput s out)))

-- ---- Delivery

-- what bytes do, and the attempts that they took
abbrev pub moves : Session → SideFed → ℕ → List ℕ → Call
moves s f n out =
    record {
      answer = code.Accepted;
      session = attempted n (packed s f.session);
      used = reached f - length (held_by (view s));
      sent = length f.sent;
      output = f.sent ++ drop (length f.sent) out;
    }

-- an empty piece changes nothing
abbrev pub takes : Session → List ℕ → List ℕ → Call
takes s [] out = record { answer = code.Accepted; session = s; used = 0; sent = 0; output = out }
takes s (b ∷ bs) out = moves s (onward (side_of s) (view s) (b ∷ bs)) (attempts_by (side_of s) (view s) (b ∷ bs)) out

unfoldable pub deliver : Session → List ℕ → List ℕ → Call
deliver s piece out =
    cond (is_over (view s)) (refusal Settled s out)
    (cond (not s.started) (refusal OutOfOrder s out)
    (cond (nat_le (room_at s.stage) (length out)) (takes s piece out) (refusal ShortOutput s out)))

-- ---- End of stream

unfoldable pub end : Session → Call
end s =
    cond (is_over (view s)) (refusal Settled s [])
    (cond (not s.started) (refusal OutOfOrder s [])
    (record { answer = code.Accepted; session = packed s (ended (failed UnexpectedEof)); used = 0; sent = 0; output = [] }))

-- ---- a number that a call does not meet, neither as its answer nor as the outcome of what it returns

abbrev pub Without : ℕ → Call → Type 0
Without n c = (answer_number c.answer ≢ n) × (outcome_number (outcome c.session) ≢ n)
