-- F-3: what each call to the proxy's end answers and leaves, for any arguments.
use Rattle.std.specs.Prelude.{ℕ, ◌-◌, ◌≤◌, ◌≡◌, Bool, false, cond, ◌&&◌, ◌||◌, List, [], ◌∷◌, ◌++◌, length, drop, leb, ltb}
use Rattle.protocol.specs.declared.SocksError.{SocksError}
use Rattle.protocol.specs.declared.SocksError.TheVariants.{ShortOutput, CredentialTooLong, UnexpectedEof, Settled}
use Rattle.protocol.specs.Answers as code
use Rattle.protocol.specs.Bound.{Endpoint}
use Rattle.proxy_spec.specs.declared.Field.{Field}
use Rattle.proxy_spec.specs.declared.Field.TheVariants.{First}
use Rattle.proxy_spec.specs.declared.Stage.TheVariants.{Awaiting, Failed}
use Rattle.proxy_spec.specs.End.{Asked}
use Rattle.proxy_replies.specs.stages.Answers.{Reply, answer_at}
use Rattle.proxy_session.specs.declared.Server.{Server}
use Rattle.proxy_session.specs.declared.SetUp.{SetUp}
use Rattle.proxy_session.specs.declared.Delivered.{Delivered}
use Rattle.proxy_session.specs.declared.Answered.{Answered}
use Rattle.proxy_session.specs.declared.Ended.{Ended}
use Rattle.proxy_session.specs.Server.{credential_of, side_of, view, packed, at_stage, fresh}
use Rattle.talk.specs.Talk.{Fed, failed, ended, onward, held_by, is_over, reached}
use Rattle.talk.specs.Tunnel.{Answer}

abbrev pub Call : Type 0
Call = Answer Server code.Answer

abbrev pub refusal : SocksError → Server → List ℕ → Call
refusal e s out = record { answer = code.Refused e; session = s; used = 0; sent = 0; output = out }

-- ---- what a function of the code returns and leaves in the output, as a call says; with the bounds that a caller slices by

abbrev pub delivered : Call → Delivered
delivered c = record { answer = c.answer; used = c.used; sent = c.sent; server = c.session }

pub record DeliverResult (c : Call) (piece : List ℕ) (r : Delivered) (out' : List ℕ) : Type 0 where
  pub returned : r ≡ delivered c
  pub output : out' ≡ c.output
  pub inside : r.sent ≤ length out'
  pub within : r.used ≤ length piece

abbrev pub answered : Call → Answered
answered c = record { answer = c.answer; sent = c.sent; server = c.session }

pub record AnswerResult (c : Call) (r : Answered) (out' : List ℕ) : Type 0 where
  pub returned : r ≡ answered c
  pub output : out' ≡ c.output
  pub inside : r.sent ≤ length out'

abbrev pub ended_by : Call → Ended
ended_by c = record { answer = c.answer; server = c.session }

-- ---- Set-up: 5 as in an opening; a refused one comes back failed with it

abbrev pub too_long : Bool → List ℕ → List ℕ → Bool
too_long authenticates user password = authenticates && (ltb 255 (length user) || ltb 255 (length password))

-- without credentials user and password are not looked at
unfoldable pub set_up : Bool → List ℕ → List ℕ → SetUp
set_up authenticates user password =
    cond (too_long authenticates user password)
    (record { answer = code.Refused CredentialTooLong; server = fresh (Failed CredentialTooLong) false (credential_of []) (credential_of []) })
    (record {
      answer = code.Accepted;
      server = fresh (Awaiting First) authenticates (credential_of (cond authenticates user [])) (credential_of (cond authenticates password []));
    })

-- ---- Delivery: 16 out of turn, then 1 for output under 262

-- what bytes do
abbrev pub moves : Server → Fed Field Asked SocksError → List ℕ → Call
moves s f out =
    record {
      answer = code.Accepted;
      session = packed s f.session;
      used = reached f - length (held_by (view s));
      sent = length f.sent;
      output = f.sent ++ drop (length f.sent) out;
    }

-- an empty piece changes nothing
abbrev pub takes : Server → List ℕ → List ℕ → Call
takes s [] out = record { answer = code.Accepted; session = s; used = 0; sent = 0; output = out }
takes s (b ∷ bs) out = moves s (onward (side_of s) (view s) (b ∷ bs)) out

unfoldable pub deliver : Server → List ℕ → List ℕ → Call
deliver s piece out =
    cond (is_over (view s)) (refusal Settled s out) (cond (leb 262 (length out)) (takes s piece out) (refusal ShortOutput s out))

-- ---- the caller's answer

abbrev pub answer_by : Server → Reply → Call
answer_by s q = record { answer = q.said.answer; session = at_stage q.said.stage s; used = 0; sent = q.said.sent; output = q.output }

unfoldable pub answer : Server → ℕ → Endpoint → List ℕ → Call
answer s status x out = answer_by s (answer_at s.stage status x out)

-- ---- End of stream: 9 while it waits, else 16

unfoldable pub end : Server → Call
end s = cond (is_over (view s)) (refusal Settled s []) (record { answer = code.Accepted; session = packed s (ended (failed UnexpectedEof)); used = 0; sent = 0; output = [] })
