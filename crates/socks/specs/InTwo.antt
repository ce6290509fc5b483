-- F-7: opening in two. The opening in one call, as document 01 has it, is the reference that preparing and starting are held against.
use Rattle.std.specs.Prelude.{ℕ, ◌≤◌, ◌<◌, ◌≡◌, true, List, [], ◌∷◌, ◌++◌, length, drop, replicate, ltb}
use Rattle.protocol.specs.Answers.{Answer, Accepted, Refused}
use Rattle.protocol.specs.declared.SocksError.{SocksError}
use Rattle.protocol.specs.declared.SocksError.TheVariants.{ShortOutput}
use Rattle.protocol.specs.Numbers.{answer_number}
use Rattle.protocol.specs.Opening.{V5, V4, Condition, ◌↣◌, Answers, refuse, check5, check4, Opening, opening5, opening4, first_reply}
use Rattle.protocol.specs.Bound.{unbound, bound_of}
use Rattle.protocol.specs.Machine.{machine}
use Rattle.client_stages.specs.declared.due.Stage.TheVariants.{Awaiting}
use Rattle.client_session.specs.declared.Session.{Session}
use Rattle.client_session.specs.declared.Prepared.{Prepared}
use Rattle.client_session.specs.Calls.{Call, refusal, kept_by, empty_session, start}

-- ---- the opening in one call

-- started, with nothing held
abbrev pub started_for : Opening → Session
started_for o = record { stage = Awaiting (first_reply o); started = true; held = 0; hold = replicate 261 0; bound = bound_of unbound; attempts = 0; requests = kept_by o }

-- an accepted opening: what the plain machine sends ahead of any byte stands at the output's start
abbrev pub begins : Opening → List ℕ → Call
begins o out =
    let first = (machine o []).sent in
    record { answer = Accepted; session = started_for o; used = 0; sent = length first; output = first ++ drop (length first) out }

abbrev pub open_by : Answer → Opening → List ℕ → Call
open_by Accepted o out = begins o out
open_by (Refused e) o out = refusal e (empty_session e) out

-- its checks have 1 ahead of those of preparing
unfoldable pub open5 : V5 → List ℕ → Call
open5 a out = open_by (refuse (ltb (length out) 778) ShortOutput (check5 a)) (opening5 a) out

unfoldable pub open4 : V4 → List ℕ → Call
open4 a out = open_by (refuse (ltb (length out) 1024) ShortOutput (check4 a)) (opening4 a) out

-- ---- the claim

-- preparing and then starting; a refused preparing answers for both
abbrev pub in_two_by : Answer → Session → List ℕ → Call
in_two_by Accepted s out = start s out
in_two_by (Refused e) s out = refusal e s out

abbrev pub in_two : Prepared → List ℕ → Call
in_two p out = in_two_by p.answer p.session out

-- of what preparing returned, the opening in one call with the same arguments (old), the output that it asks, and the other conditions in their order
pub record InTwo (p : Prepared) (old : List ℕ → Call) (room : ℕ) (cs : List Condition) : Type 0 where
  -- if both are accepted, session, sent count and output are the opening's
  pub accepted : (out : List ℕ) → p.answer ≡ Accepted → (start p.session out).answer ≡ Accepted → start p.session out ≡ old out
  -- a refused preparing gives the answer and the session that the opening gave to an output long enough
  pub refused : (e : SocksError) → p.answer ≡ Refused e → (out : List ℕ) → room ≤ length out → old out ≡ refusal e p.session out
  -- the opening met 1 first; now it is met last, and the others in the same order
  pub first : (out : List ℕ) → Answers (answer_number (old out).answer) (((length out < room) ↣ 1) ∷ cs)
  pub last : (out : List ℕ) → Answers (answer_number (in_two p out).answer) (cs ++ (((length out < room) ↣ 1) ∷ []))
