-- F-6 over sessions in lent bytes: two that were prepared alike but for the bytes of user and password, of equal lengths, and given the same calls in the same order.
use Rattle.std.specs.Prelude.{ℕ, ◌+◌, ◌≡◌, length, take}
use mathlib.Core.List.{List, [], ◌∷◌, Memᴰ}
use Rattle.protocol.specs.Answers.{Accepted}
use Rattle.protocol.specs.Bytes.{Bytes}
use Rattle.protocol.specs.Numbers.{answer_number}
use Rattle.protocol.specs.Opening.{V5}
use Rattle.client_session.specs.declared.Session.{Session}
use Rattle.client_session.specs.Session as session
use Rattle.client_session.specs.Calls as calls
use Rattle.client_session.specs.Calls.{prepare5}
use Rattle.noninterference.specs.Places.{Secret, Agree}
use Rattle.noninterference.specs.Calls.{Asks, start, deliver, end, outcome, attempts, bound, bound_text, Call, SameCalls}
use Rattle.lent_numbers.specs.declared.told.RawOutcome.{RawOutcome}
use Rattle.lent_numbers.specs.declared.told.RawStep.{RawStep}
use Rattle.lent_numbers.specs.told.Told.{outcome_of}
use Rattle.lent_session.specs.declared.telling.RawAddress.{RawAddress}
use Rattle.lent_session.specs.declared.telling.RawText.{RawText}
use Rattle.lent_session.specs.State.{session_at, state_of}
use Rattle.lent_session.specs.Calls.{step_by, left_by, address_of}

-- what a call tells
pub data Told : Type 0 where
  stepped : RawStep → Told
  stands : RawOutcome → Told
  tried : ℕ → Told
  named : RawAddress → Told
  written : RawText → Told

-- what is made of it: that, the lent bytes behind it, what it sent, and the text that it wrote
pub record Made : Type 0 where
  pub told : Told
  pub state : List ℕ
  pub sent : List ℕ
  pub text : List ℕ

abbrev pub moves : List ℕ → calls.Call → Made
moves s c = record { told = stepped (step_by c); state = left_by c.answer c.session s; sent = take c.sent c.output; text = [] }

abbrev pub tells : List ℕ → Told → Made
tells s t = record { told = t; state = s; sent = []; text = [] }

-- by the session that the bytes mean
abbrev pub made_by : List ℕ → Session → Asks → List ℕ → Made
made_by s x start out = moves s (calls.start x out)
made_by s x (deliver piece) out = moves s (calls.deliver x piece out)
made_by s x end out = moves s (calls.end x)
made_by s x outcome out = tells s (stands (outcome_of (session.outcome x)))
made_by s x attempts out = tells s (tried x.attempts)
made_by s x bound out = tells s (named (address_of (session.bound x)))
made_by s x bound_text out =
    let w = session.write_bound x out in
    record { told = written (record { len = w.len; answer = answer_number w.answer }); state = s; sent = []; text = take w.len w.buffer }

abbrev pub made : List ℕ → Asks → List ℕ → Made
made s q out = made_by s (session_at s) q out

-- among the lent bytes the requests begin at 282
abbrev pub Stored : (ℕ → Type 0) → ℕ → Type 0
Stored S i = (j : ℕ) × (i ≡ 282 + j) × S j

-- pieces are byte strings
abbrev pub ByteCalls : List Call → Type 0
ByteCalls cs = (c : Call) → Memᴰ c cs → (piece : List ℕ) → c.asks ≡ deliver piece → Bytes piece

-- what two rows of calls tell, where so many bytes were sent before: the same but for lent and sent bytes at these positions
unfoldable pub LentHidden : (ℕ → Type 0) → ℕ → List ℕ → List ℕ → List Call → List Call → Type 0
LentHidden S n s t [] [] = Agree (Stored S) 0 s t
LentHidden S n s t [] (d ∷ ds) = ⊥
LentHidden S n s t (c ∷ cs) [] = ⊥
LentHidden S n s t (c ∷ cs) (d ∷ ds) =
    let x = made s c.asks c.lent in
    let y = made t d.asks d.lent in
    Agree (Stored S) 0 s t × (x.told ≡ y.told) × (x.text ≡ y.text) × Agree S n x.sent y.sent × LentHidden S (n + length x.sent) x.state y.state cs ds

-- of two openings
pub record LentConcealed (a b : V5) : Type 0 where
  pub answers : answer_number (prepare5 a).answer ≡ answer_number (prepare5 b).answer
  -- a refused preparing leaves the same bytes
  pub refused : (answer_number (prepare5 a).answer ≡ 0 → ⊥) → state_of (prepare5 a).session ≡ state_of (prepare5 b).session
  pub hidden : (cs ds : List Call) → SameCalls cs ds → ByteCalls cs → (prepare5 a).answer ≡ Accepted
      → LentHidden (Secret a.config.proxy_auth (length a.user) (length a.password)) 0 (state_of (prepare5 a).session) (state_of (prepare5 b).session) cs ds
