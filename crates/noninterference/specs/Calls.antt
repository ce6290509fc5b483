-- F-6: two sessions prepared alike but for the bytes of user and password, of equal lengths, and given the same calls in the same order.
use Rattle.std.specs.Prelude.{ℕ, ◌+◌, ◌≡◌, List, [], ◌∷◌, length, take}
use Rattle.protocol.specs.Answers.{Answer, Accepted, Refused}
use Rattle.protocol.specs.declared.SocksError.{SocksError}
use Rattle.protocol.specs.declared.Outcome.{Outcome}
use Rattle.protocol.specs.declared.Address.{Address}
use Rattle.protocol.specs.Opening.{V5}
use Rattle.client_session.specs.declared.Session.{Session}
use Rattle.client_session.specs.Session as session
use Rattle.client_session.specs.Calls as calls
use Rattle.client_session.specs.Calls.{prepare5}
use Rattle.noninterference.specs.Places.{Secret, Agree}

-- ---- a call, with the output or the buffer that it lends

pub data Asks : Type 0 where
  start : Asks
  deliver : List ℕ → Asks
  end : Asks
  outcome : Asks
  attempts : Asks
  bound : Asks
  bound_text : Asks

pub record Call : Type 0 where
  pub asks : Asks
  pub lent : List ℕ

-- what it returns: the answer and the counts, or what is told
pub data Returned : Type 0 where
  started : Answer → ℕ → Returned
  delivered : Answer → ℕ → ℕ → Returned
  ended : Answer → Returned
  told : Outcome → Returned
  tried : ℕ → Returned
  named : Address → Returned
  written : Answer → ℕ → Returned

-- what is made of it: that, the session behind it, what it sent, and the text that it wrote
pub record Made : Type 0 where
  pub returned : Returned
  pub session : Session
  pub sent : List ℕ
  pub text : List ℕ

abbrev pub tells : Session → Returned → Made
tells s r = record { returned = r; session = s; sent = []; text = [] }

abbrev pub made : Session → Asks → List ℕ → Made
made s start out = let c = calls.start s out in record { returned = started c.answer c.sent; session = c.session; sent = take c.sent c.output; text = [] }
made s (deliver piece) out =
    let c = calls.deliver s piece out in
    record { returned = delivered c.answer c.used c.sent; session = c.session; sent = take c.sent c.output; text = [] }
made s end out = let c = calls.end s in tells c.session (ended c.answer)
made s outcome out = tells s (told (session.outcome s))
made s attempts out = tells s (tried s.attempts)
made s bound out = tells s (named (session.bound s))
made s bound_text out = let w = session.write_bound s out in record { returned = written w.answer w.len; session = s; sent = []; text = take w.len w.buffer }

-- ---- what is alike

-- openings but for the bytes of user and password
pub record AlikeBut (a b : V5) : Type 0 where
  pub config : a.config ≡ b.config
  pub host : a.host ≡ b.host
  pub port : a.port ≡ b.port
  pub records : a.records ≡ b.records
  pub users : length a.user ≡ length b.user
  pub passwords : length a.password ≡ length b.password

-- calls: the same, with the same pieces, and outputs of the same lengths
pub data SameCalls : List Call → List Call → Type 0 where
  none : SameCalls [] []
  more : {c d : Call} {cs ds : List Call} → c.asks ≡ d.asks → length c.lent ≡ length d.lent → SameCalls cs ds → SameCalls (c ∷ cs) (d ∷ ds)

-- states: every field, but the bytes where user and password are stored
pub record SameBut (S : ℕ → Type 0) (s t : Session) : Type 0 where
  pub stage : s.stage ≡ t.stage
  pub started : s.started ≡ t.started
  pub held : s.held ≡ t.held
  pub hold : s.hold ≡ t.hold
  pub bound : s.bound ≡ t.bound
  pub attempts : s.attempts ≡ t.attempts
  pub lengths : s.requests.lengths ≡ t.requests.lengths
  pub bytes : Agree S 0 s.requests.bytes t.requests.bytes

-- ---- what two rows of calls tell, where so many bytes were sent before: the same but for sent bytes at these positions
unfoldable pub Hidden : (ℕ → Type 0) → ℕ → Session → Session → List Call → List Call → Type 0
Hidden S n s t [] [] = SameBut S s t
Hidden S n s t [] (d ∷ ds) = ⊥
Hidden S n s t (c ∷ cs) [] = ⊥
Hidden S n s t (c ∷ cs) (d ∷ ds) =
    let x = made s c.asks c.lent in
    let y = made t d.asks d.lent in
    SameBut S s t × (x.returned ≡ y.returned) × (x.text ≡ y.text) × Agree S n x.sent y.sent × Hidden S (n + length x.sent) x.session y.session cs ds

-- of two openings
pub record Concealed (a b : V5) : Type 0 where
  pub answers : (prepare5 a).answer ≡ (prepare5 b).answer
  -- a refused preparing is equal outright
  pub refused : (e : SocksError) → (prepare5 a).answer ≡ Refused e → prepare5 a ≡ prepare5 b
  pub hidden : (cs ds : List Call) → SameCalls cs ds → (prepare5 a).answer ≡ Accepted
      → Hidden (Secret a.config.proxy_auth (length a.user) (length a.password)) 0 (prepare5 a).session (prepare5 b).session cs ds
