-- What the parts of a delivery, an answer and an end come to, and what a set-up keeps.
use Prim.Native.Nat.{ℕ, ◌+◌, ◌-◌, ◌≤◌, ◌<◌, min, zero-le}
use native.Mathlib.Nat.{zero-add}
use native.Mathlib.Omega.{arith}
use mathlib.Core.Path.{◌≡◌, refl, ap, sym, ◌∙◌}
use mathlib.Core.Bool.{Bool, true, false, ◌||◌, true≢false}
use mathlib.Core.List.{List, [], ◌∷◌, ◌++◌}
use lib.ListN.{length, take, drop}
use lib.Dec.{ltb}
use borrow.Author.Tests.{le-leb, lt-leb, ltb-false}
use Rattle.protocol.specs.Answers.{Answer, Accepted, Refused}
use Rattle.std.specs.Prelude.{Result, Ok, Err, IfOk}
use Rattle.protocol.specs.declared.SocksError.{SocksError}
use Rattle.protocol.specs.declared.SocksError.TheVariants.{CredentialTooLong}
use Rattle.protocol.specs.declared.Bound.{Bound}
use Rattle.protocol.specs.Requests.{kind_of}
use Rattle.protocol.specs.Bound.{Endpoint, endpoint, unbound}
use Rattle.proxy_spec.specs.declared.Field.{Field}
use Rattle.proxy_spec.specs.declared.Field.TheVariants.{First}
use Rattle.proxy_spec.specs.declared.Stage.{Stage}
use Rattle.proxy_spec.specs.declared.Stage.TheVariants.{Awaiting, Asked, Open, Failed}
use Rattle.proxy_spec.specs.End.{Setup}
use Rattle.proxy_spec.specs.Side.{talk_at, server}
use Rattle.proxy_spec.specs.Shortest.{wants_by}
use Rattle.proxy_decisions.specs.decision.Due.{session_at}
use Rattle.proxy_replies.specs.declared.stages.Said.{Said}
use Rattle.proxy_replies.specs.stages.Told.{end_at, has_destination}
use Rattle.proxy_decisions.specs.destination.Last.{target_as}
use Rattle.buffers.proofs.write.Parts.{take_min}
use Rattle.proxy_replies.specs.stages.Answers as stages
use Rattle.proxy_delivery.specs.declared.piece.Taken.{Taken}
use Rattle.proxy_delivery.specs.piece.Pieces.{TakeResult}
use Rattle.proxy_delivery.specs.delivery.Received.{untaken, Waits, Ways, settled, short, none, taken, ReceiveResult}
use Rattle.proxy_session.specs.declared.Credential.{Credential}
use Rattle.proxy_session.specs.declared.Server.{Server}
use Rattle.proxy_session.specs.declared.Delivered.{Delivered}
use Rattle.proxy_session.specs.declared.Ended.{Ended}
use Rattle.proxy_session.specs.declared.SetUp.{SetUp}
use Rattle.proxy_session.specs.Server.{credential_of, text_of, setup_of, side_of, held_bytes, asked_for, view, at_stage, destination, wants, fresh}
use Rattle.proxy_session.specs.Calls.{Call, DeliverResult, delivered, AnswerResult, ended_by, moves, takes, deliver, answer, end, too_long, set_up}
use Rattle.talk.specs.Talk.{feed, onward, is_over}
use Rattle.buffers.specs.write.Written.{overwrite}

-- ---- which way a delivery goes

pub is_over_lem : (stage : Stage) (x : Endpoint) (h : List ℕ) → (Waits stage → ⊥) → is_over (session_at stage x h) ≡ true
is_over_lem (Awaiting f) x h n = absurd (n tt)
is_over_lem (Asked v) x h n = refl
is_over_lem (Open v) x h n = refl
is_over_lem (Failed e) x h n = refl

waits_on : (stage : Stage) (x : Endpoint) (h : List ℕ) → Waits stage → is_over (session_at stage x h) ≡ false
waits_on (Awaiting f) x h w = refl
waits_on (Asked v) x h w = absurd w
waits_on (Open v) x h w = absurd w
waits_on (Failed e) x h w = absurd w

takes_none : (s : Server) (piece out : List ℕ) → length piece ≡ 0 → takes s piece out ≡ record { answer = Accepted; session = s; used = 0; sent = 0; output = out }
takes_none s [] out z = refl
takes_none s (b ∷ bs) out z = absurd (omega arith)

takes_more : (s : Server) (piece out : List ℕ) → (length piece ≡ 0 → ⊥) → takes s piece out ≡ moves s (onward (side_of s) (view s) piece) out
takes_more s [] out h = absurd (h refl)
takes_more s (b ∷ bs) out h = refl

-- an end of these parts, and what a call is after which it has these
abbrev pub server_of : Stage → ℕ → List ℕ → Bound → Bool → Credential → Credential → Server
server_of stage held hold x a u p = record { stage = stage; held = held; hold = hold; bound = x; authenticates = a; user = u; password = p }

module _ (held : ℕ) (hold piece : List ℕ) (x : Bound) (a : Bool) (u p : Credential) (out : List ℕ) where
  abbrev c : Setup
  c = record { authenticates = a; user = text_of u; password = text_of p }

  abbrev went : Stage → Result Taken SocksError → List ℕ → List ℕ → Call
  went stage (Ok t) hold' out' = record { answer = Accepted; session = server_of t.stage t.held hold' t.bound a u p; used = t.used; sent = t.sent; output = out' }
  went stage (Err e) hold' out' = record { answer = Refused e; session = server_of stage held hold' x a u p; used = 0; sent = 0; output = out' }

  moves_as : (f : Field) (t : Taken) {hold' out' : List ℕ} → TakeResult c f (take held hold) piece hold x out t hold' out'
      → moves (server_of (Awaiting f) held hold x a u p) (feed (server c) (talk_at c f) (take held hold ++ piece)) out ≡ went (Awaiting f) (Ok t) hold' out'
  unfolding overwrite
  moves_as f t {hold'} {out'} w =
      let k = w.keeps in
      let s = w.said in
      let o : out' ≡ s ++ drop (length s) out = w.wrote.bytes ∙ ap (λ (n : ℕ). s ++ drop n out) (zero-add (length s)) in
      let n : t.sent ≡ length s = w.wrote.place ∙ zero-add (length s) in
      ap (λ g. moves (server_of (Awaiting f) held hold x a u p) g out) w.whole
      ∙ (λ i. record {
        answer = Accepted;
        session = record { stage = sym k.staged i; held = sym k.counts i; hold = sym k.holds i; bound = sym k.bounds i; authenticates = a; user = u; password = p };
        used = sym k.uses i;
        sent = sym n i;
        output = sym o i;
      })

  goes : (stage : Stage) {r : Result Taken SocksError} {hold' out' : List ℕ} → Ways stage held c hold piece x out r hold' out'
      → deliver (server_of stage held hold x a u p) piece out ≡ went stage r hold' out'
  unfolding deliver onward
  goes stage (settled n q w o) = rw (q, w, o, is_over_lem stage _ (take held hold) n)
  goes stage (short n h q w o) = rw (q, w, o, waits_on stage _ (take held hold) n, lt-leb 262 (length out) h)
  goes stage (none n h z q w o) = rw (q, w, o, waits_on stage _ (take held hold) n, le-leb 262 (length out) h) (takes_none (server_of stage held hold x a u p) piece out z)
  goes stage (taken f t s h z q w) = rw (q, s, le-leb 262 (length out) h) (takes_more (server_of (Awaiting f) held hold x a u p) piece out z ∙ moves_as f t w)

-- the answer, and what was taken, by what was received
abbrev pub taken_by : Server → Result Taken SocksError → Answer × Taken
taken_by s (Ok t) = (Accepted, t)
taken_by s (Err e) = (Refused e, untaken s.stage s.held s.bound)

-- what the code then answers with
abbrev pub delivered_with : Server → Answer × Taken → List ℕ → Delivered
delivered_with s a hold' = record { answer = a.0; used = a.1.used; sent = a.1.sent; server = server_of a.1.stage a.1.held hold' a.1.bound s.authenticates s.user s.password }

abbrev pub delivered_by : Server → Result Taken SocksError → List ℕ → Delivered
delivered_by s r hold' = delivered_with s (taken_by s r) hold'

pub delivers : (s : Server) (piece out : List ℕ) {r : Result Taken SocksError} {hold' out' : List ℕ} → ReceiveResult s.stage s.held (setup_of s) s.hold piece s.bound out r hold' out'
    → DeliverResult (deliver s piece out) piece (delivered_by s r hold') out'
delivers s piece out {r} {hold'} {out'} v = go r (goes s.held s.hold piece s.bound s.authenticates s.user s.password out s.stage v.way) v.within v.inside
  where
    go : (r : Result Taken SocksError) → deliver s piece out ≡ went s.held s.hold piece s.bound s.authenticates s.user s.password out s.stage r hold' out' → IfOk r (λ t. t.used ≤ length piece) → IfOk r (λ t. t.sent ≤ length out')
        → DeliverResult (deliver s piece out) piece (delivered_by s r hold') out'
    go (Ok t) g w i = record { returned = ap delivered (sym g); output = ap (λ (d : Call). d.output) (sym g); inside = i; within = w }
    go (Err e) g w i = record { returned = ap delivered (sym g); output = ap (λ (d : Call). d.output) (sym g); inside = zero-le; within = zero-le }

pub delivers_by : (s : Server) (piece out : List ℕ) {r : Result Taken SocksError} {hold' out' : List ℕ} → ReceiveResult s.stage s.held (setup_of s) s.hold piece s.bound out r hold' out' → {a : Answer × Taken} → a ≡ taken_by s r
    → DeliverResult (deliver s piece out) piece (delivered_with s a hold') out'
delivers_by s piece out v q = rw q (delivers s piece out v)

-- ---- the caller's answer, and the end of the stream

pub answers : (s : Server) (status : ℕ) (x : Endpoint) (out : List ℕ) {r : Said} {out' : List ℕ} → stages.AnswerResult (stages.answer_at s.stage status x out) r out'
    → AnswerResult (answer s status x out) (record { answer = r.answer; sent = r.sent; server = at_stage r.stage s }) out'
unfolding answer
answers s status x out {r} v =
    record { returned = (λ i. record { answer = (v.returned i).answer; sent = (v.returned i).sent; server = at_stage (v.returned i).stage s }); output = v.output; inside = v.inside }

-- the answer, the stage and how many bytes are held, by what the end came to
abbrev pub end_by : Server → Result Stage SocksError → Answer × Stage × ℕ
end_by s (Ok t) = (Accepted, t, 0)
end_by s (Err e) = (Refused e, s.stage, s.held)

abbrev pub ended_with : Server → Answer × Stage × ℕ → Ended
ended_with s (a, t, n) = record { answer = a; server = server_of t n s.hold s.bound s.authenticates s.user s.password }

abbrev pub ended_as : Server → Result Stage SocksError → Ended
ended_as s r = ended_with s (end_by s r)

pub ends : (s : Server) {r : Result Stage SocksError} → r ≡ end_at s.stage → ended_as s r ≡ ended_by (end s)
unfolding end
ends s {r} q = rw q (go s.stage refl)
  where
    go : (t : Stage) → s.stage ≡ t → ended_as s (end_at t) ≡ ended_by (end s)
    go (Awaiting f) e = rw e
    go (Asked v) e = rw e
    go (Open v) e = rw e
    go (Failed x) e = rw e

pub ends_by : (s : Server) {r : Result Stage SocksError} → r ≡ end_at s.stage → {x : Answer × Stage × ℕ} → x ≡ end_by s r → ended_with s x ≡ ended_by (end s)
ends_by s q w = ap (ended_with s) w ∙ ends s q

-- ---- the set-up

module _ (a : Bool) (user password : List ℕ) {none : Credential} {s : Server} (z : none ≡ credential_of []) where
  pub set_refused : too_long a user password ≡ true → s ≡ fresh (Failed CredentialTooLong) false none none → ◌≡◌ {A = SetUp} (record { answer = Refused CredentialTooLong; server = s }) (set_up a user password)
  unfolding set_up
  set_refused t q = rw (t, q, z)

  pub set_without : too_long a user password ≡ false → a ≡ false → s ≡ fresh (Awaiting First) false none none → ◌≡◌ {A = SetUp} (record { answer = Accepted; server = s }) (set_up a user password)
  unfolding set_up
  set_without t e q = rw (t, q, z, e)

pub set_with : (a : Bool) (user password : List ℕ) {s : Server} {u p : Credential} → too_long a user password ≡ false → a ≡ true → u ≡ credential_of user → p ≡ credential_of password → s ≡ fresh (Awaiting First) true u p
    → ◌≡◌ {A = SetUp} (record { answer = Accepted; server = s }) (set_up a user password)
unfolding set_up
set_with a user password t e y w q = rw (t, q, y, w, e)

-- neither has more than 255 bytes
pub short_enough : (a : Bool) (user password : List ℕ) → too_long a user password ≡ false → a ≡ true → (length user ≤ 255) × (length password ≤ 255)
short_enough a user password t e = go (ltb 255 (length user)) (ltb 255 (length password)) refl refl (rw e at t)
  where
    go : (b d : Bool) → ltb 255 (length user) ≡ b → ltb 255 (length password) ≡ d → (b || d) ≡ false → (length user ≤ 255) × (length password ≤ 255)
    go true d y w q = absurd (true≢false q)
    go false true y w q = absurd (true≢false q)
    go false false y w q = (ltb-false 255 (length user) y, ltb-false 255 (length password) w)

-- ---- the destination

pub no_destination : (s : Server) {b : Bool} → b ≡ has_destination s.stage → b ≡ false → target_as unbound ≡ destination s
no_destination s e q = rw (← e, q)

pub destination_is : (s : Server) {b : Bool} {h : List ℕ} → b ≡ has_destination s.stage → b ≡ true → h ≡ held_bytes s → target_as (endpoint (kind_of s.bound.kind h) s.bound.port) ≡ destination s
destination_is s e q h = rw (← e, q, h)

-- of the hold as much as there is
pub held_is : (s : Server) {n : ℕ} → n ≡ min s.held 1014 → length s.hold ≡ 1014 → take n s.hold ≡ held_bytes s
held_is s q l = rw (q, ← l) (take_min s.held s.hold)

-- ---- what is lent of a credential's array and of the hold

pub inside : (n k : ℕ) (l : List ℕ) → n ≡ k → k < 256 → length l ≡ 255 → n ≤ length l
inside n k l e o q = omega arith

pub held_inside : (n k : ℕ) (l : List ℕ) → n ≡ min k 1014 → length l ≡ 1014 → n ≤ length l
held_inside n k l e q = omega arith

-- ---- what it wants

-- what is asked for does not matter
wants_any : (c : Setup) (t : Stage) (x y : Endpoint) (h : List ℕ) → wants_by c (session_at t x h) ≡ wants_by c (session_at t y h)
wants_any c (Awaiting f) x y h = refl
wants_any c (Asked v) x y h = refl
wants_any c (Open v) x y h = refl
wants_any c (Failed e) x y h = refl

pub wants_is : (s : Server) {r : ℕ} → r ≡ wants_by (setup_of s) (session_at s.stage unbound (held_bytes s)) → r ≡ wants s
wants_is s q = q ∙ wants_any (setup_of s) s.stage unbound (asked_for s) (held_bytes s)
