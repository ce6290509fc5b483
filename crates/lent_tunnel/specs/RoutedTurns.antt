-- Of any lent bytes as many as a route has: the numbers that the calls on them answer, lent 8,192 bytes, so that 1 is not met; and what they leave.
use Rattle.std.specs.Prelude.{ℕ, suc, ◌≤◌, ◌<◌, ◌≡◌, ◌⊎◌, true, false, List, [], ◌∷◌, length, drop, replicate}
use Rattle.protocol.specs.Answers.{Accepted, Refused}
use Rattle.protocol.specs.declared.SocksError.{SocksError}
use Rattle.protocol.specs.declared.SocksError.TheVariants.{RouteLength}
use Rattle.protocol.specs.Bytes.{Bytes}
use Rattle.protocol.specs.Numbers.{number, status, answer_number}
use Rattle.protocol.specs.Opening.{◌↣◌, Answers}
use Rattle.address_format.specs.endpoint.Text.{bound_text}
use Rattle.client_session.specs.Session.{bound, write_bound}
use Rattle.socks.specs.Turns.{no_address}
use Rattle.lent_session.specs.State.{session_at}
use Rattle.lent_session.specs.Calls.{address_of}
use Rattle.route_spec.specs.Route.{Asked, conditions_for}
use Rattle.route_session.specs.calls.Calls.{empty_route, end}
use Rattle.lent_route.specs.State.{phase_at, count_at, route_at, state_of}
use Rattle.lent_route.specs.Calls.{hop_told, hopped}
use Rattle.lent_tunnel.specs.Demand3.{outcome_at, attempts_at}
use Rattle.lent_tunnel.specs.Turns.{started_at, LentTells, Untouched}
use Rattle.lent_tunnel.specs.Routed.{lent_open, called_in, lent_deliver}
use Rattle.talk.specs.Tunnel.{Answer, Behind}

abbrev pub lent_end : List ℕ → Answer (List ℕ) ℕ
lent_end s = called_in (phase_at s) s [] (end (route_at s))

-- no route that is being prepared: it is settled, or opened
abbrev pub Late : List ℕ → Type 0
Late s = ((outcome_at s).state ≡ 0 → ⊥) ⊎ (started_at s ≡ true)

pub record RouteInTurn (s : List ℕ) (out : List ℕ) : Type 0 where
  -- a hop: 16 unless the route waits, then 22 once it is opened, then 21 for a ninth, then its opening's own
  pub hop_number : (a : Asked)
      → Answers (answer_number (hop_told a s)) ((((outcome_at s).state ≡ 0 → ⊥) ↣ 16) ∷ ((started_at s ≡ true) ↣ 22) ∷ ((8 ≤ count_at s) ↣ 21) ∷ conditions_for a)
  -- out of turn it leaves every lent byte; in turn, and refused, the route is empty and has failed with that number; accepted, there is one more, and it waits as before
  pub hop_untouched : (a : Asked) → Late s → hopped a s ≡ s
  pub hop_empties : (a : Asked) (e : SocksError) → (Late s → ⊥) → hop_told a s ≡ Refused e → hopped a s ≡ state_of (empty_route e)
  pub hop_fails : (a : Asked) (e : SocksError) → (Late s → ⊥) → hop_told a s ≡ Refused e
      → LentTells (hopped a s) (record { state = 2; number = number e; status = status e }) (address_of no_address) 0
  pub hop_counts : (a : Asked) → hop_told a s ≡ Accepted → count_at (hopped a s) ≡ suc (count_at s)
  pub hop_keeps : (a : Asked) → hop_told a s ≡ Accepted → LentTells (hopped a s) (record { state = 0; number = 0; status = 0 }) (address_of no_address) (attempts_at s)
  pub hop_unmarked : (a : Asked) → hop_told a s ≡ Accepted → started_at (hopped a s) ≡ false
  -- an opening: 16 and 22 as well, then 21 for none, and for more than eight, which only forged bytes have
  pub open_number : Answers (lent_open s out).answer ((((outcome_at s).state ≡ 0 → ⊥) ↣ 16) ∷ ((started_at s ≡ true) ↣ 22) ∷ ((count_at s ≡ 0) ↣ 21) ∷ ((8 < count_at s) ↣ 21) ∷ [])
  -- out of turn it uses and sends nothing, and leaves every lent byte and the output; of none the route has then failed, and nothing else comes of it
  pub open_untouched : Late s → lent_open s out ≡ record { answer = (lent_open s out).answer; session = s; used = 0; sent = 0; output = out }
  pub open_none : (lent_open s out).answer ≡ 21 → lent_open s out ≡ record { answer = 21; session = state_of (empty_route RouteLength); used = 0; sent = 0; output = out }
  pub open_used : (lent_open s out).used ≡ 0
  -- accepted, it marks the route opened, which waits
  pub open_marks : (lent_open s out).answer ≡ 0 → started_at (lent_open s out).session ≡ true
  pub open_waits : (lent_open s out).answer ≡ 0 → LentTells (lent_open s out).session (record { state = 0; number = 0; status = 0 }) (address_of no_address) 0
  -- a delivery and an end: 16 unless it waits, then 22 before it is opened; refused they leave all as it was
  pub deliver_number : (piece : List ℕ) → Answers (lent_deliver s piece out).answer ((((outcome_at s).state ≡ 0 → ⊥) ↣ 16) ∷ ((started_at s ≡ false) ↣ 22) ∷ [])
  pub end_number : Answers (lent_end s).answer ((((outcome_at s).state ≡ 0 → ⊥) ↣ 16) ∷ ((started_at s ≡ false) ↣ 22) ∷ [])
  pub deliver_untouched : (piece : List ℕ) → Untouched (lent_deliver s piece out) s out
  pub end_untouched : Untouched (lent_end s) s []
  -- an end uses and sends nothing, and accepted it fails the route with 9
  pub end_used : (lent_end s).used ≡ 0
  pub end_sent : (lent_end s).sent ≡ 0
  pub end_fails : (lent_end s).answer ≡ 0 → LentTells (lent_end s).session (record { state = 2; number = 9; status = 0 }) (address_of no_address) (attempts_at s)
  -- the bytes behind what is sent are as they were
  pub open_behind : Behind (lent_open s out) out
  pub deliver_behind : (piece : List ℕ) → Behind (lent_deliver s piece out) out
  -- a text of a route that is not open is refused with 17, and of one that is with 18, which the exported call does not meet; nothing behind a text is touched
  pub text_number : (buffer : List ℕ)
      → Answers (answer_number (write_bound (session_at s) buffer).answer) ((((outcome_at s).state ≡ 1 → ⊥) ↣ 17) ∷ ((length buffer < length (bound_text (bound (session_at s)))) ↣ 18) ∷ [])
  pub text_behind : (buffer : List ℕ) → drop (write_bound (session_at s) buffer).len (write_bound (session_at s) buffer).buffer ≡ drop (write_bound (session_at s) buffer).len buffer

-- of any bytes as many as a route has
abbrev pub RouteTurns : Type 0
RouteTurns = (s : List ℕ) → Bytes s → length s ≡ 8538 → (out : List ℕ) → length out ≡ 8192 → RouteInTurn s out

-- all zeros
abbrev pub zeros : List ℕ
zeros = replicate 8538 0

-- it refuses everything
pub record RouteZeros : Type 0 where
  pub stands : outcome_at zeros ≡ record { state = 2; number = 16; status = 0 }
  pub hop : (a : Asked) → answer_number (hop_told a zeros) ≡ 16
  pub opens : (out : List ℕ) → (lent_open zeros out).answer ≡ 16
  pub deliver : (piece out : List ℕ) → (lent_deliver zeros piece out).answer ≡ 16
  pub end : (lent_end zeros).answer ≡ 16
  pub text : (buffer : List ℕ) → answer_number (write_bound (session_at zeros) buffer).answer ≡ 17
