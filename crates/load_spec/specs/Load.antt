-- F-13, the load: what is drawn for each handshake, its opening, its replies and their pieces, in the request's order.
use Rattle.std.specs.Prelude.{ℕ, suc, ◌+◌, ◌*◌, ◌/◌, ◌%◌, ◌^◌, ◌≤◌, ◌<◌, ◌≡◌, Bool, true, false, List, [], ◌∷◌, length, take, drop, replicate, eqb}
use Rattle.protocol.specs.Answers.{Given}
use Rattle.protocol.specs.Opening.{V5, V4, Opening, opening5, opening4}
use Rattle.endings_spec.specs.declared.OutcomeStatus.{OutcomeStatus}
use Rattle.endings_spec.specs.Endings.{Leads, Wanted}

-- ---- a draw replaces the state and yields its top 16 bits

abbrev pub next_state : ℕ → ℕ
next_state s = (s * 1664525 + 1013904223) % 2 ^ 32

abbrev pub drawn : ℕ → ℕ
drawn s = next_state s / 2 ^ 16

-- ---- a handshake

pub record Handshake : Type 0 where
  pub v5 : Bool
  pub credentials : Bool
  pub name : ℕ
  pub replies : List ℕ
  pub pieces : List (List ℕ)

-- name, user and password are all 61, the last two one byte each; port 443; neither optimistic nor local lookup
abbrev pub arguments5 : Bool → ℕ → V5
arguments5 credentials name =
    record {
      config = record { proxy_auth = credentials; local_dns = false; optimistic = false };
      host = replicate name 0x61;
      port = Given 443;
      user = 0x61 ∷ [];
      password = 0x61 ∷ [];
      records = [];
    }

abbrev pub arguments4 : ℕ → V4
arguments4 name = record { local_dns = false; host = replicate name 0x61; port = Given 443; records = [] }

-- credentials are unused over v4
abbrev pub opening_of : Bool → Bool → ℕ → Opening
opening_of true credentials name = opening5 (arguments5 credentials name)
opening_of false credentials name = opening4 (arguments4 name)

-- F-12's ending of a session that opens
abbrev pub opens : OutcomeStatus
opens = record { number = 0; status = 0 }

-- ---- the pieces: one draw for each, until nothing is left; the last takes what is left

abbrev pub piece_length : ℕ → ℕ
piece_length s = 1 + drawn s % 40

-- from a state, the pieces of some bytes, and the state behind them
pub data Cut : ℕ → List ℕ → List (List ℕ) → ℕ → Type 0 where
  none : {s : ℕ} → Cut s [] [] s
  last : {s : ℕ} {bs : List ℕ} → 1 ≤ length bs → length bs ≤ piece_length s → Cut s bs (bs ∷ []) (next_state s)
  more : {s s' : ℕ} {bs : List ℕ} {ps : List (List ℕ)} → piece_length s < length bs → Cut (next_state s) (drop (piece_length s) bs) ps s'
      → Cut s bs (take (piece_length s) bs ∷ ps) s'

-- byte by byte, which draws nothing
unfoldable pub bytewise : List ℕ → List (List ℕ)
bytewise [] = []
bytewise (b ∷ bs) = (b ∷ []) ∷ bytewise bs

-- ---- a handshake drawn from a state: the version, 0 is v5; credentials, 0 is without; the name's length; its replies, F-12's for open; their pieces

abbrev pub after_choice : ℕ → ℕ
after_choice s = next_state (next_state (next_state s))

pub record Chosen (s : ℕ) (h : Handshake) : Type 0 where
  pub version : h.v5 ≡ eqb (drawn s % 2) 0
  pub credentials : h.credentials ≡ eqb (drawn (next_state s) % 2) 1
  pub name : h.name ≡ 1 + drawn (next_state (next_state s)) % 200
  pub replies : Wanted (Leads (opening_of h.v5 h.credentials h.name) opens) h.replies

-- with the state behind it
abbrev pub Drawn : ℕ → Handshake → ℕ → Type 0
Drawn s h s' = Chosen s h × Cut (after_choice s) h.replies h.pieces s'

abbrev pub DrawnBytewise : ℕ → Handshake → ℕ → Type 0
DrawnBytewise s h s' = Chosen s h × (h.pieces ≡ bytewise h.replies) × (s' ≡ after_choice s)

-- ---- the load of so many handshakes from a seed: the state carries on

pub data Load (One : ℕ → Handshake → ℕ → Type 0) : ℕ → ℕ → List Handshake → ℕ → Type 0 where
  done : {s : ℕ} → Load One s 0 [] s
  next : {s s' s'' n : ℕ} {h : Handshake} {hs : List Handshake} → One s h s' → Load One s' n hs s'' → Load One s (suc n) (h ∷ hs) s''
