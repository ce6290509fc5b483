-- F-12, worked out: the endings of an opening of each kind, and of routes, each with its stream or with none.
use Prim.Native.Nat.{ℕ}
use mathlib.Core.Path.{◌≡◌, refl}
use mathlib.Core.Bool.{Bool, true, false}
use Rattle.std.specs.Prelude.{Option, None, Some}
use mathlib.Core.List.{List, [], ◌∷◌, ◌++◌, map}
use Rattle.protocol.specs.AddressReading.{domain}
use Rattle.protocol.specs.Requests.{name}
use Rattle.protocol.specs.Opening.{Opening, v5, v4, no_auth, user_pass}
use Rattle.protocol.specs.Examples.{text}
use Rattle.endings_spec.specs.declared.OutcomeStatus.{OutcomeStatus}
use Rattle.endings_spec.specs.Streams.{stream_of, stream_for, stream_at}

-- openings without and with credentials, optimistic or not, and over v4
abbrev plain : Bool → Opening
plain optimistic = v5 no_auth (domain (text "example.com")) 443 optimistic

abbrev signed : Bool → Opening
signed optimistic = v5 (user_pass (text "user") (text "password")) (domain (text "example.com")) 443 optimistic

abbrev four : Opening
four = v4 (name (text "example.com")) 443

pub data Case : Type 0 where
  of : Opening → OutcomeStatus → Option (List ℕ) → Case
  at : List Opening → ℕ → OutcomeStatus → Option (List ℕ) → Case

abbrev computed : Case → Case
computed (of o w r) = of o w (stream_for o w)
computed (at os proxy w r) = at os proxy w (stream_at os proxy w)

-- number and status
abbrev ◌·◌ : ℕ → ℕ → OutcomeStatus
◌·◌ n s = record { number = n; status = s }

infix 20 ◌·◌
abbrev plain_cases : Opening → List Case
plain_cases o =
    of o (0 · 0) (Some (0x05 ∷ 0x00 ∷ 0x05 ∷ 0x00 ∷ 0x00 ∷ 0x03 ∷ 0x01 ∷ 0x00 ∷ 0x00 ∷ 0x00 ∷ []))
    ∷ of o (9 · 0) (Some [])
    ∷ of o (10 · 0) (Some (0x00 ∷ 0x00 ∷ []))
    ∷ of o (12 · 0) (Some (0x05 ∷ 0xFF ∷ []))
    ∷ of o (13 · 0) (Some (0x05 ∷ 0x02 ∷ []))
    ∷ of o (14 · 0) None
    ∷ of o (15 · 0) None
    ∷ of o (15 · 1) (Some (0x05 ∷ 0x00 ∷ 0x05 ∷ 0x01 ∷ 0x00 ∷ 0x03 ∷ 0x01 ∷ 0x00 ∷ 0x00 ∷ 0x00 ∷ []))
    ∷ of o (15 · 8) (Some (0x05 ∷ 0x00 ∷ 0x05 ∷ 0x08 ∷ 0x00 ∷ 0x03 ∷ 0x01 ∷ 0x00 ∷ 0x00 ∷ 0x00 ∷ []))
    ∷ of o (15 · 9) None
    ∷ of o (15 · 91) None
    ∷ of o (0 · 1) None
    ∷ of o (9 · 1) None
    ∷ of o (10 · 1) None
    ∷ of o (11 · 0) None
    ∷ of o (16 · 0) None
    ∷ []

abbrev signed_cases : Opening → List Case
signed_cases o =
    of o (0 · 0) (Some (0x05 ∷ 0x02 ∷ 0x01 ∷ 0x00 ∷ 0x05 ∷ 0x00 ∷ 0x00 ∷ 0x03 ∷ 0x01 ∷ 0x00 ∷ 0x00 ∷ 0x00 ∷ []))
    ∷ of o (9 · 0) (Some [])
    ∷ of o (10 · 0) (Some (0x00 ∷ 0x00 ∷ []))
    ∷ of o (12 · 0) (Some (0x05 ∷ 0xFF ∷ []))
    ∷ of o (13 · 0) (Some (0x05 ∷ 0x00 ∷ []))
    ∷ of o (14 · 0) (Some (0x05 ∷ 0x02 ∷ 0x01 ∷ 0x01 ∷ []))
    ∷ of o (15 · 0) None
    ∷ of o (15 · 1) (Some (0x05 ∷ 0x02 ∷ 0x01 ∷ 0x00 ∷ 0x05 ∷ 0x01 ∷ 0x00 ∷ 0x03 ∷ 0x01 ∷ 0x00 ∷ 0x00 ∷ 0x00 ∷ []))
    ∷ of o (15 · 8) (Some (0x05 ∷ 0x02 ∷ 0x01 ∷ 0x00 ∷ 0x05 ∷ 0x08 ∷ 0x00 ∷ 0x03 ∷ 0x01 ∷ 0x00 ∷ 0x00 ∷ 0x00 ∷ []))
    ∷ of o (15 · 9) None
    ∷ of o (14 · 1) None
    ∷ of o (11 · 0) None
    ∷ of o (16 · 0) None
    ∷ []

abbrev four_cases : Opening → List Case
four_cases o =
    of o (0 · 0) (Some (0x00 ∷ 0x5A ∷ 0x00 ∷ 0x00 ∷ 0x00 ∷ 0x00 ∷ 0x00 ∷ 0x00 ∷ []))
    ∷ of o (9 · 0) (Some [])
    ∷ of o (10 · 0) (Some (0x00 ∷ 0x00 ∷ 0x00 ∷ 0x00 ∷ 0x00 ∷ 0x00 ∷ 0x00 ∷ 0x00 ∷ []))
    ∷ of o (12 · 0) None
    ∷ of o (13 · 0) None
    ∷ of o (14 · 0) None
    ∷ of o (15 · 1) None
    ∷ of o (15 · 90) None
    ∷ of o (15 · 91) (Some (0x00 ∷ 0x5B ∷ 0x00 ∷ 0x00 ∷ 0x00 ∷ 0x00 ∷ 0x00 ∷ 0x00 ∷ []))
    ∷ of o (15 · 93) (Some (0x00 ∷ 0x5D ∷ 0x00 ∷ 0x00 ∷ 0x00 ∷ 0x00 ∷ 0x00 ∷ 0x00 ∷ []))
    ∷ of o (15 · 94) None
    ∷ []

-- only the last proxy can be the one that is open; 9 has nothing behind the open streams
abbrev route_cases : List Case
route_cases =
    let two = plain false ∷ four ∷ [] in
    let three = four ∷ four ∷ signed true ∷ [] in
    at two 0 (0 · 0) None
    ∷ at two 1 (0 · 0) None
    ∷ at two 1 (9 · 0) (Some [])
    ∷ at two 1 (15 · 5) (Some (0x05 ∷ 0x00 ∷ 0x05 ∷ 0x05 ∷ 0x00 ∷ 0x03 ∷ 0x01 ∷ 0x00 ∷ 0x00 ∷ 0x00 ∷ []))
    ∷ at two 2 (0 · 0) (Some (0x05 ∷ 0x00 ∷ 0x05 ∷ 0x00 ∷ 0x00 ∷ 0x03 ∷ 0x01 ∷ 0x00 ∷ 0x00 ∷ 0x00 ∷ 0x00 ∷ 0x5A ∷ 0x00 ∷ 0x00 ∷ 0x00 ∷ 0x00 ∷ 0x00 ∷ 0x00 ∷ []))
    ∷ at two 2 (9 · 0) (Some (0x05 ∷ 0x00 ∷ 0x05 ∷ 0x00 ∷ 0x00 ∷ 0x03 ∷ 0x01 ∷ 0x00 ∷ 0x00 ∷ 0x00 ∷ []))
    ∷ at two 2 (12 · 0) None
    ∷ at two 3 (9 · 0) None
    ∷ at three 3 (14 · 0) (Some (0x00 ∷ 0x5A ∷ 0x00 ∷ 0x00 ∷ 0x00 ∷ 0x00 ∷ 0x00 ∷ 0x00 ∷ 0x00 ∷ 0x5A ∷ 0x00 ∷ 0x00 ∷ 0x00 ∷ 0x00 ∷ 0x00 ∷ 0x00 ∷ 0x05 ∷ 0x02 ∷ 0x01 ∷ 0x01 ∷ []))
    ∷ at three 2 (14 · 0) None
    ∷ at three 4 (0 · 0) None
    ∷ at (signed false ∷ []) 1 (0 · 0) (Some (0x05 ∷ 0x02 ∷ 0x01 ∷ 0x00 ∷ 0x05 ∷ 0x00 ∷ 0x00 ∷ 0x03 ∷ 0x01 ∷ 0x00 ∷ 0x00 ∷ 0x00 ∷ []))
    ∷ []

abbrev cases : List Case
cases = plain_cases (plain false) ++ plain_cases (plain true) ++ signed_cases (signed false) ++ signed_cases (signed true) ++ four_cases four ++ route_cases

pub endings : map computed cases ≡ cases
unfolding stream_of stream_at
endings = refl
