-- F-12 in handy forms, not to be believed: the stream that leads to an outcome and status, or none; what code computes.
use Rattle.std.specs.Prelude.{ℕ, zero, suc, Bool, cond, ◌&&◌, List, [], ◌∷◌, ◌++◌, leb, eqb}
use Rattle.std.specs.Prelude.{Option, None, Some}
use Rattle.protocol.specs.Opening.{Opening, v5, v4, no_auth, user_pass}
use Rattle.endings_spec.specs.declared.Kind.{Kind}
use Rattle.endings_spec.specs.declared.Kind.TheVariants.{WithoutCredentials, WithCredentials, OverV4}
use Rattle.endings_spec.specs.declared.OutcomeStatus.{OutcomeStatus}

-- ---- an opening matters only by its kind

abbrev pub kind_of : Opening → Kind
kind_of (v5 no_auth d port o) = WithoutCredentials
kind_of (v5 (user_pass u p) d port o) = WithCredentials
kind_of (v4 d port) = OverV4

-- ---- its streams

-- the shortest whole connect reply, by its REP: a name of one byte; and a v4 reply, by its CD
abbrev pub connect_reply : ℕ → List ℕ
connect_reply rep = 0x05 ∷ rep ∷ 0x00 ∷ 0x03 ∷ 0x01 ∷ 0x00 ∷ 0x00 ∷ 0x00 ∷ []

abbrev pub v4_reply : ℕ → List ℕ
v4_reply cd = 0x00 ∷ cd ∷ 0x00 ∷ 0x00 ∷ 0x00 ∷ 0x00 ∷ 0x00 ∷ 0x00 ∷ []

-- nothing, for end of stream; and the first of the malformed replies of two bytes
abbrev pub no_reply : List ℕ
no_reply = []

abbrev pub malformed_reply : List ℕ
malformed_reply = 0x00 ∷ 0x00 ∷ []

-- to open
abbrev pub open_stream : Kind → List ℕ
open_stream WithoutCredentials = 0x05 ∷ 0x00 ∷ connect_reply 0x00
open_stream WithCredentials = 0x05 ∷ 0x02 ∷ 0x01 ∷ 0x00 ∷ connect_reply 0x00
open_stream OverV4 = v4_reply 0x5A

-- what is wanted is this number, with a status from lo to hi
abbrev pub is_of : OutcomeStatus → ℕ → ℕ → ℕ → Bool
is_of w number lo hi = eqb w.number number && (leb lo w.status && leb w.status hi)

abbrev pub if : Bool → List ℕ → Option (List ℕ) → Option (List ℕ)
if b bs later = cond b (Some bs) later

unfoldable pub stream_of : Kind → OutcomeStatus → Option (List ℕ)
stream_of WithoutCredentials w =
    if (is_of w 9 0 0) no_reply
    (if (is_of w 10 0 0) malformed_reply
    (if (is_of w 12 0 0) (0x05 ∷ 0xFF ∷ [])
    (if (is_of w 13 0 0) (0x05 ∷ 0x02 ∷ [])
    (if (is_of w 15 1 8) (0x05 ∷ 0x00 ∷ connect_reply w.status)
    (if (is_of w 0 0 0) (open_stream WithoutCredentials) None)))))
stream_of WithCredentials w =
    if (is_of w 9 0 0) no_reply
    (if (is_of w 10 0 0) malformed_reply
    (if (is_of w 12 0 0) (0x05 ∷ 0xFF ∷ [])
    (if (is_of w 13 0 0) (0x05 ∷ 0x00 ∷ [])
    (if (is_of w 14 0 0) (0x05 ∷ 0x02 ∷ 0x01 ∷ 0x01 ∷ [])
    (if (is_of w 15 1 8) (0x05 ∷ 0x02 ∷ 0x01 ∷ 0x00 ∷ connect_reply w.status)
    (if (is_of w 0 0 0) (open_stream WithCredentials) None))))))
stream_of OverV4 w =
    if (is_of w 9 0 0) no_reply
    (if (is_of w 10 0 0) (v4_reply 0x00)
    (if (is_of w 15 91 93) (v4_reply w.status)
    (if (is_of w 0 0 0) (open_stream OverV4) None)))

abbrev pub stream_for : Opening → OutcomeStatus → Option (List ℕ)
stream_for o w = stream_of (kind_of o) w

-- ---- a route's, at a proxy counted from 1

-- only the last can be the one that is open
abbrev pub last_for : Opening → List Opening → OutcomeStatus → Option (List ℕ)
last_for o [] w = stream_for o w
last_for o (p ∷ ps) w = cond (eqb w.number 0) None (stream_for o w)

abbrev pub joined : List ℕ → Option (List ℕ) → Option (List ℕ)
joined a None = None
joined a (Some b) = Some (a ++ b)

-- those before it open; none is 0 or past the last. By the definitions a route of no proxy is open, at 0
unfoldable pub stream_at : List Opening → ℕ → OutcomeStatus → Option (List ℕ)
stream_at [] zero w = if (is_of w 0 0 0) [] None
stream_at [] (suc n) w = None
stream_at (o ∷ os) zero w = None
stream_at (o ∷ os) (suc zero) w = last_for o os w
stream_at (o ∷ os) (suc (suc n)) w = joined (open_stream (kind_of o)) (stream_at os (suc n) w)
