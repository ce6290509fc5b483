-- What two routes keep of openings alike but for the bytes of user and password.
use Prim.Native.Nat.{ℕ, suc, ◌+◌, ◌-◌, ◌*◌, ◌≤◌, min}
use native.Mathlib.Nat.{add-zero, zero-add}
use native.Mathlib.Omega.{arith}
use mathlib.Core.Path.{◌≡◌, refl, ap, sym, ◌∙◌, subst}
use mathlib.Core.Logic.{inl, inr}
use mathlib.Core.Bool.{Bool, true, false, cond}
use mathlib.Core.List.{List, [], ◌∷◌, ◌++◌}
use lib.ListN.{length, length-append}
use Rattle.protocol.specs.declared.AuthMethod.TheVariants.{NoAuth, UserPass}
use Rattle.protocol.specs.AddressReading.{Destination}
use Rattle.protocol.specs.Requests.{negotiation_req, authentication_req, proxy_req}
use Rattle.protocol.specs.Opening.{Opening, v5, v4, no_auth, user_pass, first_reply, Limits}
use Rattle.client_stages.specs.declared.due.Lengths.{Lengths}
use Rattle.client_stages.specs.declared.due.Requests.{Requests}
use Rattle.client_stages.specs.due.Parts.{negotiation_size, authentication_size, proxy_size, negotiation_of, authentication_of, proxy_of, request_size, first_of}
use Rattle.client_session.specs.Calls.{kept_by}
use Rattle.route_delivery.specs.declared.Hop.{Hop}
use Rattle.route_delivery.specs.Relay.{hop_at, bytes_at}
use Rattle.route_session.specs.plan.Plan.{hop_for, hops_for, bytes_for}
use Rattle.route_spec.proofs.Rooms.{EachLimits}
use Rattle.route_session.proofs.opening.Kept.{kept_size, hop_at_lem, requests_at_lem, hops_row, bytes_row}
use Rattle.noninterference.specs.Places.{Agree}
use Rattle.noninterference.specs.Routes.{secret_of, request_bytes, stored_in}
use Rattle.noninterference.proofs.Bytes.{part_long, agree_all, agree_join}
use Rattle.noninterference.proofs.Talks.{Stands}
use Rattle.noninterference.proofs.Sessions.{first_agree, first_stands}
use Rattle.noninterference.proofs.Counts.{Left}
use Rattle.noninterference.proofs.Prepared.{all_agree, padded_agree}
use Rattle.noninterference.proofs.RouteRows.{agree_within, Holds, Stored}

-- the same, or with other credentials of the same lengths
pub data AlikeOpenings : Opening → Opening → Type 0 where
  equal : (o : Opening) → AlikeOpenings o o
  given : (u w u' w' : List ℕ) → length u ≡ length u' → length w ≡ length w' → (d : Destination) (port : ℕ) (o : Bool)
      → AlikeOpenings (v5 (user_pass u w) d port o) (v5 (user_pass u' w') d port o)

pub data OpeningRows : List Opening → List Opening → Type 0 where
  none : OpeningRows [] []
  more : {o p : Opening} {os ps : List Opening} → AlikeOpenings o p → OpeningRows os ps → OpeningRows (o ∷ os) (p ∷ ps)

-- ---- of one opening

pub lengths_alike : (o p : Opening) → AlikeOpenings o p → (kept_by o).lengths ≡ (kept_by p).lengths
unfolding authentication_req
lengths_alike _ _ (equal o) = refl
lengths_alike _ _ (given u w u' w' p q d port o) =
    let z : length (authentication_req u w) ≡ length (authentication_req u' w') = omega (arith, length-append u (length w ∷ w), length-append u' (length w' ∷ w'), p, q) in
    λ i. record { optimistic = o; first = length (negotiation_req UserPass); authentication = z i; proxy = length (proxy_req d port) }

pub first_alike : (o p : Opening) → AlikeOpenings o p → first_reply o ≡ first_reply p
first_alike _ _ (equal o) = refl
first_alike _ _ (given u w u' w' p q d port o) = refl

hop_alike : (o p : Opening) → AlikeOpenings o p → hop_for o ≡ hop_for p
hop_alike o p a = λ i. record { first = first_alike o p a i; lengths = lengths_alike o p a i }

bytes_alike : (o p : Opening) → AlikeOpenings o p → Agree (secret_of o) 0 (kept_by o).bytes (kept_by p).bytes
bytes_alike _ _ (equal o) = agree_all (secret_of o) 0 (kept_by o).bytes
bytes_alike _ _ (given u w u' w' p q d port o) = padded_agree (secret_of (v5 (user_pass u w) d port o)) 1024 _ _ (all_agree u w u' w' p q (proxy_req d port))

-- what goes first, and what is left then
module _ (l : Lengths) (bs : List ℕ) (long : 778 ≤ length bs) where
  abbrev one : Requests
  one = record { lengths = l; bytes = bs }

  first_count : (o : Bool) → length (cond o (negotiation_of one ++ (authentication_of one ++ proxy_of one)) (negotiation_of one)) + cond o 0 (authentication_size l + proxy_size l)
      ≡ negotiation_size l + (authentication_size l + proxy_size l)
  first_count true =
      omega (
        arith,
        length-append (negotiation_of one) (authentication_of one ++ proxy_of one),
        length-append (authentication_of one) (proxy_of one),
        part_long bs 0 (negotiation_size l) (omega arith),
        part_long bs (negotiation_size l) (authentication_size l) (omega arith),
        part_long bs (negotiation_size l + authentication_size l) (proxy_size l) (omega arith),
      )
  first_count false = ap (λ (k : ℕ). k + (authentication_size l + proxy_size l)) (part_long bs 0 (negotiation_size l) (omega arith))

start_stands : (o : Opening) → Stands (kept_by o).lengths (first_reply o) (negotiation_size (kept_by o).lengths)
start_stands (v5 no_auth d port o) f = sym (add-zero _)
start_stands (v5 (user_pass u p) d port o) f = refl
start_stands (v4 d port) f = tt

start_left : (o : Opening) → Limits o → Left (kept_by o).lengths (length (request_bytes o)) (first_reply o) (length (first_of (first_reply o) (kept_by o)))
start_left (v5 no_auth d port o) w =
    let q = kept_by (v5 no_auth d port o) in
    let a = negotiation_req NoAuth in
    let c = proxy_req d port in
    let z : min (length a) 3 + (0 + min (length c) 262) ≡ length (([] ++ a) ++ c) = omega (arith, length-append a c, w.0, w.1) in
    ap (λ (k : ℕ). length (first_of (first_reply (v5 no_auth d port o)) q) + cond o 0 k) (sym (zero-add (min (length c) 262)))
    ∙ first_count q.lengths q.bytes (omega (arith, kept_size (v5 no_auth d port o) w)) o ∙ z
start_left (v5 (user_pass u p) d port o) w =
    let q = kept_by (v5 (user_pass u p) d port o) in
    let a = negotiation_req UserPass in
    let b = authentication_req u p in
    let c = proxy_req d port in
    let z : min (length a) 3 + (min (length b) 513 + min (length c) 262) ≡ length ((([] ++ a) ++ b) ++ c) = omega (arith, length-append (a ++ b) c, length-append a b, w.0, w.1, w.2) in
    first_count q.lengths q.bytes (omega (arith, kept_size (v5 (user_pass u p) d port o) w)) o ∙ z
start_left (v4 d port) w =
    let q = kept_by (v4 d port) in
    part_long q.bytes 0 (request_size q.lengths) (omega (arith, kept_size (v4 d port) w)) ∙ omega (arith, w)

pub kept_holds : (o p : Opening) → AlikeOpenings o p → Limits o → Holds (kept_by o).lengths (first_reply o) (kept_by o).bytes (kept_by p).bytes o
kept_holds o p a w =
    let l = (kept_by o).lengths in
    let bs = (kept_by o).bytes in
    let cs = (kept_by p).bytes in
    let g = bytes_alike o p a in
    let long : 778 ≤ length bs = omega (arith, kept_size o w) in
    record {
      agree = g;
      long = long;
      first = first_agree (secret_of o) 0 cs l bs g long (first_reply o);
      stands = first_stands (secret_of o) 0 cs l bs g long (first_reply o) (start_stands o);
      left = start_left o w;
    }

-- ---- of all

pub long_alike : (os ps : List Opening) → OpeningRows os ps → length os ≡ length ps
long_alike _ _ none = refl
long_alike _ _ (more {os = os} {ps = ps} a r) = ap suc (long_alike os ps r)

pub hops_alike : (os ps : List Opening) → OpeningRows os ps → hops_for os ≡ hops_for ps
unfolding hops_for
hops_alike _ _ none = refl
hops_alike _ _ (more {o = o} {p = p} {os = os} {ps = ps} a r) = λ i. hops_alike os ps r i ++ (hop_alike o p a i ∷ [])

bytes_long : (os : List Opening) → EachLimits os → length (bytes_for os) ≡ 1024 * length os
unfolding bytes_for
bytes_long [] w = refl
bytes_long (o ∷ os) w = omega (arith, length-append (bytes_for os) (kept_by o).bytes, bytes_long os w.1, kept_size o w.0)

pub stored_alike : (os ps : List Opening) → OpeningRows os ps → EachLimits os → Agree (stored_in os) 0 (bytes_for os) (bytes_for ps)
unfolding bytes_for stored_in
stored_alike _ _ none w = agree_all (stored_in []) 0 []
stored_alike _ _ (more {o = o} {p = p} {os = os} {ps = ps} a r) w =
    let S = stored_in (o ∷ os) in
    let n = length (bytes_for os) in
    agree_join S 0 (bytes_for os) (bytes_for ps) (kept_by o).bytes (kept_by p).bytes
    (agree_within (stored_in os) S 0 0 (λ i s. inr s) (stored_alike os ps r w.1))
    (agree_within (secret_of o) S 0 (0 + n) (λ i s.
    let e : 0 + i ≡ 0 + n + i - 1024 * length os = omega (arith, bytes_long os w.1) in
    inl (omega (arith, bytes_long os w.1), subst (λ (k : ℕ). secret_of o k) e s)) (bytes_alike o p a))

pub all_stored : (os ps : List Opening) → OpeningRows os ps → EachLimits os → EachLimits ps → (hops : List Hop) (bs cs : List ℕ)
    → Stored (hops_for os ++ hops) (bytes_for os ++ bs) (bytes_for ps ++ cs) os
all_stored _ _ none w v hops bs cs = tt
all_stored _ _ (more {o = o} {p = p} {os = os} {ps = ps} a r) w v hops bs cs =
    let n = length os in
    let H = hops_for os ++ (hop_for o ∷ hops) in
    let B = bytes_for os ++ ((kept_by o).bytes ++ bs) in
    let C = bytes_for ps ++ ((kept_by p).bytes ++ cs) in
    let h : hop_at H n ≡ hop_for o = hop_at_lem o os w hops bs in
    let x : bytes_at B n ≡ (kept_by o).bytes = ap (λ (q : Requests). q.bytes) (requests_at_lem o os w hops bs) in
    let y : bytes_at C n ≡ (kept_by p).bytes = ap (λ (k : ℕ). bytes_at C k) (long_alike os ps r) ∙ ap (λ (q : Requests). q.bytes) (requests_at_lem p ps v hops cs) in
    let k : Holds (hop_at H n).lengths (hop_at H n).first (bytes_at B n) (bytes_at C n) o
    = subst (λ (j : Hop). Holds j.lengths j.first (bytes_at B n) (bytes_at C n) o) (sym h)
    (subst (λ (d : List ℕ). Holds (kept_by o).lengths (first_reply o) d (bytes_at C n) o) (sym x)
    (subst (λ (d : List ℕ). Holds (kept_by o).lengths (first_reply o) (kept_by o).bytes d o) (sym y) (kept_holds o p a w.0))) in
    let t : Stored H B C (o ∷ os) = (k, all_stored os ps r w.1 v.1 (hop_for o ∷ hops) ((kept_by o).bytes ++ bs) ((kept_by p).bytes ++ cs)) in
    subst (λ (d : List Hop). Stored d (bytes_for (o ∷ os) ++ bs) (bytes_for (p ∷ ps) ++ cs) (o ∷ os)) (sym (hops_row o os w hops bs))
    (subst (λ (d : List ℕ). Stored H d (bytes_for (p ∷ ps) ++ cs) (o ∷ os)) (sym (bytes_row o os w hops bs))
    (subst (λ (d : List ℕ). Stored H B d (o ∷ os)) (sym (bytes_row p ps v hops cs)) t))
