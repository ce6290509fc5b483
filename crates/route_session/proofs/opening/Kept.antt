-- What is kept of openings in a row: each one's at the index that counts those behind it.
use Prim.Native.Nat.{ℕ, ◌+◌, ◌-◌, ◌*◌, ◌≤◌}
use native.Mathlib.Omega.{arith}
use mathlib.Core.Path.{◌≡◌, refl, ap, ◌∙◌}
use mathlib.Core.Bool.{Bool, false}
use mathlib.Core.List.{List, [], ◌∷◌, ◌++◌, append_assoc}
use lib.ListN.{length, take, replicate, length-append, length-replicate}
use lib.Seq.{take_at, drop_at, get_or_at}
use Rattle.protocol.specs.declared.AuthMethod.TheVariants.{NoAuth, UserPass}
use Rattle.protocol.specs.Requests.{negotiation_req, authentication_req, proxy_req, request}
use Rattle.protocol.specs.Opening.{Opening, v5, v4, no_auth, user_pass, Limits}
use Rattle.client_session.specs.Calls.{kept_with, kept_by}
use Rattle.route_delivery.specs.declared.Hop.{Hop}
use Rattle.route_delivery.specs.Relay.{hop_at, bytes_at, requests_at}
use Rattle.route_session.specs.plan.Plan.{hop_for, hops_for, bytes_for}
use Rattle.route_spec.proofs.Rooms.{EachLimits}

padded_size : (o : Bool) (q a p : List ℕ) → length q + (length a + length p) ≤ 1024 → length (kept_with o q a p).bytes ≡ 1024
padded_size o q a p h =
    let bs = q ++ (a ++ p) in
    omega (arith, length-append bs (replicate (1024 - length bs) 0), length-replicate {A = ℕ} (1024 - length bs) 0, length-append q (a ++ p), length-append a p)

pub kept_size : (o : Opening) → Limits o → length (kept_by o).bytes ≡ 1024
kept_size (v5 no_auth d port o) l = padded_size o (negotiation_req NoAuth) [] (proxy_req d port) (omega (arith, l.0, l.1))
kept_size (v5 (user_pass u p) d port o) l = padded_size o (negotiation_req UserPass) (authentication_req u p) (proxy_req d port) (omega (arith, l.0, l.1, l.2))
kept_size (v4 d port) l = padded_size false (request d port) [] [] (omega (arith, l))

pub hops_size : (os : List Opening) → length (hops_for os) ≡ length os
unfolding hops_for
hops_size [] = refl
hops_size (o ∷ os) = omega (arith, length-append (hops_for os) (hop_for o ∷ []), hops_size os)

pub bytes_size : (os : List Opening) → EachLimits os → length (bytes_for os) ≡ 1024 * length os
unfolding bytes_for
bytes_size [] w = refl
bytes_size (o ∷ os) w = omega (arith, length-append (bytes_for os) (kept_by o).bytes, bytes_size os w.1, kept_size o w.0)

module _ (o : Opening) (os : List Opening) (w : EachLimits (o ∷ os)) (hops : List Hop) (bytes : List ℕ) where
  abbrev all_hops : List Hop
  all_hops = hops_for os ++ (hop_for o ∷ hops)

  abbrev all_bytes : List ℕ
  all_bytes = bytes_for os ++ ((kept_by o).bytes ++ bytes)

  pub hop_at_lem : hop_at all_hops (length os) ≡ hop_for o
  hop_at_lem = get_or_at (hops_for os) (hop_for o) hops _ (length os) (hops_size os)

  bytes_at_lem : bytes_at all_bytes (length os) ≡ (kept_by o).bytes
  bytes_at_lem = ap (take 1024) (drop_at (bytes_for os) ((kept_by o).bytes ++ bytes) (1024 * length os) (bytes_size os w.1)) ∙ take_at (kept_by o).bytes bytes 1024 (kept_size o w.0)

  pub requests_at_lem : requests_at all_hops all_bytes (length os) ≡ kept_by o
  requests_at_lem = λ i. record { lengths = (hop_at_lem i).lengths; bytes = bytes_at_lem i }

  -- one list behind the other
  pub hops_row : hops_for (o ∷ os) ++ hops ≡ all_hops
  unfolding hops_for
  hops_row = append_assoc (hops_for os) (hop_for o ∷ []) hops

  pub bytes_row : bytes_for (o ∷ os) ++ bytes ≡ all_bytes
  unfolding bytes_for
  bytes_row = append_assoc (bytes_for os) (kept_by o).bytes bytes
