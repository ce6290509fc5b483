-- What the code begins with what was planned is the route that an opening returns.
use Prim.Native.Nat.{ℕ, suc, ◌-◌, ◌*◌, ◌<◌}
use native.Mathlib.Omega.{arith}
use mathlib.Core.Path.{◌≡◌, ap, sym, subst, ◌∙◌}
use mathlib.Core.List.{List, [], ◌∷◌, ◌++◌, map}
use lib.ListN.{length, drop, replicate, length-map}
use Rattle.protocol.specs.Answers as code
use Rattle.protocol.specs.declared.SocksError.{SocksError}
use Rattle.protocol.specs.Bound.{unbound, bound_of}
use Rattle.protocol.specs.Opening.{Opening, first_reply}
use Rattle.client_stages.specs.declared.due.Stage.TheVariants.{Awaiting}
use Rattle.client_stages.specs.due.Parts.{first_of}
use Rattle.client_session.specs.Calls.{kept_by}
use Rattle.route_delivery.specs.declared.Hop.{Hop}
use Rattle.route_delivery.specs.Relay.{no_hop, hop_at, requests_at, goes_at}
use Rattle.route_session.specs.plan.Plan.{hop_for, hops_for, bytes_for, PlanResult}
use Rattle.route_spec.specs.Route.{Proxy, Asked, asked_of, opening_for, check_in_turn}
use Rattle.route_spec.proofs.Asked.{asked_each}
use Rattle.route_spec.proofs.Checks.{refused_or}
use Rattle.route_spec.proofs.Rooms.{EachLimits, each_limits}
use Rattle.route_session.specs.declared.calls.Opened.{Opened}
use Rattle.route_session.specs.calls.Calls.{Call, refusal, empty_route, started_for, begun_with, begins, open_by, opened, OpenResult}
use Rattle.route_session.proofs.opening.Kept.{hops_row, bytes_row, hop_at_lem, requests_at_lem}

module _ (o : Opening) (os : List Opening) (w : EachLimits (o ∷ os)) where
  abbrev spare_hops : List Hop
  spare_hops = drop (suc (length os)) (replicate 8 no_hop)

  abbrev spare_bytes : List ℕ
  spare_bytes = drop (1024 * suc (length os)) (replicate 8192 0)

  hop_is : hop_at (hops_for (o ∷ os) ++ spare_hops) (length os) ≡ hop_for o
  hop_is = ap (λ (l : List Hop). hop_at l (length os)) (hops_row o os w spare_hops spare_bytes) ∙ hop_at_lem o os w spare_hops spare_bytes

  requests_are : requests_at (hops_for (o ∷ os) ++ spare_hops) (bytes_for (o ∷ os) ++ spare_bytes) (length os) ≡ kept_by o
  requests_are = (λ i. requests_at (hops_row o os w spare_hops spare_bytes i) (bytes_row o os w spare_hops spare_bytes i) (length os)) ∙ requests_at_lem o os w spare_hops spare_bytes

  pub begun_is : (out : List ℕ) {hops : List Hop} {bytes : List ℕ} {count : ℕ} → hops ≡ hops_for (o ∷ os) ++ spare_hops → bytes ≡ bytes_for (o ∷ os) ++ spare_bytes → count ≡ suc (length os)
      → begins (begun_with hops bytes count) (goes_at hops bytes (count - 1)) out ≡ begins (started_for o os) (first_of (first_reply o) (kept_by o)) out
  begun_is out {hops} {bytes} {count} h b k =
      let j : count - 1 ≡ length os = omega (arith, k) in
      (λ i. begins (record { stage = Awaiting (hop_at (h i) (j i)).first; held = 0; hold = replicate 261 0; bound = bound_of unbound; attempts = 0; count = k i; behind = j i; hops = h i; bytes = b i }) (goes_at (h i) (b i) (j i)) out)
      ∙ (λ i. begins (record { stage = Awaiting (hop_is i).first; held = 0; hold = replicate 261 0; bound = bound_of unbound; attempts = 0; count = suc (length os); behind = length os; hops = hops_for (o ∷ os) ++ spare_hops; bytes = bytes_for (o ∷ os) ++ spare_bytes }) (first_of (hop_is i).first (requests_are i)) out)

module _ (ps : List Proxy) (host : List ℕ) (port : code.Port) {count : ℕ} (n : length ps ≡ count) (some : 0 < count) (out : List ℕ) {r : code.Answer} {hops : List Hop} {bytes : List ℕ}
    (v : PlanResult (asked_of ps host port) (replicate 8 no_hop) (replicate 8192 0) r hops bytes) where
  abbrev asks : List Asked
  asks = asked_of ps host port

  pub opens_accepted : r ≡ code.Accepted → {x : Opened} {out' : List ℕ} → OpenResult (begins (begun_with hops bytes count) (goes_at hops bytes (count - 1)) out) x out'
      → OpenResult (open_by (check_in_turn asks) (map opening_for asks) out) x out'
  opens_accepted q {x} {out'} z =
      let t : check_in_turn asks ≡ code.Accepted = sym v.answered ∙ q in
      let k : length asks ≡ length (map opening_for asks) = sym (length-map asks opening_for) in
      let m : length (map opening_for asks) ≡ count = sym k ∙ asked_each ps host port ∙ n in
      subst (λ (y : code.Answer). OpenResult (open_by y (map opening_for asks) out) x out') (sym t)
      (go (map opening_for asks) m (each_limits ps host port ((refused_or asks).0 t))
      (v.hopped q ∙ ap (λ (l : ℕ). hops_for (map opening_for asks) ++ drop l (replicate 8 no_hop)) k)
      (v.filled q ∙ ap (λ (l : ℕ). bytes_for (map opening_for asks) ++ drop (1024 * l) (replicate 8192 0)) k))
    where
      go : (os : List Opening) → length os ≡ count → EachLimits os → hops ≡ hops_for os ++ drop (length os) (replicate 8 no_hop) → bytes ≡ bytes_for os ++ drop (1024 * length os) (replicate 8192 0)
          → OpenResult (open_by code.Accepted os out) x out'
      go [] m w h b = absurd (omega (arith, m))
      go (o ∷ os) m w h b = subst (λ (c : Call). OpenResult c x out') (begun_is o os w out h b (sym m)) z

  pub opens_not : {e : SocksError} → r ≡ code.Refused e → {x : Opened} → x ≡ record { answer = code.Refused e; sent = 0; route = empty_route e } → OpenResult (open_by (check_in_turn asks) (map opening_for asks) out) x out
  opens_not {e} q {x} z =
      let t : open_by (check_in_turn asks) (map opening_for asks) out ≡ refusal e (empty_route e) out = ap (λ (y : code.Answer). open_by y (map opening_for asks) out) (sym v.answered ∙ q) in
      record { returned = z ∙ ap opened (sym t); output = ap (λ (c : Call). c.output) (sym t); inside = rw z (omega arith) }
