-- What an opening of a route in lent bytes comes to, by what the functions below it say.
use Prim.Native.Nat.{ℕ, ◌+◌, ◌-◌, ◌*◌, ◌≤◌, ◌<◌}
use native.Mathlib.Omega.{arith}
use mathlib.Core.Path.{◌≡◌, refl, sym, ap, subst, ◌∙◌}
use mathlib.Core.Bool.{Bool, true, false, cond, ◌||◌}
use mathlib.Core.List.{List, [], ◌∷◌, ◌++◌, append-nil}
use lib.ListN.{length, take, drop, replicate, length-drop, length-replicate}
use lib.Dec.{eqb, ltb}
use borrow.Author.Tests.{eq-eqb, ne_eqb, lt-ltb, le-ltb}
use Rattle.protocol.specs.declared.Outcome.TheVariants.{Waiting}
use Rattle.protocol.specs.declared.SocksError.{SocksError}
use Rattle.protocol.specs.declared.SocksError.TheVariants.{RouteLength, Settled, OutOfOrder}
use Rattle.protocol.specs.Numbers.{number}
use Rattle.protocol.specs.Bound.{unbound, bound_of}
use Rattle.buffers.specs.write.Written.{Wrote}
use Rattle.buffers.proofs.write.Parts.{part_from}
use Rattle.client_stages.specs.declared.due.Stage.TheVariants.{Awaiting}
use Rattle.client_session.specs.declared.Session.{Session}
use Rattle.client_session.specs.Session as session
use Rattle.client_session.specs.Calls as session-calls
use Rattle.lent_numbers.specs.declared.told.RawStep.{RawStep}
use Rattle.lent_numbers.specs.told.Told.{outcome_of}
use Rattle.lent_numbers.specs.bytes.Numbers.{digits}
use Rattle.lent_session.specs.State as sessions
use Rattle.lent_session.specs.State.{session_at}
use Rattle.lent_session.specs.Fits.{Fits}
use Rattle.lent_session.specs.Calls as session-steps
use Rattle.route_delivery.specs.declared.Hop.{Hop}
use Rattle.route_delivery.specs.declared.Spot.{Spot}
use Rattle.route_delivery.specs.Relay.{no_hop, hop_at, goes_at, fresh_spot, begun_spot}
use Rattle.route_session.specs.calls.Calls.{Call, refusal, last_in, empty_route, begun_with, begins}
use Rattle.route_session.proofs.calls.Laws.{written}
use Rattle.lent_route.specs.State.{Phase, preparing, opened, over, phase_at, hops_in, bytes_in, count_at, route_at, slots_of, kept_of, counts_of, spoken_at, state_of}
use Rattle.lent_route.specs.Calls.{step_by, Untimely, open_call, open_left, Opens, OpensIn}
use Rattle.lent_route.proofs.Writing.{keeping, head_of, head_row, head_long}
use Rattle.lent_route.proofs.Prefix.{prefix}
use Rattle.lent_route.proofs.Prepared.{hold_zeros}
use Rattle.lent_route.proofs.Lists.{zeros_row}
use Rattle.lent_route.proofs.Slots.{EachSlotted}
use Rattle.lent_route.proofs.Kept.{hops_read, bytes_read}
use Rattle.lent_route.proofs.Together.{failed, failed_back}
use Rattle.lent_route.proofs.Reading.{means_route, goes_first}

-- ---- out of turn

pub untimely_as : (e : SocksError) (s out : List ℕ) → length s ≡ 8538 → {r : RawStep} → r ≡ session-steps.step_by (session-calls.refusal e (session_at (take 1306 s)) []) → Untimely e s out r s out
untimely_as e s out l q =
    record {
      returned = q ∙ ap (λ (x : Session). record { used = 0; sent = 0; answer = number e; outcome = outcome_of (session.outcome x) }) (prefix s (omega (arith, l)));
      left = refl;
      output = refl;
    }

module _ (s out : List ℕ) {r : RawStep} {s' out' : List ℕ} where
  pub opens_over : phase_at s ≡ over → Untimely Settled s out r s' out' → OpensIn (phase_at s) s out r s' out'
  opens_over p u = subst (λ (x : Phase). OpensIn x s out r s' out') (sym p) u

  pub opens_again : phase_at s ≡ opened → Untimely OutOfOrder s out r s' out' → OpensIn (phase_at s) s out r s' out'
  opens_again p u = subst (λ (x : Phase). OpensIn x s out r s' out') (sym p) u

  pub opens_in_turn : phase_at s ≡ preparing → Opens s out r s' out' → OpensIn (phase_at s) s out r s' out'
  opens_in_turn p u = subst (λ (x : Phase). OpensIn x s out r s' out') (sym p) u

-- ---- of none

either_of : (n : ℕ) → (b : Bool) → eqb n 0 ≡ b → (c : Bool) → ltb 8 n ≡ c → (b || c) ≡ true → (eqb n 0 || ltb 8 n) ≡ true
either_of n b x c y q = (λ i. x i || y i) ∙ q

pub none_of : (n : ℕ) → n ≡ 0 → (eqb n 0 || ltb 8 n) ≡ true
none_of n z = either_of n true (eq-eqb n 0 z) (ltb 8 n) refl refl

pub many_of : (n : ℕ) → (n ≡ 0 → ⊥) → 8 < n → (eqb n 0 || ltb 8 n) ≡ true
many_of n z h = either_of n false (ne_eqb n 0 z) true (lt-ltb 8 n h) refl

-- no slot is in use: the last is that of a proxy that keeps nothing
blank_kept : kept_of 0 [] [] ≡ kept_of 1 (no_hop ∷ []) (replicate 1024 0)
unfolding slots_of digits
blank_kept =
    λ i. (append-nil (replicate {A = ℕ} 64 0) ∙ zeros_row 56 8 64 refl ∙ ap (λ (t : List ℕ). replicate 56 0 ++ t) (sym (append-nil (replicate {A = ℕ} 8 0)))) i
    ++ (append-nil (replicate {A = ℕ} 8192 0) ∙ zeros_row 7168 1024 8192 refl) i

module _ (e : SocksError) where
  failed_row : state_of (empty_route e) ≡ head_of (failed e) ++ kept_of 1 (no_hop ∷ []) (replicate 1024 0)
  failed_row = head_row (failed e) ∙ ap (λ (t : List ℕ). head_of (failed e) ++ t) blank_kept

  none_slotted : EachSlotted (no_hop ∷ [])
  none_slotted = (record { first = omega arith; authentication = omega arith; proxy = omega arith }, tt)

  no_hops : hops_in (state_of (empty_route e)) (last_in 0) ≡ replicate 8 no_hop
  no_hops =
      ap (λ (t : List ℕ). hops_in t (last_in 0)) failed_row
      ∙ hops_read (head_of (failed e)) (no_hop ∷ []) (replicate 1024 0) 1 (head_long (failed e) hold_zeros) (omega arith) refl (omega arith) none_slotted

  no_bytes : bytes_in (state_of (empty_route e)) (last_in 0) ≡ replicate 8192 0
  no_bytes =
      ap (λ (t : List ℕ). bytes_in t (last_in 0)) failed_row
      ∙ bytes_read (head_of (failed e)) (no_hop ∷ []) (replicate 1024 0) 1 (head_long (failed e) hold_zeros) (omega arith) refl (omega arith) none_slotted
      ∙ sym (zeros_row 1024 7168 8192 refl)

  failed_means : route_at (state_of (empty_route e)) ≡ empty_route e
  failed_means =
      let q = failed_back e in
      let s = state_of (empty_route e) in
      (λ i. record {
        stage = (q i).stage;
        held = (q i).held;
        hold = (q i).hold;
        bound = (q i).bound;
        attempts = (q i).attempts;
        count = (q i).requests.lengths.first;
        behind = (q i).requests.lengths.authentication;
        hops = hops_in s (last_in (q i).requests.lengths.first);
        bytes = bytes_in s (last_in (q i).requests.lengths.first);
      })
      ∙ (λ i. record {
        stage = (empty_route e).stage;
        held = 0;
        hold = replicate 261 0;
        bound = bound_of unbound;
        attempts = 0;
        count = 0;
        behind = 0;
        hops = no_hops i;
        bytes = no_bytes i;
      })

module _ (s out : List ℕ) {n : ℕ} (q : n ≡ count_at s) where
  is_none : (eqb n 0 || ltb 8 n) ≡ true → open_call s out ≡ refusal RouteLength (empty_route RouteLength) out
  unfolding open_call
  is_none t = rw (sym (ap (λ (k : ℕ). eqb k 0 || ltb 8 k) q) ∙ t)

  pub opens_none : (eqb n 0 || ltb 8 n) ≡ true → {r : RawStep} {s' : List ℕ} → (r ≡ step_by (refusal RouteLength (empty_route RouteLength) [])) × (s' ≡ state_of (empty_route RouteLength)) → Opens s out r s' out
  opens_none t {r} {s'} (x, y) =
      let is = is_none t in
      record {
        returned = x ∙ ap step_by (sym is);
        left = y ∙ ap (λ (c : Call). open_left c.answer c.session s) (sym is);
        means = ap route_at y ∙ failed_means RouteLength ∙ ap (λ (c : Call). c.session) (sym is);
        output = ap (λ (c : Call). c.output) (sym is);
      }

-- ---- the first proxy is begun

module _ (s out : List ℕ) (l : length s ≡ 8538) {n : ℕ} (q : n ≡ count_at s) (some : 1 ≤ n) (few : n ≤ 8) where
  abbrev hops : List Hop
  hops = hops_in s (last_in n)

  abbrev bytes : List ℕ
  bytes = bytes_in s (last_in n)

  abbrev opening : Call
  opening = begins (begun_with hops bytes n) (goes_at hops bytes (n - 1)) out

  is_opening : open_call s out ≡ opening
  unfolding open_call
  is_opening =
      (λ i. cond (eqb (sym q i) 0 || ltb 8 (sym q i)) (refusal RouteLength (empty_route RouteLength) out)
      (begins (begun_with (hops_in s (last_in (sym q i))) (bytes_in s (last_in (sym q i))) (sym q i)) (goes_at (hops_in s (last_in (sym q i))) (bytes_in s (last_in (sym q i))) (sym q i - 1)) out))
      ∙ rw (ne_eqb n 0 (λ z. omega arith), le-ltb 8 n few)

  last_is : last_in n ≡ n - 1
  last_is = omega arith

  abbrev from : ℕ
  from = 346 + 1024 * (8 - n)

  goes_same : {h : List Hop} → h ≡ hops_in s (n - 1) → {k : ℕ} → k ≡ n - 1 → goes_at h (take (length s - from) (drop from s)) k ≡ goes_at hops bytes (n - 1)
  goes_same {h} e f =
      let z : 346 + 1024 * (7 - last_in n) ≡ from = omega (arith, last_is) in
      let b : take (length s - from) (drop from s) ≡ drop (346 + 1024 * (7 - last_in n)) s = part_from s from ∙ ap (λ (j : ℕ). drop j s) (sym z) in
      (λ i. goes_at ((e ∙ ap (hops_in s) (sym last_is)) i) (b i) (f i))
      ∙ sym (goes_first hops (drop (346 + 1024 * (7 - last_in n)) s) (replicate (1024 * (7 - last_in n)) 0) (n - 1) (omega (arith, length-drop (346 + 1024 * (7 - last_in n)) s, l, last_is)))

  abbrev begun : Session
  begun =
      record {
        stage = Awaiting (hop_at hops (n - 1)).first;
        started = true;
        held = 0;
        hold = replicate 261 0;
        bound = bound_of unbound;
        attempts = 0;
        requests = record { lengths = counts_of n (n - 1); bytes = drop 282 s };
      }

  begun_fits : Fits (keeping begun (replicate 1024 0))
  begun_fits =
      record {
        attempts = omega arith;
        held = omega arith;
        first = omega arith;
        authentication = omega arith;
        proxy = omega arith;
        port = omega arith;
        hold = hold_zeros;
        bytes = length-replicate {A = ℕ} 1024 0;
      }

  pub opens_first : {h : List Hop} → h ≡ hops_in s (n - 1) → (p : Spot) → p ≡ begun_spot h (fresh_spot n) p.sent → {out' : List ℕ} → Wrote out 0 (goes_at h (take (length s - from) (drop from s)) p.behind) p.sent out'
      → {s' : List ℕ} → s' ≡ sessions.state_of (spoken_at p (counts_of n p.behind) (replicate 261 0) (drop 282 s)) → {r : RawStep} → r ≡ record { used = 0; sent = p.sent; answer = 0; outcome = outcome_of Waiting } → Opens s out r s' out'
  opens_first {h} e p b {out'} w {s'} sp k =
      let (m, o) = written w in
      let g = goes_same e (ap (λ (x : Spot). x.behind) b) in
      let b' : p ≡ begun_spot hops (fresh_spot n) p.sent = b ∙ ap (λ (x : List Hop). begun_spot x (fresh_spot n) p.sent) (e ∙ ap (hops_in s) (sym last_is)) in
      let left : s' ≡ sessions.state_of begun = sp ∙ ap (λ (x : Spot). sessions.state_of (spoken_at x (counts_of n x.behind) (replicate 261 0) (drop 282 s))) b' in
      record {
        returned = k ∙ (λ i. record { used = 0; sent = (m ∙ ap length g) i; answer = 0; outcome = outcome_of Waiting }) ∙ ap step_by (sym is_opening);
        left = left ∙ ap (λ (c : Call). open_left c.answer c.session s) (sym is_opening);
        means = ap route_at left ∙ means_route begun s (replicate 1024 0) begun_fits refl ∙ ap (λ (c : Call). c.session) (sym is_opening);
        output = o ∙ ap (λ (x : List ℕ). x ++ drop (length x) out) g ∙ ap (λ (c : Call). c.output) (sym is_opening);
      }
