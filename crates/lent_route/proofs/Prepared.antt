-- Hops one behind the other: what each leaves of a route that is being prepared.
use Prim.Native.Nat.{ℕ, suc, ◌+◌, ◌-◌, ◌*◌, ◌≤◌, ◌<◌}
use native.Mathlib.Omega.{arith}
use mathlib.Core.Path.{◌≡◌, refl, sym, ap, ◌∙◌}
use mathlib.Core.Bool.{false}
use mathlib.Core.List.{List, [], ◌∷◌, ◌++◌, append_assoc, append-nil}
use lib.ListN.{length, replicate, length-append, length-replicate}
use lib.Dec.{leb}
use Rattle.protocol.specs.declared.AuthMethod.TheVariants.{NoAuth}
use Rattle.protocol.specs.declared.Reply.TheVariants.{NegotiationRes}
use Rattle.protocol.specs.Answers as code
use Rattle.protocol.specs.declared.SocksError.TheVariants.{RouteLength}
use Rattle.protocol.specs.Bound.{unbound, bound_of}
use Rattle.protocol.specs.Opening.{Opening, v5, v4, no_auth, user_pass, Limits, refuse}
use Rattle.buffers.specs.write.Written.{overwrite}
use Rattle.client_stages.specs.declared.due.Stage.TheVariants.{Awaiting}
use Rattle.client_session.specs.declared.Session.{Session}
use Rattle.client_session.specs.Calls.{kept_by}
use Rattle.lent_numbers.specs.bytes.Numbers.{digits}
use Rattle.lent_session.specs.State.{session_at}
use Rattle.lent_session.specs.Fits.{Fits}
use Rattle.route_delivery.specs.declared.Hop.{Hop}
use Rattle.route_spec.specs.Route.{Asked, opening_for, check_for}
use Rattle.route_spec.proofs.Rooms.{EachLimits}
use Rattle.route_session.specs.plan.Plan.{hop_for, hops_for, bytes_for}
use Rattle.route_session.proofs.opening.Kept.{hops_size}
use Rattle.lent_route.specs.State.{preparing, phase_by, phase_at, count_at, slot_of, kept_of, counts_of, preparing_with, preparing_of}
use Rattle.lent_route.specs.Calls.{hop_answer, with_hop, hop_left, hop_told, hopped}
use Rattle.lent_route.proofs.Writing.{keeping, head_of, head_row, head_long, read_back}
use Rattle.lent_route.proofs.Slots.{Slotted, EachSlotted}
use Rattle.lent_route.proofs.Kept.{kept_more}

-- ---- what openings keep fits a slot

pub slotted : (o : Opening) → Limits o → Slotted (hop_for o)
slotted (v5 no_auth d port o) l = record { first = omega (arith, l.0); authentication = omega arith; proxy = omega (arith, l.1) }
slotted (v5 (user_pass u p) d port o) l = record { first = omega (arith, l.0); authentication = omega (arith, l.1); proxy = omega (arith, l.2) }
slotted (v4 d port) l = record { first = omega (arith, l); authentication = omega arith; proxy = omega arith }

each_more : (hs : List Hop) (h : Hop) → EachSlotted hs → Slotted h → EachSlotted (hs ++ (h ∷ []))
each_more [] h f g = (g, tt)
each_more (k ∷ hs) h (f, r) g = (f, each_more hs h r g)

pub each_slotted : (os : List Opening) → EachLimits os → EachSlotted (hops_for os)
unfolding hops_for
each_slotted [] w = tt
each_slotted (o ∷ os) (l, w) = each_more (hops_for os) (hop_for o) (each_slotted os w) (slotted o l)

-- ---- one opening more

pub hops_more : (os : List Opening) (o : Opening) → hops_for (os ++ (o ∷ [])) ≡ hop_for o ∷ hops_for os
unfolding hops_for
hops_more [] o = refl
hops_more (p ∷ os) o = ap (λ (l : List Hop). l ++ (hop_for p ∷ [])) (hops_more os o)

pub bytes_more : (os : List Opening) (o : Opening) → bytes_for (os ++ (o ∷ [])) ≡ (kept_by o).bytes ++ bytes_for os
unfolding bytes_for
bytes_more [] o = sym (append-nil (kept_by o).bytes)
bytes_more (p ∷ os) o = ap (λ (l : List ℕ). l ++ (kept_by p).bytes) (bytes_more os o) ∙ append_assoc (kept_by o).bytes (bytes_for os) (kept_by p).bytes

-- ---- a route that is being prepared is read back

abbrev pub session_of : ℕ → List ℕ → Session
session_of count kept =
    record {
      stage = Awaiting (NegotiationRes NoAuth);
      started = false;
      held = 0;
      hold = replicate 261 0;
      bound = bound_of unbound;
      attempts = 0;
      requests = record { lengths = counts_of count 0; bytes = kept };
    }

pub hold_zeros : length (replicate {A = ℕ} 261 0) ≡ 261
hold_zeros = length-replicate {A = ℕ} 261 0

module _ (count : ℕ) (kept : List ℕ) (few : count ≤ 8) where
  prepared_fits : Fits (keeping (session_of count kept) (replicate 1024 0))
  prepared_fits =
      record {
        attempts = omega arith;
        held = omega arith;
        first = omega arith;
        authentication = omega arith;
        proxy = omega arith;
        port = omega arith;
        hold = hold_zeros;
        bytes = length-replicate {A = ℕ} 1024 0;
      }

  prepared_back : session_at (preparing_with count kept) ≡ session_of count kept
  prepared_back = read_back (session_of count kept) (replicate 1024 0) prepared_fits

  pub prepared_phase : phase_at (preparing_with count kept) ≡ preparing
  prepared_phase = ap (λ (x : Session). phase_by x.stage x.started) prepared_back

  pub prepared_count : count_at (preparing_with count kept) ≡ count
  prepared_count = ap (λ (x : Session). x.requests.lengths.first) prepared_back

  pub prepared_row : preparing_with count kept ≡ head_of (session_of count kept) ++ kept
  prepared_row = head_row (session_of count kept)

  pub prepared_head : length (head_of (session_of count kept)) ≡ 282
  prepared_head = head_long (session_of count kept) hold_zeros

-- ---- a hop that is accepted

length_more : {A : Type 0} (l : List A) (a : A) → length (l ++ (a ∷ [])) ≡ suc (length l)
length_more l a = omega (arith, length-append l (a ∷ []))

module _ (os : List Opening) (m : length os < 8) (o : Opening) (k : length (kept_by o).bytes ≡ 1024) where
  abbrev c : ℕ
  c = length os

  abbrev now : List ℕ
  now = kept_of c (hops_for os) (bytes_for os)

  abbrev then : List ℕ
  then = kept_of (suc c) (hop_for o ∷ hops_for os) ((kept_by o).bytes ++ bytes_for os)

  few : c ≤ 8
  few = omega arith

  counted : overwrite (preparing_with c then) 10 (digits 2 (c + 1)) ≡ preparing_with (c + 1) then
  unfolding overwrite digits
  counted = refl

  pub hop_kept : with_hop (preparing_of os) o ≡ preparing_of (os ++ (o ∷ []))
  hop_kept =
      let x = session_of c now in
      ap (λ (n : ℕ). overwrite (overwrite (overwrite (preparing_of os) (346 + 1024 * (7 - n)) (kept_by o).bytes) (282 + 8 * (7 - n)) (slot_of (hop_for o))) 10 (digits 2 (n + 1))) (prepared_count c now few)
      ∙ ap (λ (s : List ℕ). overwrite (overwrite (overwrite s (346 + 1024 * (7 - c)) (kept_by o).bytes) (282 + 8 * (7 - c)) (slot_of (hop_for o))) 10 (digits 2 (c + 1))) (prepared_row c now few)
      ∙ ap (λ (s : List ℕ). overwrite s 10 (digits 2 (c + 1))) (kept_more (head_of x) (hops_for os) (bytes_for os) c (prepared_head c now few) m (hops_size os) (hop_for o) (kept_by o).bytes k ∙ sym (prepared_row c then few))
      ∙ counted
      ∙ (λ i. preparing_with (count_is i) (kept_of (sym (length_more os o) i) (sym (hops_more os o) i) (sym (bytes_more os o) i)))
    where
      count_is : c + 1 ≡ length (os ++ (o ∷ []))
      count_is = omega (arith, length_more os o)

module _ (a : Asked) (os : List Opening) (few : length os ≤ 8) where
  abbrev s : List ℕ
  s = preparing_of os

  abbrev kept : List ℕ
  kept = kept_of (length os) (hops_for os) (bytes_for os)

  pub hop_told_lem : hop_told a s ≡ refuse (leb 8 (length os)) RouteLength (check_for a)
  hop_told_lem = λ i. hop_answer (prepared_phase (length os) kept few i) (prepared_count (length os) kept few i) a

  pub hop_left_lem : {x : code.Answer} → refuse (leb 8 (length os)) RouteLength (check_for a) ≡ x → hopped a s ≡ hop_left preparing x s (opening_for a)
  hop_left_lem q = λ i. hop_left (prepared_phase (length os) kept few i) ((hop_told_lem ∙ q) i) s (opening_for a)
