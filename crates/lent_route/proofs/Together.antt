-- An empty route, its hops and its opening, one call each, come to what one opening comes to.
use Prim.Native.Nat.{ℕ, suc, ◌+◌, ◌-◌, ◌*◌, ◌≤◌, ◌<◌}
use native.Mathlib.Nat.{zero-add}
use native.Mathlib.Omega.{arith}
use mathlib.Core.Path.{◌≡◌, refl, sym, ap, ◌∙◌}
use mathlib.Core.Bool.{Bool, true, false, cond, ◌||◌}
use mathlib.Core.List.Memᴰ
use mathlib.Core.List.{List, [], ◌∷◌, ◌++◌, map, append_assoc, append-nil}
use lib.ListN.{length, take, drop, replicate, length-append, length-map, length-replicate, replicate-append-replicate}
use lib.Seq.{take_at, drop_at, take-nil, take_all}
use lib.Dec.{eqb, leb, ltb}
use borrow.Author.Tests.{leb-true, leb-false, eq-eqb, ne_eqb, lt-ltb, le-ltb}
use Rattle.protocol.specs.Answers as code
use Rattle.protocol.specs.declared.SocksError.{SocksError}
use Rattle.protocol.specs.declared.SocksError.TheVariants.{RouteLength}
use Rattle.protocol.specs.declared.Version as version
use Rattle.protocol.specs.declared.Version.TheVariants as Version
use Rattle.protocol.specs.Bound.{unbound, bound_of}
use Rattle.protocol.specs.Opening.{Opening, first_reply, Limits, refuse}
use Rattle.protocol.proofs.Limits.{limits5, limits4}
use Rattle.client_stages.specs.declared.due.Stage.TheVariants.{Failed}
use Rattle.client_stages.specs.due.Parts.{first_of}
use Rattle.client_session.specs.declared.Session.{Session}
use Rattle.client_session.specs.Calls.{kept_by}
use Rattle.lent_session.specs.State.{session_at}
use Rattle.lent_session.specs.Fits.{Fits}
use Rattle.route_delivery.specs.declared.Hop.{Hop}
use Rattle.route_delivery.specs.Relay.{no_hop, goes_at}
use Rattle.route_spec.specs.Route as routing
use Rattle.route_spec.specs.Route.{Proxy, host_of, port_of, Asked, asked_by, asked_of, asked, openings, opening_for, check_for, unless_refused, check_in_turn, check}
use Rattle.route_spec.proofs.Asked.{asked_each}
use Rattle.route_spec.proofs.Rooms.{EachLimits}
use Rattle.route_session.specs.plan.Plan.{hops_for, bytes_for}
use Rattle.route_session.specs.calls.Calls.{Call, refusal, last_in, empty_route, started_for, begun_with, begins, open_by, opening}
use Rattle.route_session.proofs.opening.Kept.{kept_size, hops_size, bytes_size}
use Rattle.route_session.proofs.opening.Planned.{begun_is}
use Rattle.lent_route.specs.State.{Phase, preparing, over, phase_by, phase_at, count_at, hops_in, bytes_in, kept_of, counts_of, carried, state_of, preparing_of}
use Rattle.lent_route.specs.Calls.{hop_left, hop_told, hopped, open_call, open_left}
use Rattle.lent_route.specs.Together.{begun, all_hopped, all_told, open_told, open_leaves, open_puts, verdict, at_once, Together}
use Rattle.lent_route.proofs.Writing.{keeping, head_of, read_back}
use Rattle.lent_route.proofs.Kept.{hops_read, bytes_read}
use Rattle.lent_route.proofs.Prepared.{each_slotted, session_of, hold_zeros, prepared_phase, prepared_count, prepared_row, prepared_head, hop_kept, hop_told_lem, hop_left_lem}

-- ---- answers in a row

clash : {e : SocksError} → code.Refused e ≡ code.Accepted → ⊥
clash q = let z : ◌≡◌ {A = ℕ} 0 1 = cc in absurd (omega arith)

unless_both : (x y : code.Answer) → unless_refused x y ≡ code.Accepted → (x ≡ code.Accepted) × (y ≡ code.Accepted)
unless_both code.Accepted y q = (refl, q)
unless_both (code.Refused e) y q = absurd (clash q)

unless_row : (x y z : code.Answer) → unless_refused (unless_refused x y) z ≡ unless_refused x (unless_refused y z)
unless_row code.Accepted y z = refl
unless_row (code.Refused e) y z = refl

refuse_not : (b : Bool) (e : SocksError) (x : code.Answer) → refuse b e x ≡ code.Accepted → (b ≡ false) × (x ≡ code.Accepted)
refuse_not true e x q = absurd (clash q)
refuse_not false e x q = (refl, q)

-- ---- a route that has failed

module _ (e : SocksError) where
  abbrev pub failed : Session
  failed =
      record {
        stage = Failed e;
        started = true;
        held = 0;
        hold = replicate 261 0;
        bound = bound_of unbound;
        attempts = 0;
        requests = record { lengths = counts_of 0 0; bytes = kept_of 0 (take 0 (replicate 8 no_hop)) (take (1024 * 0) (replicate 8192 0)) };
      }

  failed_fits : Fits (keeping failed (replicate 1024 0))
  failed_fits =
      record {
        attempts = omega arith;
        held = omega arith;
        first = omega arith;
        authentication = omega arith;
        proxy = omega arith;
        port = omega arith;
        hold = hold_zeros;
        bytes = length-replicate {A = ℕ} 1024 0;
      }

  pub failed_back : session_at (state_of (empty_route e)) ≡ failed
  failed_back = read_back failed (replicate 1024 0) failed_fits

  pub failed_phase : phase_at (state_of (empty_route e)) ≡ over
  failed_phase = ap (λ (x : Session). phase_by x.stage x.started) failed_back

  failed_hop : (a : Asked) → hopped a (state_of (empty_route e)) ≡ state_of (empty_route e)
  failed_hop a = ap (λ (p : Phase). hop_left p (hop_told a (state_of (empty_route e))) (state_of (empty_route e)) (opening_for a)) failed_phase

  failed_hops : (later : List Asked) → all_hopped later (state_of (empty_route e)) ≡ state_of (empty_route e)
  unfolding all_hopped
  failed_hops [] = refl
  failed_hops (a ∷ later) = ap (all_hopped later) (failed_hop a) ∙ failed_hops later

-- ---- the hops, from so many on

unfoldable in_turn : ℕ → List Asked → code.Answer
in_turn n [] = code.Accepted
in_turn n (a ∷ later) = unless_refused (refuse (leb 8 n) RouteLength (check_for a)) (in_turn (suc n) later)

-- an accepted one keeps to its limits: there is no record of a lookup
abbrev Limited : List Asked → Type 0
Limited [] = Unit {0}
Limited (a ∷ later) = (check_for a ≡ code.Accepted → Limits (opening_for a)) × Limited later

limited_by : (v : version.Version) (p : Proxy) (host : List ℕ) (port : code.Port) → check_for (asked_by v p host port) ≡ code.Accepted → Limits (opening_for (asked_by v p host port))
limited_by Version.V5 p host port e = limits5 _ (λ r m. absurd (Memᴰ.not-nil m)) e
limited_by Version.V4 p host port e = limits4 _ e

limited : (ps : List Proxy) (host : List ℕ) (port : code.Port) → Limited (asked_of ps host port)
unfolding asked_of
limited [] host port = tt
limited (p ∷ ps) host port = (limited_by p.version p (host_of ps host) (port_of ps port), limited ps host port)

record Kept (later : List Asked) (os : List Opening) : Type 0 where
  told : all_told later (preparing_of os) ≡ code.Accepted
  left : all_hopped later (preparing_of os) ≡ preparing_of (os ++ map opening_for later)
  limits : EachLimits (map opening_for later)
  few : length os + length later ≤ 8

all_kept : (later : List Asked) (os : List Opening) → length os ≤ 8 → Limited later → in_turn (length os) later ≡ code.Accepted → Kept later os
unfolding in_turn all_told all_hopped
all_kept [] os m w q = record { told = refl; left = ap preparing_of (sym (append-nil os)); limits = tt; few = omega arith }
all_kept (a ∷ later) os m (u, w) q =
    let (x, y) = unless_both (refuse (leb 8 (length os)) RouteLength (check_for a)) (in_turn (suc (length os)) later) q in
    let (b, z) = refuse_not (leb 8 (length os)) RouteLength (check_for a) x in
    let o = opening_for a in
    let few : length os < 8 = leb-false 8 (length os) b in
    let size : suc (length os) ≡ length (os ++ (o ∷ [])) = omega (arith, length-append os (o ∷ [])) in
    let kept : hopped a (preparing_of os) ≡ preparing_of (os ++ (o ∷ [])) = hop_left_lem a os m x ∙ hop_kept os few o (kept_size o (u z)) in
    let r = all_kept later (os ++ (o ∷ [])) (omega (arith, size)) w (ap (λ (n : ℕ). in_turn n later) (sym size) ∙ y) in
    record {
      told = (λ i. unless_refused ((hop_told_lem a os m ∙ x) i) (all_told later (kept i))) ∙ r.told;
      left = ap (all_hopped later) kept ∙ r.left ∙ ap preparing_of (append_assoc os (o ∷ []) (map opening_for later));
      limits = (u z, r.limits);
      few = omega (arith, size, r.few);
    }

record Stopped (e : SocksError) (later : List Asked) (os : List Opening) : Type 0 where
  told : all_told later (preparing_of os) ≡ code.Refused e
  left : all_hopped later (preparing_of os) ≡ state_of (empty_route e)

some_stopped : (e : SocksError) (later : List Asked) (os : List Opening) → length os ≤ 8 → Limited later → in_turn (length os) later ≡ code.Refused e → Stopped e later os
unfolding in_turn all_told all_hopped
some_stopped e [] os m w q = absurd (clash (sym q))
some_stopped e (a ∷ later) os m (u, w) q = go (some_stopped e later (os ++ (opening_for a ∷ []))) (refuse (leb 8 (length os)) RouteLength (check_for a)) refl q
  where
    o : Opening
    o = opening_for a

    go : (length (os ++ (opening_for a ∷ [])) ≤ 8 → Limited later → in_turn (length (os ++ (opening_for a ∷ []))) later ≡ code.Refused e → Stopped e later (os ++ (opening_for a ∷ [])))
        → (x : code.Answer) → refuse (leb 8 (length os)) RouteLength (check_for a) ≡ x → unless_refused x (in_turn (suc (length os)) later) ≡ code.Refused e → Stopped e (a ∷ later) os
    go ih (code.Refused f) x q =
        record {
          told = (λ i. unless_refused ((hop_told_lem a os m ∙ x) i) (all_told later (hopped a (preparing_of os)))) ∙ q;
          left = ap (all_hopped later) (hop_left_lem a os m x) ∙ failed_hops f later ∙ ap state_of (is (code.Refused f) q);
        }
      where
        is : (y : code.Answer) → y ≡ code.Refused e → empty_route f ≡ empty_route e
        is y r = let z : f ≡ e = cc in ap empty_route z
    go ih code.Accepted x q =
        let (b, z) = refuse_not (leb 8 (length os)) RouteLength (check_for a) x in
        let few : length os < 8 = leb-false 8 (length os) b in
        let size : suc (length os) ≡ length (os ++ (o ∷ [])) = omega (arith, length-append os (o ∷ [])) in
        let kept : hopped a (preparing_of os) ≡ preparing_of (os ++ (o ∷ [])) = hop_left_lem a os m x ∙ hop_kept os few o (kept_size o (u z)) in
        let r = ih (omega (arith, size)) w (ap (λ (n : ℕ). in_turn n later) (sym size) ∙ q) in
        record {
          told = (λ i. unless_refused ((hop_told_lem a os m ∙ x) i) (all_told later (kept i))) ∙ r.told;
          left = ap (all_hopped later) kept ∙ r.left;
        }

-- ---- and by the numbers in one call's order

turns : (n : ℕ) (asks : List Asked) → n ≤ 8 → in_turn n asks ≡ unless_refused (check_in_turn (take (8 - n) asks)) (refuse (ltb 8 (n + length asks)) RouteLength code.Accepted)
unfolding in_turn check_in_turn
turns n [] m = rw (take-nil {A = Asked} (8 - n), le-ltb 8 (n + 0) (omega arith))
turns n (a ∷ later) m = go (turns (suc n) later) (leb 8 n) refl
  where
    go : (suc n ≤ 8 → in_turn (suc n) later ≡ unless_refused (check_in_turn (take (8 - suc n) later)) (refuse (ltb 8 (suc n + length later)) RouteLength code.Accepted)) → (b : Bool) → leb 8 n ≡ b
        → unless_refused (refuse b RouteLength (check_for a)) (in_turn (suc n) later) ≡ unless_refused (check_in_turn (take (8 - n) (a ∷ later))) (refuse (ltb 8 (n + suc (length later))) RouteLength code.Accepted)
    go ih true q =
        let h = leb-true 8 n q in
        let z : 8 - n ≡ 0 = omega arith in
        rw (z, lt-ltb 8 (n + suc (length later)) (omega arith))
    go ih false q =
        let h = leb-false 8 n q in
        let z : 8 - n ≡ suc (8 - suc n) = omega arith in
        let y : n + suc (length later) ≡ suc n + length later = omega arith in
        rw (z, y, ih (omega arith)) (sym (unless_row (check_for a) (check_in_turn (take (8 - suc n) later)) (refuse (ltb 8 (suc n + length later)) RouteLength code.Accepted)))

-- ---- an opening of what was prepared

pub drop_all : {A : Type 0} (n m : ℕ) (a : A) → n ≤ m → drop n (replicate m a) ≡ replicate (m - n) a
drop_all n m a h =
    let z : m ≡ n + (m - n) = omega arith in
    ap (λ (k : ℕ). drop n (replicate k a)) z ∙ ap (drop n) (sym (replicate-append-replicate n (m - n) a)) ∙ drop_at (replicate n a) (replicate (m - n) a) n (length-replicate n a)

module _ (o : Opening) (os : List Opening) (w : EachLimits (o ∷ os)) (m : length (o ∷ os) ≤ 8) (out : List ℕ) where
  abbrev c : ℕ
  c = length (o ∷ os)

  abbrev kept : List ℕ
  kept = kept_of c (hops_for (o ∷ os)) (bytes_for (o ∷ os))

  abbrev s : List ℕ
  s = preparing_of (o ∷ os)

  abbrev head : List ℕ
  head = head_of (session_of c kept)

  hops_are : hops_in s (last_in c) ≡ hops_for (o ∷ os) ++ drop c (replicate 8 no_hop)
  hops_are =
      ap (λ (t : List ℕ). hops_in t (last_in c)) (prepared_row c kept m)
      ∙ hops_read head (hops_for (o ∷ os)) (bytes_for (o ∷ os)) c (prepared_head c kept m) m (hops_size (o ∷ os)) (omega arith) (each_slotted (o ∷ os) w)
      ∙ ap (λ (t : List Hop). hops_for (o ∷ os) ++ t) (sym (drop_all c 8 no_hop m))

  bytes_are : bytes_in s (last_in c) ≡ bytes_for (o ∷ os) ++ drop (1024 * c) (replicate 8192 0)
  bytes_are =
      ap (λ (t : List ℕ). bytes_in t (last_in c)) (prepared_row c kept m)
      ∙ bytes_read head (hops_for (o ∷ os)) (bytes_for (o ∷ os)) c (prepared_head c kept m) m (hops_size (o ∷ os)) (omega arith) (each_slotted (o ∷ os) w)
      ∙ ap (λ (t : List ℕ). bytes_for (o ∷ os) ++ t) (ap (λ (k : ℕ). replicate k 0) spare ∙ sym (drop_all (1024 * c) 8192 0 (omega (arith, m))))
    where
      spare : 1024 * (8 - c) ≡ 8192 - 1024 * c
      spare = omega (arith, m)

  pub opens_kept : open_call s out ≡ begins (started_for o os) (first_of (first_reply o) (kept_by o)) out
  unfolding open_call
  opens_kept =
      let n = prepared_count c kept m in
      (λ i. cond (eqb (n i) 0 || ltb 8 (n i)) (refusal RouteLength (empty_route RouteLength) out)
      (begins (begun_with (hops_in s (last_in (n i))) (bytes_in s (last_in (n i))) (n i)) (goes_at (hops_in s (last_in (n i))) (bytes_in s (last_in (n i))) (n i - 1)) out))
      ∙ rw (ne_eqb c 0 (λ q. omega arith), le-ltb 8 c m) (begun_is o os w out hops_are bytes_are refl)

  kept_is : drop 282 s ≡ kept
  kept_is = ap (drop 282) (prepared_row c kept m) ∙ drop_at head kept 282 (prepared_head c kept m)

  pub opens_left : open_left code.Accepted (started_for o os) s ≡ state_of (started_for o os)
  opens_left =
      let h : take c (hops_for (o ∷ os) ++ drop c (replicate 8 no_hop)) ≡ hops_for (o ∷ os) = take_at (hops_for (o ∷ os)) (drop c (replicate 8 no_hop)) c (hops_size (o ∷ os)) in
      let b : take (1024 * c) (bytes_for (o ∷ os) ++ drop (1024 * c) (replicate 8192 0)) ≡ bytes_for (o ∷ os) = take_at (bytes_for (o ∷ os)) (drop (1024 * c) (replicate 8192 0)) (1024 * c) (bytes_size (o ∷ os) w) in
      ap (carried (started_for o os)) kept_is ∙ (λ i. carried (started_for o os) (kept_of c (sym h i) (sym b i)))

none_opens : (out : List ℕ) → open_call begun out ≡ refusal RouteLength (empty_route RouteLength) out
unfolding open_call
none_opens out = rw (eq-eqb (count_at begun) 0 (prepared_count 0 (kept_of 0 (hops_for []) (bytes_for [])) (omega arith)))

-- ---- all calls in a row

record Row (asks : List Asked) (out : List ℕ) : Type 0 where
  answer : unless_refused (all_told asks begun) (open_told (phase_at (all_hopped asks begun)) (all_hopped asks begun) out) ≡ (open_by (verdict asks) (map opening_for asks) out).answer
  left : open_leaves (phase_at (all_hopped asks begun)) (all_hopped asks begun) out ≡ state_of (open_by (verdict asks) (map opening_for asks) out).session
  output : open_puts (phase_at (all_hopped asks begun)) (all_hopped asks begun) out ≡ (open_by (verdict asks) (map opening_for asks) out).output
  hops : verdict asks ≡ code.Accepted → all_told asks begun ≡ code.Accepted
  opens : verdict asks ≡ code.Accepted → (phase_at (all_hopped asks begun) ≡ preparing) × (open_call (all_hopped asks begun) out ≡ open_by (verdict asks) (map opening_for asks) out)

-- with all hops accepted
row_open : {told : code.Answer} (s out : List ℕ) → told ≡ code.Accepted → phase_at s ≡ preparing → (c : Call) → open_call s out ≡ c → open_left c.answer c.session s ≡ state_of c.session
    → (unless_refused told (open_told (phase_at s) s out) ≡ c.answer) × (open_leaves (phase_at s) s out ≡ state_of c.session) × (open_puts (phase_at s) s out ≡ c.output)
row_open s out t p c q l = (
  (λ i. unless_refused (t i) (open_told (p i) s out)) ∙ ap (λ (x : Call). x.answer) q,
  ap (λ (x : Phase). open_leaves x s out) p ∙ ap (λ (x : Call). open_left x.answer x.session s) q ∙ l,
  ap (λ (x : Phase). open_puts x s out) p ∙ ap (λ (x : Call). x.output) q,
)

rows : (asks : List Asked) (out : List ℕ) → Limited asks → Row asks out
unfolding all_hopped all_told
rows [] out w =
    let p = prepared_phase 0 (kept_of 0 (hops_for []) (bytes_for [])) (omega arith) in
    let (x, y, z) = row_open begun out refl p (refusal RouteLength (empty_route RouteLength) out) (none_opens out) refl in
    record { answer = x; left = y; output = z; hops = λ q. absurd (clash q); opens = λ q. absurd (clash q) }
rows (a ∷ later) out w = go (verdict (a ∷ later)) refl
  where
    asks : List Asked
    asks = a ∷ later

    os : List Opening
    os = map opening_for later

    by_turns : in_turn 0 (a ∷ later) ≡ verdict (a ∷ later)
    by_turns = turns 0 (a ∷ later) (omega arith) ∙ ap (λ (n : ℕ). unless_refused (check_in_turn (take 8 (a ∷ later))) (refuse (ltb 8 n) RouteLength code.Accepted)) (zero-add (length (a ∷ later)))

    go : (v : code.Answer) → verdict (a ∷ later) ≡ v → Row (a ∷ later) out
    go code.Accepted q =
        let k = all_kept (a ∷ later) [] (omega arith) w (by_turns ∙ q) in
        let m : length (opening_for a ∷ os) ≤ 8 = omega (arith, k.few, length-map later opening_for) in
        let o = opening_for a in
        let c = begins (started_for o os) (first_of (first_reply o) (kept_by o)) out in
        let s = preparing_of (o ∷ os) in
        let p : phase_at s ≡ preparing = prepared_phase (length (o ∷ os)) (kept_of (length (o ∷ os)) (hops_for (o ∷ os)) (bytes_for (o ∷ os))) m in
        let e : open_call s out ≡ c = opens_kept o os k.limits m out in
        let (x, y, z) = row_open s out k.told p c e (opens_left o os k.limits m out) in
        let d : open_by (verdict (a ∷ later)) (o ∷ os) out ≡ c = ap (λ (v : code.Answer). open_by v (o ∷ os) out) q in
        let r : all_hopped (a ∷ later) begun ≡ s = k.left in
        record {
          answer = (λ i. unless_refused (all_told (a ∷ later) begun) (open_told (phase_at (r i)) (r i) out)) ∙ x ∙ sym (ap (λ (u : Call). u.answer) d);
          left = (λ i. open_leaves (phase_at (r i)) (r i) out) ∙ y ∙ sym (ap (λ (u : Call). state_of u.session) d);
          output = (λ i. open_puts (phase_at (r i)) (r i) out) ∙ z ∙ sym (ap (λ (u : Call). u.output) d);
          hops = λ t. k.told;
          opens = λ t. (ap phase_at r ∙ p, ap (λ (u : List ℕ). open_call u out) r ∙ e ∙ sym d);
        }
    go (code.Refused f) q =
        let k = some_stopped f (a ∷ later) [] (omega arith) w (by_turns ∙ q) in
        let s = state_of (empty_route f) in
        let r : all_hopped (a ∷ later) begun ≡ s = k.left in
        let p = failed_phase f in
        let d : open_by (verdict (a ∷ later)) (map opening_for (a ∷ later)) out ≡ refusal f (empty_route f) out = ap (λ (v : code.Answer). open_by v (map opening_for (a ∷ later)) out) q in
        record {
          answer = ap (λ (v : code.Answer). unless_refused v (open_told (phase_at (all_hopped (a ∷ later) begun)) (all_hopped (a ∷ later) begun) out)) k.told ∙ sym (ap (λ (u : Call). u.answer) d);
          left = (λ i. open_leaves (phase_at (r i)) (r i) out) ∙ ap (λ (x : Phase). open_leaves x s out) p ∙ sym (ap (λ (u : Call). state_of u.session) d);
          output = (λ i. open_puts (phase_at (r i)) (r i) out) ∙ ap (λ (x : Phase). open_puts x s out) p ∙ sym (ap (λ (u : Call). u.output) d);
          hops = λ t. absurd (clash (sym q ∙ t));
          opens = λ t. absurd (clash (sym q ∙ t));
        }

-- ---- and in one call

unless_nothing : (x : code.Answer) → unless_refused x code.Accepted ≡ x
unless_nothing code.Accepted = refl
unless_nothing (code.Refused e) = refl

module _ (a : routing.Route) (m : length a.proxies ≤ 8) (out : List ℕ) (l : length out ≡ 8192) where
  by_check : (asks : List Asked) → length asks ≡ length a.proxies → asks ≡ asked a → verdict asks ≡ check a (length out)
  unfolding check
  by_check [] k e = rw (← k)
  by_check (x ∷ later) k e =
      let n = length a.proxies in
      let t : take 8 (x ∷ later) ≡ x ∷ later = take_all 8 (x ∷ later) (omega (arith, k)) in
      let v : verdict (x ∷ later) ≡ check_in_turn (x ∷ later) = rw (t, le-ltb 8 (suc (length later)) (omega (arith, k))) (unless_nothing (check_in_turn (x ∷ later))) in
      let room : 1024 * n ≤ length out = omega (arith, l, m) in
      v ∙ ap check_in_turn e ∙ sym (rw (ne_eqb n 0 (λ q. omega (arith, k)), le-ltb 8 n m, le-ltb (length out) (1024 * n) room))

  one_opening : at_once a out ≡ opening a out
  unfolding opening
  one_opening = ap (λ (v : code.Answer). open_by v (openings a) out) (by_check (asked a) (asked_each a.proxies a.host a.port) refl)

pub together : (a : routing.Route) (out : List ℕ) → Together a out
together a out =
    let r = rows (asked a) out (limited a.proxies a.host a.port) in
    record { answer = r.answer; left = r.left; output = r.output; hops = r.hops; opens = r.opens; one = λ m l. one_opening a m out l }
