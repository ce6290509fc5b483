-- The numbers that the calls on a route's lent bytes answer, and what refused ones leave.
use Prim.Native.Nat.{ℕ, ◌+◌, ◌-◌, ◌^◌, ◌≤◌, ◌<◌}
use native.Mathlib.Omega.{arith}
use mathlib.Core.Path.{◌≡◌, refl, ap, sym, subst, ◌∙◌}
use mathlib.Core.Logic.{◌⊎◌, inl, inr}
use mathlib.Core.Bool.{Bool, true, false, cond, not, ◌||◌, true≢false}
use mathlib.Core.List.{List, [], ◌∷◌}
use lib.ListN.{length, take, drop, replicate, length-take, length-drop, length-replicate}
use lib.Dec.{eqb, leb, ltb, lit<}
use borrow.Author.Tests.{le-leb, leb-true, eqb-true, eq-eqb, ltb-false}
use Rattle.protocol.specs.Answers as code
use Rattle.protocol.specs.declared.Address.{Address}
use Rattle.protocol.specs.declared.Bound.{Bound}
use Rattle.protocol.specs.declared.Outcome.{Outcome}
use Rattle.protocol.specs.declared.Reply.{Reply}
use Rattle.protocol.specs.declared.SocksError.{SocksError}
use Rattle.protocol.specs.declared.SocksError.TheVariants.{Settled, OutOfOrder, RouteLength}
use Rattle.protocol.specs.Bytes.{Bytes}
use Rattle.protocol.specs.Bound as endpoints
use Rattle.protocol.specs.Client as client
use Rattle.protocol.specs.Numbers.{answer_number}
use Rattle.protocol.specs.Opening.{◌↣◌, Answers, refuse, Opening}
use Rattle.protocol.proofs.Bytes.{bytes_part}
use Rattle.protocol.proofs.Openings.{clash, all_passed, checked, less_just, check5_just, check4_just}
use Rattle.protocol.proofs.Limits.{number_accepted}
use Rattle.address_format.specs.endpoint.Text.{bound_text}
use Rattle.client_stages.specs.declared.due.Stage.{Stage}
use Rattle.client_stages.specs.declared.due.Stage.TheVariants.{Awaiting, Open, Failed}
use Rattle.client_stages.specs.due.Stages.{view_at}
use Rattle.client_session.specs.declared.Session.{Session}
use Rattle.client_session.specs.Session as session
use Rattle.client_session.specs.Session.{held_bytes, view, write_bound}
use Rattle.client_session.specs.Calls as session-calls
use Rattle.socks.specs.Turns.{no_address, InTurn}
use Rattle.socks.proofs.Turns as sessions
use Rattle.socks.proofs.Turns.{first_room_lem}
use Rattle.raw_errors.specs.Errors.{error_of, error_among}
use Rattle.lent_numbers.specs.bytes.Numbers as numbers
use Rattle.lent_numbers.proofs.bytes.Laws.{number_below}
use Rattle.lent_numbers.specs.told.Told.{outcome_of}
use Rattle.lent_session.specs.Fits.{Fits}
use Rattle.lent_session.specs.State as states
use Rattle.lent_session.specs.State.{stage_of, stage_at, session_at}
use Rattle.lent_session.specs.Calls.{address_of}
use Rattle.route_delivery.specs.declared.Hop.{Hop}
use Rattle.route_delivery.specs.Relay.{hop_at, requests_at, goes_at}
use Rattle.route_spec.specs.Route.{Asked, over5, over4, opening_for, conditions_for, check_for}
use Rattle.route_session.specs.declared.calls.Route.{Route}
use Rattle.route_session.specs.calls.Calls as route
use Rattle.route_session.specs.calls.Calls.{Call, refusal, last_in, room_in, session_in, with_session, is_over, empty_route, begun_with, takes, deliver, end}
use Rattle.route.specs.Turns as routes
use Rattle.route.proofs.Turns.{any_in_turn}
use Rattle.lent_route.specs.State.{Phase, preparing, opened, over, phase_by, phase_at, count_at, hops_in, bytes_in, route_at, state_of}
use Rattle.lent_route.specs.Calls.{onward, left_by, hop_answer, with_hop, hop_left, hop_told, hopped, open_call, open_left}
use Rattle.lent_route.proofs.Writing.{keeping, read_back}
use Rattle.lent_route.proofs.Together.{failed_back}
use Rattle.lent_tunnel.specs.Demand3.{outcome_at}
use Rattle.lent_tunnel.specs.Turns.{started_at, LentTells, Untouched}
use Rattle.lent_tunnel.specs.Routed.{returned, begins, opens_in, called_in}
use Rattle.lent_tunnel.specs.RoutedTurns.{Late, RouteTurns, RouteZeros}
use Rattle.lent_tunnel.proofs.Turns.{over_just, truth_just, open_number, same_conditions}
use Rattle.lent_tunnel.proofs.Hopped.{Prepared, prepared_is, hop_accepts, attempts_stay, counts_more, stage_stays, started_stays}
use Rattle.lent_tunnel.proofs.RoutesKept.{Held, fresh_held, spoken, spoken_back}
use Rattle.talk.specs.Talk as talk
use Rattle.talk.specs.Tunnel.{Behind}
use Rattle.talk.proofs.Sends.{stand_at}

-- ---- phases, by the session of the proxy that is spoken to

module _ (b : Bound) (h : List ℕ) where
  abbrev how : Stage → ℕ
  how x = (outcome_of (client.outcome_of (view_at x b h))).state

  abbrev settled : Stage → Bool
  settled x = talk.is_over (view_at x b h)

  late_phase : (x : Stage) (t : Bool) → (how x ≡ 0 → ⊥) ⊎ (t ≡ true) → phase_by x t ≡ preparing → ⊥
  late_phase (Awaiting e) true l q = let z : ◌≡◌ {A = ℕ} 0 1 = cc in omega arith
  late_phase (Awaiting e) false (inl f) q = f refl
  late_phase (Awaiting e) false (inr f) q = let z : ◌≡◌ {A = ℕ} 0 1 = cc in omega arith
  late_phase Open t l q = let z : ◌≡◌ {A = ℕ} 0 1 = cc in omega arith
  late_phase (Failed e) t l q = let z : ◌≡◌ {A = ℕ} 0 1 = cc in omega arith

  early_phase : (x : Stage) (t : Bool) → ((how x ≡ 0 → ⊥) ⊎ (t ≡ true) → ⊥) → phase_by x t ≡ preparing
  early_phase (Awaiting e) true n = absurd (n (inr refl))
  early_phase (Awaiting e) false n = refl
  early_phase Open t n = absurd (n (inl (λ q. omega arith)))
  early_phase (Failed e) t n = absurd (n (inl (λ q. omega arith)))

  -- what each call answers
  hop_as : (x : Stage) (t : Bool) (n : ℕ) (a : Asked) → hop_answer (phase_by x t) n a ≡ refuse (settled x) Settled (refuse t OutOfOrder (refuse (leb 8 n) RouteLength (check_for a)))
  hop_as (Awaiting e) true n a = refl
  hop_as (Awaiting e) false n a = refl
  hop_as Open t n a = refl
  hop_as (Failed e) t n a = refl

  open_as : (x : Stage) (t : Bool) (s out : List ℕ) → (opens_in (phase_by x t) s out).answer ≡ answer_number (refuse (settled x) Settled (refuse t OutOfOrder (open_call s out).answer))
  open_as (Awaiting e) true s out = refl
  open_as (Awaiting e) false s out = refl
  open_as Open t s out = refl
  open_as (Failed e) t s out = refl

  called_as : (x : Stage) (t : Bool) (s out : List ℕ) (c : Call) → c.answer ≡ refuse (settled x) Settled code.Accepted
      → (called_in (phase_by x t) s out c).answer ≡ answer_number (refuse (settled x) Settled (refuse (not t) OutOfOrder code.Accepted))
  called_as (Awaiting e) true s out c q = ap answer_number q
  called_as (Awaiting e) false s out c q = refl
  called_as Open t s out c q = ap answer_number q
  called_as (Failed e) t s out c q = ap answer_number q

-- ---- the tests of a hop and of an opening

for_just : (a : Asked) → Answers (answer_number (check_for a)) (conditions_for a)
for_just (over5 a) = check5_just a
for_just (over4 a) = check4_just a

sized : (n : ℕ) → Answers (answer_number (refuse (eqb n 0 || ltb 8 n) RouteLength code.Accepted)) (((n ≡ 0) ↣ 21) ∷ ((8 < n) ↣ 21) ∷ [])
sized n =
    subst (λ (x : code.Answer). Answers (answer_number x) (((n ≡ 0) ↣ 21) ∷ ((8 < n) ↣ 21) ∷ [])) (both (eqb n 0) (ltb 8 n))
    (checked (eqb n 0) _ RouteLength 21 _ _ refl (lit< tt) (eqb-true n 0, eq-eqb n 0) (checked (ltb 8 n) _ RouteLength 21 code.Accepted [] refl (lit< tt) (less_just 8 n) all_passed))
  where
    both : (a b : Bool) → refuse a RouteLength (refuse b RouteLength code.Accepted) ≡ refuse (a || b) RouteLength code.Accepted
    both true b = refl
    both false b = refl

-- ---- a delivery and an end by the route value's call

deliver_answers : (r : Route) (piece out : List ℕ) → length out ≡ 8192 → (deliver r piece out).answer ≡ refuse (is_over r) Settled code.Accepted
unfolding deliver
deliver_answers r piece out l = rw (le-leb (room_in r) (length out) (omega (arith, l))) (go (is_over r))
  where
    go : (b : Bool) → (cond b (refusal Settled r out) (takes r piece out)).answer ≡ refuse b Settled code.Accepted
    go true = refl
    go false = refl

end_answers : (r : Route) → (end r).answer ≡ refuse (is_over r) Settled code.Accepted
unfolding end
end_answers r = sessions.end_answers (session_in r)

returned_untouched : (s out : List ℕ) (c : Call) → ((e : SocksError) → c.answer ≡ code.Refused e → c ≡ refusal e (route_at s) out) → Untouched (returned s c) s out
returned_untouched s out c h n = go c.answer refl
  where
    go : (x : code.Answer) → c.answer ≡ x → returned s c ≡ record { answer = answer_number c.answer; session = s; used = 0; sent = 0; output = out }
    go code.Accepted q = absurd (n (ap answer_number q))
    go (code.Refused e) q =
        let z = h e q in
        λ i. record { answer = answer_number c.answer; session = left_by (q i) c.session s; used = (z i).used; sent = (z i).sent; output = (z i).output }

called_untouched : (p : Phase) (s out : List ℕ) (c : Call) → ((e : SocksError) → c.answer ≡ code.Refused e → c ≡ refusal e (route_at s) out) → Untouched (called_in p s out c) s out
called_untouched preparing s out c h n = refl
called_untouched opened s out c h n = returned_untouched s out c h n
called_untouched over s out c h n = returned_untouched s out c h n

called_behind : (p : Phase) (s out : List ℕ) (c : Call) → Behind c out → Behind (called_in p s out c) out
called_behind preparing s out c b = record { bytes = refl; size = refl }
called_behind opened s out c b = record { bytes = b.bytes; size = b.size }
called_behind over s out c b = record { bytes = b.bytes; size = b.size }

called_counts : (p : Phase) (s out : List ℕ) (c : Call) → (c.used ≡ 0) × (c.sent ≡ 0) → ((called_in p s out c).used ≡ 0) × ((called_in p s out c).sent ≡ 0)
called_counts preparing s out c h = (refl, refl)
called_counts opened s out c h = h
called_counts over s out c h = h

-- accepted, it was in turn, and the route's call is
returned_accepts : (s : List ℕ) (c : Call) → (returned s c).answer ≡ 0 → (c.answer ≡ code.Accepted) × ((returned s c).session ≡ left_by code.Accepted c.session s)
returned_accepts s c q = let a = number_accepted c.answer q in (a, ap (λ (x : code.Answer). left_by x c.session s) a)

called_accepts : (p : Phase) (s out : List ℕ) (c : Call) → (called_in p s out c).answer ≡ 0 → (c.answer ≡ code.Accepted) × ((called_in p s out c).session ≡ left_by code.Accepted c.session s)
called_accepts preparing s out c q = absurd (omega arith)
called_accepts opened s out c q = returned_accepts s c q
called_accepts over s out c q = returned_accepts s c q

end_counts : (r : Route) → ((end r).used ≡ 0) × ((end r).sent ≡ 0)
unfolding end
end_counts r = (refl, refl)

-- ---- an opening

module _ (s out : List ℕ) where
  abbrev n : ℕ
  n = count_at s

  abbrev none : Bool
  none = eqb n 0 || ltb 8 n

  abbrev hops : List Hop
  hops = hops_in s (last_in n)

  abbrev bytes : List ℕ
  bytes = bytes_in s (last_in n)

  abbrev first : List ℕ
  first = goes_at hops bytes (n - 1)

  abbrev begun : Route
  begun = begun_with hops bytes n

  abbrev opening : Bool → Call
  opening b = cond b (refusal RouteLength (empty_route RouteLength) out) (route.begins begun first out)

  open_is : open_call s out ≡ opening none
  unfolding open_call
  open_is = refl

  pub open_answers : (open_call s out).answer ≡ refuse none RouteLength code.Accepted
  open_answers = ap (λ (c : Call). c.answer) open_is ∙ go none
    where
      go : (b : Bool) → (opening b).answer ≡ refuse b RouteLength code.Accepted
      go true = refl
      go false = refl

  or_false : (a b : Bool) → (a || b) ≡ false → b ≡ false
  or_false true b q = absurd (true≢false q)
  or_false false b q = q

  open_accepts : (open_call s out).answer ≡ code.Accepted → (n ≤ 8) × (open_call s out ≡ route.begins begun first out)
  open_accepts q = go none refl (ap (λ (c : Call). c.answer) (sym open_is) ∙ q)
    where
      go : (b : Bool) → none ≡ b → (opening none).answer ≡ code.Accepted → (n ≤ 8) × (open_call s out ≡ route.begins begun first out)
      go true e q = absurd (clash (sym (ap (λ (b : Bool). (opening b).answer) (sym e) ∙ q)))
      go false e q = (ltb-false 8 n (or_false (eqb n 0) (ltb 8 n) e), open_is ∙ ap opening e)

  begun_held : n ≤ 8 → Held begun
  begun_held h = fresh_held (hop_at hops (n - 1)).first n (n - 1) hops bytes (omega arith) (omega arith)

  -- accepted, it means the first proxy's session, begun
  opened_session : (p : Phase) → (opens_in p s out).answer ≡ 0 → session_at (opens_in p s out).session ≡ spoken begun (drop 282 s)
  opened_session preparing q =
      let (h, e) = open_accepts (number_accepted (open_call s out).answer q) in
      ap (λ (c : Call). session_at (open_left c.answer c.session s)) e ∙ spoken_back begun (drop 282 s) (begun_held h)
  opened_session opened q = absurd (omega arith)
  opened_session over q = absurd (omega arith)

  open_none : (p : Phase) → (opens_in p s out).answer ≡ 21 → opens_in p s out ≡ record { answer = 21; session = state_of (empty_route RouteLength); used = 0; sent = 0; output = out }
  open_none preparing q = ap (begins s) open_is ∙ go none (ap (λ (c : Call). answer_number c.answer) (sym open_is) ∙ q)
    where
      go : (b : Bool) → answer_number (opening b).answer ≡ 21 → begins s (opening b) ≡ record { answer = 21; session = state_of (empty_route RouteLength); used = 0; sent = 0; output = out }
      go true q = refl
      go false q = absurd (omega arith)
  open_none opened q = absurd (omega arith)
  open_none over q = absurd (omega arith)

  open_used : (p : Phase) → (opens_in p s out).used ≡ 0
  open_used preparing = ap (λ (c : Call). c.used) open_is ∙ go none
    where
      go : (b : Bool) → (opening b).used ≡ 0
      go true = refl
      go false = refl
  open_used opened = refl
  open_used over = refl

  open_behind : length out ≡ 8192 → (p : Phase) → Behind (opens_in p s out) out
  open_behind l preparing = subst (λ (c : Call). Behind (begins s c) out) (sym open_is) (go none)
    where
      go : (b : Bool) → Behind (begins s (opening b)) out
      go true = record { bytes = refl; size = refl }
      go false = stand_at 0 _ 0 first out (omega (arith, l, first_room_lem (hop_at hops (n - 1)).first (requests_at hops bytes (n - 1))))
  open_behind l opened = record { bytes = refl; size = refl }
  open_behind l over = record { bytes = refl; size = refl }

  open_untouched : (p : Phase) → (p ≡ preparing → ⊥) → opens_in p s out ≡ record { answer = (opens_in p s out).answer; session = s; used = 0; sent = 0; output = out }
  open_untouched preparing f = absurd (f refl)
  open_untouched opened f = refl
  open_untouched over f = refl

-- ---- a hop

hop_untouched : (p : Phase) → (p ≡ preparing → ⊥) → (x : code.Answer) (s : List ℕ) (o : Opening) → hop_left p x s o ≡ s
hop_untouched preparing f x s o = absurd (f refl)
hop_untouched opened f x s o = refl
hop_untouched over f x s o = refl

waits_told : (x : Session) {e : Reply} → x.stage ≡ Awaiting e → (outcome_of (session.outcome x) ≡ record { state = 0; number = 0; status = 0 }) × (address_of (session.bound x) ≡ address_of no_address)
waits_told x q = (
  ap (λ (g : Stage). outcome_of (client.outcome_of (view_at g x.bound (held_bytes x)))) q,
  ap (λ (g : Stage). address_of (endpoints.address_of (client.bound_in (view_at g x.bound (held_bytes x))))) q,
)

-- ---- an end

module _ (s : List ℕ) (y : Bytes s) (l : length s ≡ 8538) where
  below : (at k : ℕ) → at + k ≤ 8538 → numbers.number (take k (drop at s)) < 256 ^ k
  below at k h =
      let z : length (take k (drop at s)) ≡ k = simp (length-take, length-drop) (omega arith) in
      subst (λ (j : ℕ). numbers.number (take k (drop at s)) < 256 ^ j) z (number_below (take k (drop at s)) (bytes_part s at k y))

  any_fits : Fits (keeping (session_at s) (replicate 1024 0))
  any_fits =
      record {
        attempts = below 0 8 (omega arith);
        held = below 8 2 (omega arith);
        first = below 10 2 (omega arith);
        authentication = below 12 2 (omega arith);
        proxy = below 14 2 (omega arith);
        port = below 16 2 (omega arith);
        hold = simp (length-take, length-drop) (omega arith);
        bytes = length-replicate {A = ℕ} 1024 0;
      }

  abbrev r : Route
  r = route_at s

  end_fits : (end r).answer ≡ code.Accepted → Fits (keeping (onward (session_at s) (end r).session) (replicate 1024 0))
  unfolding end
  end_fits q =
      let f = any_fits in
      subst (λ (c : session-calls.Call). Fits (keeping (onward (session_at s) (with_session r r.behind c.session)) (replicate 1024 0))) (sym (sessions.end_accepts (session_in r) q))
      (record { attempts = f.attempts; held = lit< tt; first = f.first; authentication = f.authentication; proxy = f.proxy; port = f.port; hold = f.hold; bytes = f.bytes })

  told_left : (x : Route) → Fits (keeping (onward (session_at s) x) (replicate 1024 0)) → {how : Outcome} {at : Address} {tries held : ℕ} → routes.Tells x how at tries held
      → LentTells (states.state_of (onward (session_at s) x)) (outcome_of how) (address_of at) tries
  told_left x f w =
      let b = read_back (onward (session_at s) x) (replicate 1024 0) f in
      record {
        outcomes = ap (λ (t : Session). outcome_of (session.outcome t)) b ∙ ap outcome_of w.outcomes;
        bounds = ap (λ (t : Session). address_of (session.bound t)) b ∙ ap address_of w.bounds;
        attempts = ap (λ (t : Session). t.attempts) b ∙ w.attempts;
      }

-- ---- a text

abbrev Texts : List ℕ → List ℕ → Type 0
Texts s buffer =
    let c = write_bound (session_at s) buffer in
    Answers (answer_number c.answer) ((((outcome_at s).state ≡ 1 → ⊥) ↣ 17) ∷ ((length buffer < length (bound_text (session.bound (session_at s)))) ↣ 18) ∷ [])
    × (drop c.len c.buffer ≡ drop c.len buffer)

texts : (s buffer : List ℕ) → Texts s buffer
texts s buffer = go (sessions.any_in_turn (session_at s))
  where
    told : (room next : ℕ) → InTurn room next (session_at s) → Texts s buffer
    told room next t = (same_conditions (open_number (session.outcome (session_at s))) (t.text_number buffer), t.text_behind buffer)

    go : InTurn 778 778 (session_at s) ⊎ InTurn 1024 262 (session_at s) → Texts s buffer
    go (inl t) = told 778 778 t
    go (inr t) = told 1024 262 t

-- ---- of any bytes

pub route_turns : RouteTurns
route_turns s y l out m =
    let x = session_at s in
    let r = route_at s in
    let b = x.bound in
    let h = held_bytes x in
    let settles = over_just (view x) in
    let t = (any_in_turn r).3 in
    let late : Late s → phase_at s ≡ preparing → ⊥ = late_phase b h x.stage x.started in
    let early : (Late s → ⊥) → phase_at s ≡ preparing = early_phase b h x.stage x.started in
    let empties : (a : Asked) (e : SocksError) → (Late s → ⊥) → hop_told a s ≡ code.Refused e → hopped a s ≡ state_of (empty_route e) = λ a e n q i. hop_left (early n i) (q i) s (opening_for a) in
    let adds : (a : Asked) (q : hop_told a s ≡ code.Accepted) → hopped a s ≡ with_hop s (opening_for a) = λ a q i. hop_left ((hop_accepts (phase_at s) (count_at s) a q).0 i) (q i) s (opening_for a) in
    let few : (a : Asked) → hop_told a s ≡ code.Accepted → count_at s < 8 = λ a q. (hop_accepts (phase_at s) (count_at s) a q).1 in
    let long : 8538 ≤ length s = omega (arith, l) in
    let waits : (a : Asked) → hop_told a s ≡ code.Accepted → Prepared x.stage x.started = λ a q. prepared_is x.stage x.started (hop_accepts (phase_at s) (count_at s) a q).0 in
    record {
      hop_number = λ a.
          rw (hop_as b h x.stage x.started (count_at s) a)
          (checked _ _ Settled 16 _ _ refl (lit< tt) settles
          (checked x.started _ OutOfOrder 22 _ _ refl (lit< tt) (λ q. q, λ q. q) (checked (leb 8 (count_at s)) _ RouteLength 21 _ _ refl (lit< tt) (leb-true 8 (count_at s), le-leb 8 (count_at s)) (for_just a))));
      hop_untouched = λ a w. hop_untouched (phase_at s) (late w) (hop_told a s) s (opening_for a);
      hop_empties = empties;
      hop_fails = λ a e n q.
          let f = ap session_at (empties a e n q) ∙ failed_back e in
          record {
            outcomes = ap (λ (t : Session). outcome_of (session.outcome t)) f;
            bounds = ap (λ (t : Session). address_of (session.bound t)) f;
            attempts = ap (λ (t : Session). t.attempts) f;
          };
      hop_counts = λ a q. ap count_at (adds a q) ∙ counts_more s long (opening_for a) (few a q);
      hop_keeps = λ a q.
          let p = stage_stays s long (opening_for a) (few a q) ∙ (waits a q).awaits in
          let (u, v) = waits_told (session_at (with_hop s (opening_for a))) p in
          rw (adds a q) (record { outcomes = u; bounds = v; attempts = attempts_stay s long (opening_for a) (few a q) });
      hop_unmarked = λ a q. ap started_at (adds a q) ∙ started_stays s long (opening_for a) (few a q) ∙ (waits a q).unstarted;
      open_number =
          rw (open_as b h x.stage x.started s out, open_answers s out)
          (checked _ _ Settled 16 _ _ refl (lit< tt) settles (checked x.started _ OutOfOrder 22 _ _ refl (lit< tt) (λ q. q, λ q. q) (sized (count_at s))));
      open_untouched = λ w. open_untouched s out (phase_at s) (late w);
      open_none = open_none s out (phase_at s);
      open_used = open_used s out (phase_at s);
      open_marks = λ q. ap (λ (t : Session). t.started) (opened_session s out (phase_at s) q);
      open_waits = λ q.
          let f = opened_session s out (phase_at s) q in
          record {
            outcomes = ap (λ (t : Session). outcome_of (session.outcome t)) f;
            bounds = ap (λ (t : Session). address_of (session.bound t)) f;
            attempts = ap (λ (t : Session). t.attempts) f;
          };
      deliver_number = λ piece.
          rw (called_as b h x.stage x.started s out (deliver r piece out) (deliver_answers r piece out m))
          (checked _ _ Settled 16 _ _ refl (lit< tt) settles (checked (not x.started) _ OutOfOrder 22 code.Accepted [] refl (lit< tt) (truth_just x.started) all_passed));
      end_number =
          rw (called_as b h x.stage x.started s [] (end r) (end_answers r))
          (checked _ _ Settled 16 _ _ refl (lit< tt) settles (checked (not x.started) _ OutOfOrder 22 code.Accepted [] refl (lit< tt) (truth_just x.started) all_passed));
      deliver_untouched = λ piece. called_untouched (phase_at s) s out (deliver r piece out) (t.deliver_untouched piece out);
      end_untouched = called_untouched (phase_at s) s [] (end r) t.end_untouched;
      end_used = (called_counts (phase_at s) s [] (end r) (end_counts r)).0;
      end_sent = (called_counts (phase_at s) s [] (end r) (end_counts r)).1;
      end_fails = λ q.
          let (a, e) = called_accepts (phase_at s) s [] (end r) q in
          rw e (told_left s y l (end r).session (end_fits s y l a) (t.end_fails a));
      open_behind = open_behind s out m (phase_at s);
      deliver_behind = λ piece. called_behind (phase_at s) s out (deliver r piece out) (t.deliver_behind piece out);
      text_number = λ buffer. (texts s buffer).0;
      text_behind = λ buffer. (texts s buffer).1;
    }

pub route_zeros : RouteZeros
unfolding stage_of stage_at error_of error_among numbers.number deliver end session-calls.end write_bound
route_zeros = record { stands = refl; hop = λ a. refl; opens = λ out. refl; deliver = λ piece out. refl; end = refl; text = λ buffer. refl }
