-- What the calls that prepare a route leave, by what the functions below them say.
use Prim.Native.Nat.{ℕ, ◌+◌, ◌-◌, ◌*◌, ◌≤◌, ◌<◌}
use native.Mathlib.Omega.{arith}
use mathlib.Core.Path.{◌≡◌, refl, sym, ap, subst, ◌∙◌}
use mathlib.Core.Bool.{Bool, true, false, cond}
use mathlib.Core.List.{List, [], ◌∷◌, ◌++◌, append-nil}
use lib.ListN.{length, take, drop, set, replicate, length-take, length-drop, length-replicate, take-append-drop}
use lib.Seq.{take_at, drop_at, drop-drop, length-take-le}
use borrow.Author.Tests.{le-leb, lt-leb}
use Rattle.protocol.specs.Answers.{Answer, Accepted, Refused, Port}
use Rattle.protocol.specs.declared.SocksError.{SocksError}
use Rattle.protocol.specs.declared.SocksError.TheVariants.{RouteLength}
use Rattle.protocol.specs.Numbers.{number, status, answer_number}
use Rattle.protocol.specs.Opening.{Opening, refuse}
use Rattle.buffers.specs.write.Written.{overwrite, Wrote}
use Rattle.buffers.proofs.write.Laws.{length_overwrite}
use Rattle.client_stages.specs.declared.due.Stage.{Stage}
use Rattle.client_stages.specs.declared.due.Stage.TheVariants.{Awaiting, Open, Failed}
use Rattle.client_session.specs.declared.Prepared.{Prepared}
use Rattle.client_session.specs.declared.Session.{Session}
use Rattle.client_session.specs.Calls.{kept_by, prepared_by, prepare5, prepare4}
use Rattle.client_opening.specs.declared.common.Begun.{Begun}
use Rattle.client_opening.specs.common.Begun.{prepared_with}
use Rattle.raw_numbers.specs.Numbers.{truth, bit, port_of}
use Rattle.lent_session.specs.declared.preparing.RawConfig.{RawConfig}
use Rattle.lent_numbers.specs.bytes.Numbers.{digits}
use Rattle.lent_numbers.proofs.bytes.Laws.{length_digits}
use Rattle.lent_session.specs.State.{reply_number, session_at}
use Rattle.lent_session.specs.Fits.{awaited_number}
use Rattle.lent_session.proofs.Codes.{reply_some}
use Rattle.route_delivery.specs.declared.Hop.{Hop}
use Rattle.route_spec.specs.Route.{Asked, over5, over4, opening_for, check_for}
use Rattle.route_session.specs.plan.Plan.{first_in, hop_for, hops_for, bytes_for, prepared_for}
use Rattle.route_session.specs.calls.Calls.{empty_route}
use Rattle.lent_route.specs.State.{Phase, preparing, opened, over, phase_by, phase_at, count_at, slot_of, slots_of, kept_of, state_of, preparing_of}
use Rattle.lent_route.specs.Calls.{asked5, asked4, hop_answer, hop_left, hop_told, Hops}
use Rattle.lent_route.specs.declared.preparing.Ready.{Ready}
use Rattle.lent_route.specs.preparing.Keeping.{turn_of, kept_left, ReadyResult}
use Rattle.lent_route.proofs.Lists.{zeros_row, overwrite_at}
use Rattle.lent_route.proofs.Laws.{behind}
use Rattle.lent_route.proofs.Writing.{keeping}
use Rattle.lent_route.proofs.Prefix.{prefix}

-- ---- all zeros but the code, the error and the status

blank_tail : replicate {A = ℕ} 8517 0 ≡ replicate 261 0 ++ kept_of 0 [] []
unfolding slots_of
blank_tail =
    zeros_row 261 8256 8517 refl
    ∙ ap (λ (t : List ℕ). replicate 261 0 ++ t) (zeros_row 64 8192 8256 refl ∙ (λ i. sym (append-nil (replicate {A = ℕ} 64 0)) i ++ sym (append-nil (replicate {A = ℕ} 8192 0)) i))

module _ (s : List ℕ) (l : length s ≡ 8538) {s₁ : List ℕ} (q : s₁ ≡ replicate (length s) 0) where
  blank : s₁ ≡ replicate 21 0 ++ replicate 8517 0
  blank = q ∙ ap (λ (n : ℕ). replicate n 0) l ∙ zeros_row 21 8517 8538 refl

  pub begins_empty : set s₁ 18 1 ≡ preparing_of []
  unfolding digits hops_for bytes_for
  begins_empty = ap (λ (t : List ℕ). set t 18 1) blank ∙ ap (λ (t : List ℕ). replicate 18 0 ++ (1 ∷ 0 ∷ 0 ∷ t)) blank_tail

  pub fails_with : (e : SocksError) {n m p : ℕ} {s₂ : List ℕ} → n ≡ number e → m ≡ status e → Wrote s₁ 18 (8 ∷ n ∷ m ∷ []) p s₂ → s₂ ≡ state_of (empty_route e)
  unfolding digits overwrite
  fails_with e {n} {m} x y w = w.bytes ∙ ap (λ (t : List ℕ). overwrite t 18 (8 ∷ n ∷ m ∷ [])) blank ∙ (λ i. replicate 18 0 ++ (8 ∷ x i ∷ y i ∷ blank_tail i))

-- ---- whether a call is in turn

module _ (g : Stage) (b : Bool) {n : ℕ} (q : n ≡ awaited_number g) where
  pub is_over_lem : n ≡ 0 → phase_by g b ≡ over
  is_over_lem z = go g q
    where
      go : (h : Stage) → n ≡ awaited_number h → phase_by h b ≡ over
      go (Awaiting e) r = absurd (omega (arith, r, z, reply_some e))
      go Open r = refl
      go (Failed x) r = refl

  pub waits : (n ≡ 0 → ⊥) → (x : Bool) → x ≡ b → phase_by g b ≡ cond x opened preparing
  waits z x e = go g q x b e
    where
      go : (h : Stage) → n ≡ awaited_number h → (x b : Bool) → x ≡ b → phase_by h b ≡ cond x opened preparing
      go (Awaiting r) w true b e = ap (λ (y : Bool). phase_by (Awaiting r) y) (sym e)
      go (Awaiting r) w false b e = ap (λ (y : Bool). phase_by (Awaiting r) y) (sym e)
      go Open w x b e = absurd (z w)
      go (Failed f) w x b e = absurd (z w)

module _ (s : List ℕ) (l : length s ≡ 8538) {n : ℕ} (q : n ≡ awaited_number (session_at (take 1306 s)).stage) where
  same : session_at (take 1306 s) ≡ keeping (session_at s) (take 1024 (drop 282 s))
  same = prefix s (omega (arith, l))

  awaits : n ≡ awaited_number (session_at s).stage
  awaits = q ∙ ap (λ (x : Session). awaited_number x.stage) same

  pub phase_over : n ≡ 0 → phase_at s ≡ over
  phase_over z = is_over_lem (session_at s).stage (session_at s).started awaits z

  pub phase_waits : (n ≡ 0 → ⊥) → {b : Bool} → b ≡ (session_at (take 1306 s)).started → phase_at s ≡ cond b opened preparing
  phase_waits z {b} e = waits (session_at s).stage (session_at s).started awaits z b (e ∙ ap (λ (x : Session). x.started) same)

pub in_turn : (p : Phase) {r : ℕ} → r ≡ answer_number (turn_of p) → r ≡ 0 → p ≡ preparing
in_turn preparing q z = refl
in_turn opened q z = absurd (omega (arith, q, z))
in_turn over q z = absurd (omega (arith, q, z))

not_in_turn : (p : Phase) (n : ℕ) (a : Asked) {r : ℕ} → r ≡ answer_number (turn_of p) → (r ≡ 0 → ⊥) → (s : List ℕ) (o : Opening) → (r ≡ answer_number (hop_answer p n a)) × (s ≡ hop_left p (hop_answer p n a) s o)
not_in_turn preparing n a q z s o = absurd (z q)
not_in_turn opened n a q z s o = (q, refl)
not_in_turn over n a q z s o = (q, refl)

pub untimely : (s : List ℕ) {r : ℕ} → r ≡ answer_number (turn_of (phase_at s)) → (r ≡ 0 → ⊥) → (a : Asked) → Hops a s r s
untimely s q z a = let (x, y) = not_in_turn (phase_at s) (count_at s) a q z s (opening_for a) in record { returned = x; left = y }

-- a ninth
pub ninth : (s : List ℕ) {r : ℕ} {s' : List ℕ} → phase_at s ≡ preparing → 8 ≤ count_at s → (r ≡ number RouteLength) × (s' ≡ state_of (empty_route RouteLength)) → (a : Asked) → Hops a s r s'
ninth s {r} {s'} p h (x, y) a =
    let t : hop_told a s ≡ Refused RouteLength = ap (λ (q : Phase). hop_answer q (count_at s) a) p ∙ ap (λ (b : Bool). refuse b RouteLength (check_for a)) (le-leb 8 (count_at s) h) in
    record { returned = x ∙ ap answer_number (sym t); left = y ∙ sym (λ i. hop_left (p i) (t i) s (opening_for a)) }

pub not_zero : {n : ℕ} → n ≡ number RouteLength → n ≡ 0 → ⊥
not_zero q z = omega (arith, q, z)

-- ---- what is kept

pub slot_put : (h : Hop) {o o₁ o₂ o₃ o₄ o₅ : List ℕ} {at p₁ p₂ p₃ p₄ p₅ a b : ℕ} → a ≡ reply_number h.first - 1 → b ≡ bit h.lengths.optimistic → Wrote o at (a ∷ []) p₁ o₁ → Wrote o₁ (at + 1) (b ∷ []) p₂ o₂
    → Wrote o₂ (at + 2) (digits 2 h.lengths.first) p₃ o₃ → Wrote o₃ (at + 4) (digits 2 h.lengths.authentication) p₄ o₄ → Wrote o₄ (at + 6) (digits 2 h.lengths.proxy) p₅ o₅ → Wrote o at (slot_of h) p₅ o₅
slot_put h {o} {o₅ = o₅} {at = at} {p₅ = p₅} x y v₁ v₂ v₃ v₄ v₅ =
    let l = h.lengths in
    subst (λ (t : List ℕ). Wrote o at t p₅ o₅) (λ i. x i ∷ y i ∷ (digits 2 l.first ++ (digits 2 l.authentication ++ digits 2 l.proxy)))
    (behind 1 refl v₁
    (behind 1 refl v₂ (behind 2 (length_digits 2 l.first) v₃ (behind 2 (length_digits 2 l.authentication) v₄ v₅ (omega arith)) (omega arith)) (omega arith))
    refl)

pub kept_accepted : {x : Answer} → x ≡ Accepted → (s : List ℕ) (n : ℕ) (h : Hop) {s₁ s₂ : List ℕ} {p q : ℕ} → Wrote s (282 + 8 * (7 - n)) (slot_of h) p s₁ → Wrote s₁ 10 (digits 2 (n + 1)) q s₂
    → (0 ≡ answer_number x) × (s₂ ≡ kept_left x s n h)
kept_accepted e s n h {s₁} {s₂} v w =
    subst (λ (y : Answer). (0 ≡ answer_number y) × (s₂ ≡ kept_left y s n h)) (sym e) (refl, w.bytes ∙ ap (λ (t : List ℕ). overwrite t 10 (digits 2 (n + 1))) v.bytes)

pub kept_refused : {x : Answer} {e : SocksError} → x ≡ Refused e → (s : List ℕ) (n : ℕ) (h : Hop) {r : ℕ} {s' : List ℕ} → (r ≡ number e) × (s' ≡ state_of (empty_route e)) → (r ≡ answer_number x) × (s' ≡ kept_left x s n h)
kept_refused q s n h {r} {s'} w = subst (λ (y : Answer). (r ≡ answer_number y) × (s' ≡ kept_left y s n h)) (sym q) w

-- ---- a slot is cleared

pub slot_cleared : (s : List ℕ) (from : ℕ) → from + 1024 ≤ length s → {ys : List ℕ} → ys ≡ replicate (length (take (from + 1024 - from) (drop from s))) 0
    → take from s ++ (ys ++ drop (from + 1024 - from) (drop from s)) ≡ overwrite s from (replicate 1024 0)
unfolding overwrite
slot_cleared s from h q =
    let z : from + 1024 - from ≡ 1024 = omega arith in
    let k : length (take (from + 1024 - from) (drop from s)) ≡ 1024 = rw (z, length-take 1024 (drop from s), length-drop from s) (omega arith) in
    let l : length (replicate {A = ℕ} 1024 0) ≡ 1024 = length-replicate {A = ℕ} 1024 0 in
    (λ i. take from s ++ ((q ∙ ap (λ (n : ℕ). replicate n 0) k) i ++ drop (z i) (drop from s)))
    ∙ ap (λ (t : List ℕ). take from s ++ (replicate 1024 0 ++ t)) (drop-drop 1024 from s ∙ ap (λ (n : ℕ). drop (from + n) s) (sym l))

module _ (s : List ℕ) (l : length s ≡ 8538) {r : ℕ} (t : r ≡ answer_number (turn_of (phase_at s))) where
  pub ready_not : (r ≡ 0 → ⊥) → ReadyResult s (record { answer = r; count = 0 }) s
  ready_not z = record { taken = λ e. absurd (z e); not = λ x. untimely s t z }

  module _ (z : r ≡ 0) {n : ℕ} (q : n ≡ count_at s) where
    pub ready_ninth : 8 ≤ n → {a : ℕ} {s' : List ℕ} → (a ≡ number RouteLength) × (s' ≡ state_of (empty_route RouteLength)) → ReadyResult s (record { answer = a; count = 0 }) s'
    ready_ninth h w = record { taken = λ e. absurd (not_zero w.0 e); not = λ x. ninth s (in_turn (phase_at s) t z) (subst (λ (k : ℕ). 8 ≤ k) q h) w }

    pub ready_taken : n < 8 → {s' : List ℕ} → s' ≡ overwrite s (346 + 1024 * (7 - n)) (replicate 1024 0) → ReadyResult s (record { answer = 0; count = n }) s'
    ready_taken h w = record { taken = λ e. (in_turn (phase_at s) t z, (q, (h, w))); not = λ x. absurd (x refl) }

-- ---- a hop that is taken

part_size : (s : List ℕ) (from : ℕ) → from + 1024 ≤ length s → length (take (from + 1024 - from) (drop from s)) ≡ 1024
part_size s from h = let z : from + 1024 - from ≡ 1024 = omega arith in rw (z, length-take 1024 (drop from s), length-drop from s) (omega arith)

-- bytes put back where they were lent
pub mid_as : (s b : List ℕ) (from : ℕ) → length b ≡ 1024 → take from s ++ (b ++ drop (from + 1024 - from) (drop from s)) ≡ overwrite s from b
unfolding overwrite
mid_as s b from k =
    let z : from + 1024 - from ≡ 1024 = omega arith in
    ap (λ (n : ℕ). take from s ++ (b ++ drop n (drop from s))) z ∙ ap (λ (t : List ℕ). take from s ++ (b ++ t)) (drop-drop 1024 from s ∙ ap (λ (n : ℕ). drop (from + n) s) (sym k))

module _ (s : List ℕ) (from : ℕ) (h : from + 1024 ≤ length s) where
  abbrev zeros : List ℕ
  zeros = replicate 1024 0

  zeros_size : length zeros ≡ 1024
  zeros_size = length-replicate {A = ℕ} 1024 0

  split : s ≡ take from s ++ (take 1024 (drop from s) ++ drop 1024 (drop from s))
  split = sym (ap (λ (t : List ℕ). take from s ++ t) (take-append-drop 1024 (drop from s)) ∙ take-append-drop from s)

  head_size : length (take from s) ≡ from
  head_size = length-take-le from s (omega arith)

  mid_size : length (take 1024 (drop from s)) ≡ 1024
  mid_size = rw (length-take 1024 (drop from s), length-drop from s) (omega arith)

  put : (b : List ℕ) → length b ≡ 1024 → overwrite s from b ≡ take from s ++ (b ++ drop 1024 (drop from s))
  put b k = ap (λ (t : List ℕ). overwrite t from b) split ∙ overwrite_at (take from s) (take 1024 (drop from s)) (drop 1024 (drop from s)) b from head_size (k ∙ sym mid_size)

  -- what is lent is cleared
  pub lent_zeros : {s₁ : List ℕ} → s₁ ≡ overwrite s from zeros → take (from + 1024 - from) (drop from s₁) ≡ zeros
  lent_zeros q =
      let z : from + 1024 - from ≡ 1024 = omega arith in
      (λ i. take (z i) (drop from ((q ∙ put zeros zeros_size) i)))
      ∙ ap (take 1024) (drop_at (take from s) (zeros ++ drop 1024 (drop from s)) from head_size) ∙ take_at zeros (drop 1024 (drop from s)) 1024 zeros_size

  -- and written over
  pub twice : {s₁ : List ℕ} → s₁ ≡ overwrite s from zeros → (b : List ℕ) → length b ≡ 1024 → take from s₁ ++ (b ++ drop (from + 1024 - from) (drop from s₁)) ≡ overwrite s from b
  twice {s₁} q b k =
      mid_as s₁ b from k ∙ ap (λ (t : List ℕ). overwrite t from b) (q ∙ put zeros zeros_size)
      ∙ overwrite_at (take from s) zeros (drop 1024 (drop from s)) b from head_size (k ∙ sym zeros_size) ∙ sym (put b k)

  pub twice_long : {s₁ : List ℕ} → s₁ ≡ overwrite s from zeros → (b : List ℕ) → length b ≡ 1024 → length (take from s₁ ++ (b ++ drop (from + 1024 - from) (drop from s₁))) ≡ length s
  twice_long q b k = ap length (twice q b k) ∙ length_overwrite s from b (omega (arith, k))

prepared_by_lem : (a : Asked) → prepared_for a ≡ prepared_by (check_for a) (opening_for a)
unfolding prepare5 prepare4
prepared_by_lem (over5 a) = refl
prepared_by_lem (over4 a) = refl

module _ (a : Asked) (begun : Begun) (b : List ℕ) (q : prepared_with begun b ≡ prepared_for a) where
  both : prepared_with begun b ≡ prepared_by (check_for a) (opening_for a)
  both = q ∙ prepared_by_lem a

  abbrev hop : Hop
  hop = record { first = first_in begun.stage; lengths = begun.lengths }

  answer_is : begun.answer ≡ check_for a
  answer_is = ap (λ (x : Prepared). x.answer) both ∙ go (check_for a)
    where
      go : (x : Answer) → (prepared_by x (opening_for a)).answer ≡ x
      go Accepted = refl
      go (Refused e) = refl

  module _ (s : List ℕ) {r : Ready} {s₁ : List ℕ} (v : ReadyResult s r s₁) (z : r.answer ≡ 0) (k : length b ≡ 1024) {n : ℕ} {s₂ s₃ : List ℕ} (m : s₂ ≡ overwrite s (346 + 1024 * (7 - r.count)) b)
      (w : (n ≡ answer_number begun.answer) × (s₃ ≡ kept_left begun.answer s₂ r.count hop)) where
    in_phase : phase_at s ≡ preparing
    in_phase = (v.taken z).0

    count_is : r.count ≡ count_at s
    count_is = (v.taken z).1.0

    told_is : hop_told a s ≡ check_for a
    told_is =
        ap (λ (p : Phase). hop_answer p (count_at s) a) in_phase
        ∙ ap (λ (x : Bool). refuse x RouteLength (check_for a)) (lt-leb 8 (count_at s) (subst (λ (i : ℕ). i < 8) count_is (v.taken z).1.1.0))

    left_by : (x : Answer) → begun.answer ≡ x → s₃ ≡ hop_left preparing x s (opening_for a)
    left_by (Refused e) g = w.1 ∙ ap (λ (y : Answer). kept_left y s₂ r.count hop) g
    left_by Accepted g =
        let o = opening_for a in
        let p : prepared_with begun b ≡ prepared_by Accepted o = both ∙ ap (λ (y : Answer). prepared_by y o) (sym answer_is ∙ g) in
        let f : hop ≡ hop_for o = ap (λ (y : Prepared). record { first = first_in y.session.stage; lengths = y.session.requests.lengths }) p in
        let c : b ≡ (kept_by o).bytes = ap (λ (y : Prepared). y.session.requests.bytes) p in
        w.1
        ∙ ap (λ (y : Answer). kept_left y s₂ r.count hop) g
        ∙ ap (λ (t : List ℕ). kept_left Accepted t r.count hop) m
        ∙ (λ i. overwrite (overwrite (overwrite s (346 + 1024 * (7 - count_is i)) (c i)) (282 + 8 * (7 - count_is i)) (slot_of (f i))) 10 (digits 2 (count_is i + 1)))

    pub hops_on : Hops a s n s₃
    hops_on =
        record {
          returned = w.0 ∙ ap answer_number (answer_is ∙ sym told_is);
          left = left_by begun.answer refl ∙ (λ i. hop_left (sym in_phase i) ((answer_is ∙ sym told_is) i) s (opening_for a));
        }

-- ---- what a hop asks for

pub asks5 : (c : RawConfig) (host : List ℕ) (port : ℕ) (user password : List ℕ) {x y : Bool} {p : Port} → x ≡ truth c.proxy_auth → y ≡ truth c.optimistic → p ≡ port_of port → {r : Prepared}
    → r ≡ prepare5 (record { config = record { proxy_auth = x; local_dns = false; optimistic = y }; host = host; port = p; user = user; password = password; records = [] }) → r ≡ prepared_for (asked5 c host port user password)
asks5 c host port user password x y p q =
    q ∙ (λ i. prepare5 (record { config = record { proxy_auth = x i; local_dns = false; optimistic = y i }; host = host; port = p i; user = user; password = password; records = [] }))

pub asks4 : (host : List ℕ) (port : ℕ) {p : Port} → p ≡ port_of port → {r : Prepared} → r ≡ prepare4 (record { local_dns = false; host = host; port = p; records = [] }) → r ≡ prepared_for (asked4 host port)
asks4 host port p q = q ∙ (λ i. prepare4 (record { local_dns = false; host = host; port = p i; records = [] }))
