-- What a hop that is accepted leaves of a route's lent bytes, and all hops of a row.
use Prim.Native.Nat.{ℕ, suc, ◌+◌, ◌-◌, ◌*◌, ◌/◌, ◌%◌, ◌^◌, ◌≤◌, ◌<◌}
use native.Mathlib.Omega.{arith}
use native.Mathlib.Numerals.{add-one}
use mathlib.Core.Path.{◌≡◌, refl, ap, sym, ◌∙◌}
use mathlib.Core.Bool.{Bool, true, false}
use mathlib.Core.List.{List, [], ◌∷◌, ◌++◌}
use lib.ListN.{length, replicate, length-append, length-replicate}
use lib.Dec.{eqb, leb, lit<}
use borrow.Author.Tests.{leb-false}
use Rattle.protocol.specs.Answers.{Answer, Accepted, Refused}
use Rattle.protocol.specs.declared.Reply.{Reply}
use Rattle.protocol.specs.declared.SocksError.TheVariants.{RouteLength}
use Rattle.protocol.specs.Bytes.{byte}
use Rattle.protocol.specs.Opening.{refuse, Opening}
use Rattle.protocol.proofs.Openings.{clash}
use Rattle.buffers.specs.write.Written.{overwrite}
use Rattle.client_stages.specs.declared.due.Stage.{Stage}
use Rattle.client_stages.specs.declared.due.Stage.TheVariants.{Awaiting, Open, Failed}
use Rattle.client_session.specs.Calls.{kept_by}
use Rattle.lent_numbers.specs.bytes.Numbers as numbers
use Rattle.lent_numbers.specs.bytes.Numbers.{digits}
use Rattle.lent_numbers.proofs.bytes.Laws.{length_digits, number_digits}
use Rattle.lent_session.specs.State.{stage_at, session_at}
use Rattle.route_spec.specs.Route.{Asked, opening_for, check_for, unless_refused}
use Rattle.route_session.specs.plan.Plan.{hop_for, hops_for, bytes_for}
use Rattle.lent_route.specs.State.{Phase, preparing, opened, over, phase_by, phase_at, count_at, slot_of, slots_of, kept_of}
use Rattle.lent_route.specs.Calls.{hop_answer, with_hop, hop_left, hop_told, hopped}
use Rattle.lent_route.specs.Together.{begun, all_hopped, all_told}
use Rattle.lent_route.proofs.Writing.{head_of}
use Rattle.lent_route.proofs.Prepared.{session_of, prepared_phase, prepared_count, prepared_row, prepared_head}
use Rattle.lent_tunnel.specs.Demand3.{attempts_at}
use Rattle.lent_tunnel.specs.Turns.{started_at}
use Rattle.lent_tunnel.proofs.Places.{long_enough, take_ahead, byte_ahead, bytes_there, byte_behind}

pub record Prepared (x : Stage) (t : Bool) : Type 0 where
  pub reply : Reply
  pub awaits : x ≡ Awaiting reply
  pub unstarted : t ≡ false

pub prepared_is : (x : Stage) (t : Bool) → phase_by x t ≡ preparing → Prepared x t
prepared_is (Awaiting e) true q = let z : ◌≡◌ {A = ℕ} 0 1 = cc in absurd (omega arith)
prepared_is (Awaiting e) false q = record { reply = e; awaits = refl; unstarted = refl }
prepared_is Open t q = let z : ◌≡◌ {A = ℕ} 0 1 = cc in absurd (omega arith)
prepared_is (Failed e) t q = let z : ◌≡◌ {A = ℕ} 0 1 = cc in absurd (omega arith)

pub hop_accepts : (p : Phase) (n : ℕ) (a : Asked) → hop_answer p n a ≡ Accepted → (p ≡ preparing) × (n < 8)
hop_accepts preparing n a q = (refl, go (leb 8 n) refl q)
  where
    go : (b : Bool) → leb 8 n ≡ b → refuse b RouteLength (check_for a) ≡ Accepted → n < 8
    go true e q = absurd (clash (sym q))
    go false e q = leb-false 8 n e
hop_accepts opened n a q = absurd (clash (sym q))
hop_accepts over n a q = absurd (clash (sym q))

-- one more, in a slot behind the session: the numbers of this stay, but the count
module _ (s : List ℕ) (l : 8538 ≤ length s) (o : Opening) (few : count_at s < 8) where
  abbrev at₁ : ℕ
  at₁ = 346 + 1024 * (7 - count_at s)

  abbrev at₂ : ℕ
  at₂ = 282 + 8 * (7 - count_at s)

  abbrev s₁ : List ℕ
  s₁ = overwrite s at₁ (kept_by o).bytes

  abbrev s₂ : List ℕ
  s₂ = overwrite s₁ at₂ (slot_of (hop_for o))

  abbrev more : List ℕ
  more = digits 2 (count_at s + 1)

  in₁ : at₁ ≤ length s
  in₁ = omega (arith, l, few)

  in₂ : at₂ ≤ length s₁
  in₂ = omega (arith, few, long_enough s (kept_by o).bytes at₁ in₁)

  in₃ : 10 ≤ length s₂
  in₃ = omega (arith, in₂, long_enough s₁ (slot_of (hop_for o)) at₂ in₂)

  byte_stays : (k : ℕ) → 12 + k < 282 → byte (with_hop s o) (12 + k) ≡ byte s (12 + k)
  byte_stays k h =
      byte_behind s₂ more 10 in₃ 2 (length_digits 2 (count_at s + 1)) k
      ∙ byte_ahead s₁ (slot_of (hop_for o)) at₂ in₂ (12 + k) (omega (arith, h))
      ∙ byte_ahead s (kept_by o).bytes at₁ in₁ (12 + k) (omega (arith, h))

  pub attempts_stay : attempts_at (with_hop s o) ≡ attempts_at s
  attempts_stay =
      ap numbers.number
      (take_ahead s₂ more 10 in₃ 8 (omega arith) ∙ take_ahead s₁ (slot_of (hop_for o)) at₂ in₂ 8 (omega arith) ∙ take_ahead s (kept_by o).bytes at₁ in₁ 8 (omega arith))

  pub counts_more : count_at (with_hop s o) ≡ suc (count_at s)
  counts_more =
      ap numbers.number (bytes_there s₂ more 10 in₃ 2 (length_digits 2 (count_at s + 1)))
      ∙ number_digits 2 (count_at s + 1) (small (count_at s) few) ∙ add-one (count_at s)
    where
      small : (n : ℕ) → n < 8 → n + 1 < 256 ^ 2
      small n h = omega arith

  pub stage_stays : (session_at (with_hop s o)).stage ≡ (session_at s).stage
  stage_stays = λ i. stage_at (byte_stays 6 (lit< tt) i) (byte_stays 7 (lit< tt) i) (byte_stays 8 (lit< tt) i)

  pub started_stays : started_at (with_hop s o) ≡ started_at s
  started_stays = ap (λ (b : ℕ). eqb (b / 8 % 2) 1) (byte_stays 6 (lit< tt))

  longer : 8538 ≤ length (with_hop s o)
  longer = omega (arith, l, long_enough s (kept_by o).bytes at₁ in₁, long_enough s₁ (slot_of (hop_for o)) at₂ in₂, long_enough s₂ more 10 in₃)

-- ---- all hops of a row

-- a route is being prepared, with so many hops
pub record Preparing (s : List ℕ) (n : ℕ) : Type 0 where
  pub phase : phase_at s ≡ preparing
  pub count : count_at s ≡ n
  pub long : 8538 ≤ length s

hop_prepares : (a : Asked) (s : List ℕ) (n : ℕ) → Preparing s n → hop_told a s ≡ Accepted → (n < 8) × Preparing (hopped a s) (suc n)
hop_prepares a s n w q =
    let o = opening_for a in
    let few = (hop_accepts (phase_at s) (count_at s) a q).1 in
    let e : hopped a s ≡ with_hop s o = λ i. hop_left (w.phase i) (q i) s o in (
      omega (arith, few, w.count),
      rw e
          (record {
            phase = (λ i. phase_by (stage_stays s w.long o few i) (started_stays s w.long o few i)) ∙ w.phase;
            count = counts_more s w.long o few ∙ ap suc w.count;
            long = longer s w.long o few;
          }),
    )

unless_both : (x y : Answer) → unless_refused x y ≡ Accepted → (x ≡ Accepted) × (y ≡ Accepted)
unless_both Accepted y q = (refl, q)
unless_both (Refused e) y q = absurd (clash (sym q))

pub all_prepare : (asks : List Asked) (s : List ℕ) (n : ℕ) → n ≤ 8 → Preparing s n → all_told asks s ≡ Accepted → (n + length asks ≤ 8) × Preparing (all_hopped asks s) (n + length asks)
unfolding all_hopped all_told
all_prepare [] s n h w q = (omega arith, record { phase = w.phase; count = omega (arith, w.count); long = w.long })
all_prepare (a ∷ later) s n h w q =
    let (x, y) = unless_both (hop_told a s) (all_told later (hopped a s)) q in
    let (few, v) = hop_prepares a s n w x in
    let (k, u) = all_prepare later (hopped a s) (suc n) few v y in
    (omega arith, record { phase = u.phase; count = omega (arith, u.count); long = u.long })

pub begun_prepares : Preparing begun 0
unfolding slots_of hops_for bytes_for
begun_prepares =
    let kept : List ℕ = kept_of 0 (hops_for []) (bytes_for []) in
    let row = prepared_row 0 kept (omega arith) in
    let free : List ℕ = replicate 64 0 in
    let free_bytes : List ℕ = replicate 8192 0 in
    let l : length kept ≡ 8256 =
    omega (arith, length-append (free ++ []) (free_bytes ++ []), length-append free [], length-append free_bytes [], length-replicate {A = ℕ} 64 0, length-replicate {A = ℕ} 8192 0) in
    record {
      phase = prepared_phase 0 kept (omega arith);
      count = prepared_count 0 kept (omega arith);
      long = omega (arith, ap length row, length-append (head_of (session_of 0 kept)) kept, prepared_head 0 kept (omega arith), l);
    }
