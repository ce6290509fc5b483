-- What the code reads and writes of a route's bytes.
use Prim.Native.Nat.{ℕ, zero, suc, ◌+◌, ◌-◌, ◌*◌, ◌≤◌, ◌<◌}
use native.Mathlib.Omega.{arith}
use mathlib.Core.Path.{◌≡◌, refl, sym, ap, subst, ◌∙◌}
use mathlib.Core.Bool.{true}
use mathlib.Core.List.{List, [], ◌∷◌, ◌++◌}
use lib.ListN.{length, drop}
use borrow.Author.Tests.{ne_eqb, le-leb, lt-leb}
use Rattle.protocol.specs.declared.Reply.TheVariants.{Response}
use Rattle.buffers.specs.write.Written.{overwrite, Wrote}
use Rattle.buffers.proofs.write.Laws.{then}
use Rattle.client_stages.specs.declared.due.Lengths.{Lengths}
use Rattle.lent_numbers.specs.bytes.Numbers.{digits}
use Rattle.lent_numbers.proofs.bytes.Laws.{length_digits}
use Rattle.lent_session.specs.State.{reply_number, code_of, error_number, status_number, state_of}
use Rattle.route_delivery.specs.declared.Hop.{Hop}
use Rattle.route_delivery.specs.declared.Spot.{Spot}
use Rattle.route_delivery.specs.Relay.{no_hop}
use Rattle.lent_route.specs.State.{reply_at, hop_in, slots_from, hops_in, slot_hop, spoken_at}

-- ---- a slot

pub reply_last : (n : ℕ) → 5 ≤ n → Response ≡ reply_at n
unfolding reply_at
reply_last n h = sym (rw (ne_eqb n 0 (λ q. omega arith), ne_eqb n 1 (λ q. omega arith), ne_eqb n 2 (λ q. omega arith), ne_eqb n 3 (λ q. omega arith), ne_eqb n 4 (λ q. omega arith)))

pub reply_next : (n : ℕ) → n < 5 → n + 1 ≡ reply_number (reply_at n)
unfolding reply_at
reply_next zero h = refl
reply_next (suc zero) h = refl
reply_next (suc (suc zero)) h = refl
reply_next (suc (suc (suc zero))) h = refl
reply_next (suc (suc (suc (suc zero)))) h = refl
reply_next (suc (suc (suc (suc (suc n))))) h = absurd (omega arith)

pub slot_none : (s : List ℕ) (last i : ℕ) → last < i → no_hop ≡ slot_hop s last i
slot_none s last i h = sym (rw (lt-leb i last h))

pub slot_some : (s : List ℕ) (last i : ℕ) → i ≤ last → {h : Hop} → h ≡ hop_in s (282 + 8 * (7 - last + i)) → h ≡ slot_hop s last i
slot_some s last i h q = q ∙ sym (rw (le-leb i last h))

abbrev all : List ℕ → ℕ → List Hop
all s last =
    slot_hop s last 0 ∷ slot_hop s last 1 ∷ slot_hop s last 2 ∷ slot_hop s last 3 ∷ slot_hop s last 4 ∷ slot_hop s last 5 ∷ slot_hop s last 6 ∷ slot_hop s last 7 ∷ []

pub all_slots : (s : List ℕ) (last : ℕ) → last ≤ 7 → all s last ≡ hops_in s last
unfolding slots_from
all_slots s zero h = refl
all_slots s (suc zero) h = refl
all_slots s (suc (suc zero)) h = refl
all_slots s (suc (suc (suc zero))) h = refl
all_slots s (suc (suc (suc (suc zero)))) h = refl
all_slots s (suc (suc (suc (suc (suc zero))))) h = refl
all_slots s (suc (suc (suc (suc (suc (suc zero)))))) h = refl
all_slots s (suc (suc (suc (suc (suc (suc (suc zero))))))) h = refl
all_slots s (suc (suc (suc (suc (suc (suc (suc (suc n)))))))) h = absurd (omega arith)

-- ---- the session of the proxy that is spoken to

-- a write behind another
pub behind : {o o₁ o₂ : List ℕ} {at b p r : ℕ} {bs cs : List ℕ} (n : ℕ) → length bs ≡ n → Wrote o at bs p o₁ → Wrote o₁ b cs r o₂ → b ≡ at + n → Wrote o at (bs ++ cs) r o₂
behind {o₁ = o₁} {o₂ = o₂} {r = r} {cs = cs} n l v w e = then v (subst (λ (k : ℕ). Wrote o₁ k cs r o₂) (e ∙ omega (arith, l, v.place)) w)

module _ {o o₁ o₂ o₃ o₄ o₅ o₆ : List ℕ} {p₁ p₂ p₃ p₄ p₅ p₆ : ℕ} (a b c d e f : ℕ) where
  pub numbers_put : Wrote o 0 (digits 8 a) p₁ o₁ → Wrote o₁ 8 (digits 2 b) p₂ o₂ → Wrote o₂ 10 (digits 2 c) p₃ o₃ → Wrote o₃ 12 (digits 2 d) p₄ o₄ → Wrote o₄ 14 (digits 2 e) p₅ o₅ → Wrote o₅ 16 (digits 2 f) p₆ o₆
      → Wrote o 0 (digits 8 a ++ (digits 2 b ++ (digits 2 c ++ (digits 2 d ++ (digits 2 e ++ digits 2 f))))) p₆ o₆
  numbers_put v₁ v₂ v₃ v₄ v₅ v₆ =
      behind 8 (length_digits 8 a) v₁
      (behind 2 (length_digits 2 b) v₂
      (behind 2 (length_digits 2 c) v₃ (behind 2 (length_digits 2 d) v₄ (behind 2 (length_digits 2 e) v₅ v₆ refl) refl) refl) refl)
      refl

module _ {o o₁ o₂ o₃ : List ℕ} {p₁ p₂ p₃ : ℕ} {a b c : ℕ} where
  pub code_put : Wrote o 18 (a ∷ []) p₁ o₁ → Wrote o₁ 19 (b ∷ []) p₂ o₂ → Wrote o₂ 20 (c ∷ []) p₃ o₃ → Wrote o 18 (a ∷ b ∷ c ∷ []) p₃ o₃
  code_put v₁ v₂ v₃ = behind 1 refl v₁ (behind 1 refl v₂ v₃ refl) refl

module _ (p : Spot) (l : Lengths) where
  abbrev numbers : List ℕ
  numbers = digits 8 p.attempts ++ (digits 2 p.held ++ (digits 2 l.first ++ (digits 2 l.authentication ++ (digits 2 l.proxy ++ digits 2 p.bound.port))))

  pub spoken_put : (hold : List ℕ) {o o₁ o₂ o₃ : List ℕ} {p₁ p₂ p₃ : ℕ} {c e t : ℕ} → length hold ≡ 261 → c ≡ code_of p.stage true l.optimistic p.bound.kind → e ≡ error_number p.stage → t ≡ status_number p.stage
      → Wrote o 0 numbers p₁ o₁ → Wrote o₁ 18 (c ∷ e ∷ t ∷ []) p₂ o₂ → Wrote o₂ 21 hold p₃ o₃ → o₃ ≡ state_of (spoken_at p l hold (drop 282 o))
  unfolding digits overwrite
  spoken_put hold {o} {c = c} {e = e} {t = t} h q₁ q₂ q₃ v₁ v₂ v₃ =
      let w = behind 18 refl v₁ (behind 3 refl v₂ v₃ refl) refl in
      let z : 0 + length (numbers ++ (c ∷ e ∷ t ∷ hold)) ≡ 282 = omega (arith, h) in
      w.bytes ∙ ap (λ (n : ℕ). numbers ++ (c ∷ e ∷ t ∷ (hold ++ drop n o))) z ∙ (λ i. numbers ++ (q₁ i ∷ q₂ i ∷ q₃ i ∷ (hold ++ drop 282 o)))
