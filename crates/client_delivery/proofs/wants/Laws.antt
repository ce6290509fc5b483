-- How each way out of the code tells how many bytes are wanted.
use Prim.Native.Nat.{ℕ, ◌+◌, ◌-◌, ◌≤◌, ◌<◌, min, zero-le}
use native.Mathlib.Nat.{add-zero}
use native.Mathlib.Omega.{arith}
use mathlib.Core.Path.{◌≡◌, refl, ap, sym, ◌∙◌}
use mathlib.Core.Bool.{Bool, true, false, cond, ◌&&◌}
use mathlib.Core.List.{List, [], ◌∷◌}
use lib.ListN.{length, take}
use lib.Dec.{eqb}
use borrow.Author.Tests.{lt-ltb, le-ltb, eq-eqb, ne_eqb}
use Rattle.protocol.specs.declared.AuthMethod.{AuthMethod}
use Rattle.protocol.specs.declared.Reply.{Reply}
use Rattle.protocol.specs.declared.Reply.TheVariants.{NegotiationRes, AuthenticationRes, ProxyRes, Response}
use Rattle.protocol.specs.Bytes.{byte}
use Rattle.protocol.specs.Replies.{proxy_size}
use Rattle.client_stages.specs.declared.due.Stage.TheVariants.{Awaiting}
use Rattle.client_delivery.specs.wants.Wants.{begins_with, may_connect, size_from, proxy_least, lacking, behind, wants_for, wants_at}
use Rattle.client_delivery.proofs.delivery.Laws.{take_least}

pub begins_none : (b : ℕ) (h : List ℕ) → length h ≡ 0 → true ≡ begins_with b h
unfolding begins_with
begins_none b h e = rw (eq-eqb (length h) 0 e)

pub begins_first : (b : ℕ) (h : List ℕ) → (length h ≡ 0 → ⊥) → eqb (byte h 0) b ≡ begins_with b h
unfolding begins_with
begins_first b h e = rw (ne_eqb (length h) 0 e)

and_true : (b : Bool) → b ≡ (b && true)
and_true true = refl
and_true false = refl

pub connect_short : (h : List ℕ) → length h < 2 → begins_with 0x05 h ≡ may_connect h
unfolding may_connect
connect_short [] k = and_true (begins_with 0x05 [])
connect_short (a ∷ []) k = and_true (begins_with 0x05 (a ∷ []))
connect_short (a ∷ b ∷ h) k = absurd (omega arith)

module _ (h : List ℕ) {x : Bool} (e : x ≡ begins_with 0x05 h) where
  pub connect_on : x ≡ true → eqb (byte h 1) 0x00 ≡ may_connect h
  unfolding may_connect
  connect_on q = rw (sym e ∙ q)

  pub connect_off : x ≡ false → false ≡ may_connect h
  unfolding may_connect
  connect_off q = rw (sym e ∙ q)

pub least_whole : (h : List ℕ) (r : ℕ) → 5 ≤ length h → (5 + r ≡ proxy_size (byte h 3) (byte h 4)) × (r ≤ 257) → (5 + r ≡ proxy_least h) × (5 + r ≤ 262)
unfolding proxy_least
least_whole h r k (e, l) = (rw (le-ltb (length h) 4 (omega arith), le-ltb (length h) 5 k) e, omega arith)

size_few : (t : ℕ) (b : Bool) → size_from t b ≤ 262
unfolding size_from
size_few t b = go (eqb t 1) (eqb t 4) (eqb t 3 && b)
  where
    go : (x y z : Bool) → cond x 10 (cond y 22 (cond z 8 5)) ≤ 262
    go true y z = omega arith
    go false true z = omega arith
    go false false true = omega arith
    go false false false = omega arith

pub least_typed : (h : List ℕ) (b : Bool) (r : ℕ) → length h ≡ 4 → b ≡ may_connect h → r ≡ size_from (byte h 3) b → (r ≡ proxy_least h) × (r ≤ 262)
unfolding proxy_least
least_typed h b r k m e = (rw (le-ltb (length h) 4 (omega arith), lt-ltb (length h) 5 (omega arith), ← m) e, omega (arith, size_few (byte h 3) b))

pub least_may : (h : List ℕ) (b : Bool) → length h < 5 → (length h ≡ 4 → ⊥) → b ≡ may_connect h → b ≡ true → 8 ≡ proxy_least h
unfolding proxy_least
least_may h b k n m e = rw (lt-ltb (length h) 4 (omega arith), ← m, e)

pub least_three : (h : List ℕ) (b : Bool) → length h < 3 → b ≡ may_connect h → b ≡ false → 3 ≡ proxy_least h
unfolding proxy_least
least_three h b k m e = rw (lt-ltb (length h) 4 (omega arith), ← m, e, lt-ltb (length h) 3 k)

pub least_five : (h : List ℕ) (b : Bool) → length h < 5 → (length h ≡ 4 → ⊥) → 3 ≤ length h → b ≡ may_connect h → b ≡ false → 5 ≡ proxy_least h
unfolding proxy_least
least_five h b k n l m e = rw (lt-ltb (length h) 4 (omega arith), ← m, e, le-ltb (length h) 3 l)

pub lacks_some : (size held : ℕ) → held < size → (size - held ≡ lacking size held) × (size - held ≤ size + 1)
unfolding lacking
lacks_some size held k = (rw (lt-ltb held size k), omega arith)

pub lacks_none : (size held : ℕ) → size ≤ held → (1 ≡ lacking size held) × (1 ≤ size + 1)
unfolding lacking
lacks_none size held k = (rw (le-ltb held size k), omega arith)

-- two bytes, and what follows them
module _ {b x : Bool} {n m : ℕ} (k : ℕ) (e : x ≡ b) (l : (n ≡ m) × (n ≤ 3)) where
  pub adds : k ≤ 10 → x ≡ true → (n + k ≡ m + cond b k 0) × (n + k ≤ 13)
  adds h q = let (p, f) = l in (rw (sym e ∙ q, p), omega arith)

  pub adds_none : x ≡ false → (n ≡ m + cond b k 0) × (n ≤ 13)
  adds_none q = let (p, f) = l in (rw (sym e ∙ q) (omega arith), omega arith)

module _ (h : List ℕ) {r : ℕ} where
  pub method_wants : (m : AuthMethod) {k : ℕ} → (k ≡ behind (NegotiationRes m)) × (k ≤ 10) → (r ≡ lacking 2 (length h) + cond (begins_with 0x05 h) k 0) × (r ≤ 13)
      → (r ≡ wants_for (NegotiationRes m) h) × (r ≤ 263)
  method_wants m (e, f) (p, q) = (p ∙ ap (λ (z : ℕ). lacking 2 (length h) + cond (begins_with 0x05 h) z 0) e, omega arith)

  pub authentication_wants : (r ≡ lacking 2 (length h) + cond (begins_with 0x01 h) 8 0) × (r ≤ 13) → (r ≡ wants_for AuthenticationRes h) × (r ≤ 263)
  authentication_wants (p, q) = (p, omega arith)

  pub proxy_wants : {k : ℕ} → (k ≡ proxy_least h) × (k ≤ 262) → (r ≡ lacking k (length h)) × (r ≤ k + 1) → (r ≡ wants_for ProxyRes h) × (r ≤ 263)
  proxy_wants (e, f) (p, q) = (p ∙ ap (λ (z : ℕ). lacking z (length h)) e ∙ sym (add-zero _), omega arith)

  pub response_wants : (r ≡ lacking 8 (length h)) × (r ≤ 9) → (r ≡ wants_for Response h) × (r ≤ 263)
  response_wants (p, q) = (p ∙ sym (add-zero _), omega arith)

-- the first bytes of the hold, whatever count a value has
module _ (e : Reply) (started : Bool) (held : ℕ) (hold : List ℕ) where
  pub started_wants : {n r : ℕ} → started ≡ true → n ≡ min held 261 → length hold ≡ 261 → (r ≡ wants_for e (take n hold)) × (r ≤ 263) → (r ≡ wants_at (Awaiting e) started (take held hold)) × (r ≤ 263)
  started_wants g p l (q, f) = (q ∙ rw (g, p, take_least held hold l), f)

  pub unstarted_wants : started ≡ false → (0 ≡ wants_at (Awaiting e) started (take held hold)) × (0 ≤ 263)
  unstarted_wants g = (rw g, zero-le)
