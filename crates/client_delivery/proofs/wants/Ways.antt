-- How each way out of the code tells whether a reply can still be good.
use Prim.Native.Nat.{ℕ, ◌+◌, ◌-◌, ◌≤◌, ◌<◌, min}
use native.Mathlib.Omega.{arith}
use mathlib.Core.Path.{◌≡◌, refl, ap, sym, ◌∙◌}
use mathlib.Core.Bool.{Bool, true, false}
use mathlib.Core.Logic.{◌⊎◌, inl, inr}
use mathlib.Core.List.{List, [], ◌∷◌}
use lib.ListN.{length, take, drop, length-take, length-drop}
use lib.Dec.{eqb}
use borrow.Author.Tests.{lt-ltb, le-ltb, eq-eqb, ne_eqb}
use Rattle.protocol.specs.declared.AuthMethod.{AuthMethod}
use Rattle.protocol.specs.declared.Utf8State.{Utf8State}
use Rattle.protocol.specs.declared.Utf8State.TheVariants.{Boundary}
use Rattle.protocol.specs.declared.Reply.{Reply}
use Rattle.protocol.specs.declared.Reply.TheVariants.{NegotiationRes, AuthenticationRes, ProxyRes, Response}
use Rattle.protocol.specs.Bytes.{byte}
use Rattle.protocol.specs.Utf8.{scan}
use Rattle.protocol.specs.Replies.{name_field}
use Rattle.client_delivery.specs.wants.Wants.{begins_with, may_connect, proxy_least, lacking, behind, wants_for}
use Rattle.client_delivery.specs.wants.Still.{ends_within, name_still, type_still, proxy_still, response_still}
use Rattle.buffers.proofs.write.Parts.{take_min}

pub name_read : (h : List ℕ) {end to : ℕ} {st : Utf8State} {r : Bool} → (end ≡ 5 + byte h 4) × (end ≤ 260) → 5 ≤ length h → to ≡ min end (length h)
    → st ≡ scan Boundary (take (to - 5) (drop 5 h)) → r ≡ ends_within st (end - to) → r ≡ name_still h
unfolding name_still name_field
name_read h {end} {to} (e, f) k m s q =
    let n = byte h 4 in
    let i : to - 5 ≡ min n (length (drop 5 h)) = omega (arith, length-drop 5 h) in
    let j : end - to ≡ n - length (take n (drop 5 h)) = omega (arith, length-drop 5 h, length-take n (drop 5 h)) in
    let l : take (to - 5) (drop 5 h) ≡ take n (drop 5 h) = ap (λ (z : ℕ). take z (drop 5 h)) i ∙ take_min n (drop 5 h) in
    q ∙ (λ x. ends_within ((s ∙ ap (scan Boundary) l) x) (j x))

-- by its type
module _ (h : List ℕ) where
  pub type_four : byte h 3 ≡ 0x01 → true ≡ type_still h
  unfolding type_still
  type_four e = rw (eq-eqb (byte h 3) 0x01 e)

  pub type_six : (byte h 3 ≡ 0x01 → ⊥) → byte h 3 ≡ 0x04 → true ≡ type_still h
  unfolding type_still
  type_six d e = rw (ne_eqb (byte h 3) 0x01 d, eq-eqb (byte h 3) 0x04 e)

  pub type_known : (byte h 3 ≡ 0x01) ⊎ (byte h 3 ≡ 0x04) → true ≡ type_still h
  type_known (inl e) = type_four e
  type_known (inr e) = type_six (λ z. omega arith) e

  pub type_none : (byte h 3 ≡ 0x01 → ⊥) → (byte h 3 ≡ 0x04 → ⊥) → (byte h 3 ≡ 0x03 → ⊥) → false ≡ type_still h
  unfolding type_still
  type_none d e f = rw (ne_eqb (byte h 3) 0x01 d, ne_eqb (byte h 3) 0x04 e, ne_eqb (byte h 3) 0x03 f)

  pub type_name : {r : Bool} → (byte h 3 ≡ 0x01 → ⊥) → (byte h 3 ≡ 0x04 → ⊥) → byte h 3 ≡ 0x03 → r ≡ name_still h → r ≡ type_still h
  unfolding type_still
  type_name d e f q = q ∙ rw (ne_eqb (byte h 3) 0x01 d, ne_eqb (byte h 3) 0x04 e, eq-eqb (byte h 3) 0x03 f)

-- no byte of a name has come, nor its length
pub no_name : (h : List ℕ) → length h ≡ 4 → true ≡ name_still h
unfolding name_still name_field scan
no_name [] e = absurd (omega arith)
no_name (a ∷ []) e = absurd (omega arith)
no_name (a ∷ b ∷ []) e = absurd (omega arith)
no_name (a ∷ b ∷ c ∷ []) e = absurd (omega arith)
no_name (a ∷ b ∷ c ∷ d ∷ []) e = refl
no_name (a ∷ b ∷ c ∷ d ∷ n ∷ h) e = absurd (omega arith)

module _ (h : List ℕ) {x : Bool} (e : x ≡ may_connect h) where
  pub proxy_not : x ≡ false → false ≡ proxy_still h
  unfolding proxy_still
  proxy_not q = rw (sym e ∙ q)

  pub proxy_head : x ≡ true → length h < 4 → true ≡ proxy_still h
  unfolding proxy_still
  proxy_head q k = rw (sym e ∙ q, lt-ltb (length h) 4 k)

  pub proxy_type : {r : Bool} → x ≡ true → 4 ≤ length h → r ≡ type_still h → r ≡ proxy_still h
  unfolding proxy_still
  proxy_type q k p = p ∙ rw (sym e ∙ q, le-ltb (length h) 4 k)

begins_zero : (h : List ℕ) → begins_with 0x00 h ≡ eqb (byte h 0) 0x00
unfolding begins_with
begins_zero [] = refl
begins_zero (a ∷ h) = rw (ne_eqb (length (a ∷ h)) 0 (λ z. omega arith))

module _ (h : List ℕ) {x : Bool} (e : x ≡ begins_with 0x00 h) where
  pub response_not : x ≡ false → false ≡ response_still h
  unfolding response_still
  response_not q = rw (sym (begins_zero h) ∙ sym e ∙ q)

  pub response_head : x ≡ true → length h < 2 → true ≡ response_still h
  unfolding response_still
  response_head q k = rw (sym (begins_zero h) ∙ sym e ∙ q, lt-ltb (length h) 2 k)

  pub response_code : x ≡ true → 2 ≤ length h → eqb (byte h 1) 0x5A ≡ response_still h
  unfolding response_still
  response_code q k = rw (sym (begins_zero h) ∙ sym e ∙ q, le-ltb (length h) 2 k)

-- the shortest replies, where nothing is held
pub shortest_method : (m : AuthMethod) {k : ℕ} → (k ≡ behind (NegotiationRes m)) × (k ≤ 10) → (2 + k ≡ wants_for (NegotiationRes m) []) × (2 + k ≤ 12)
unfolding lacking begins_with
shortest_method m (e, l) = (ap (λ (z : ℕ). 2 + z) e, omega arith)

pub shortest_authentication : 10 ≡ wants_for AuthenticationRes []
unfolding lacking begins_with
shortest_authentication = refl

pub shortest_proxy : 8 ≡ wants_for ProxyRes []
unfolding lacking begins_with proxy_least may_connect
shortest_proxy = refl

pub shortest_response : 8 ≡ wants_for Response []
unfolding lacking
shortest_response = refl

pub shortest_last : (e : Reply) → (e ≡ ProxyRes) ⊎ (e ≡ Response) → 8 ≡ wants_for e []
shortest_last e (inl q) = rw q shortest_proxy
shortest_last e (inr q) = rw q shortest_response
