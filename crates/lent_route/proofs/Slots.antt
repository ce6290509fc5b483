-- Slots are read back from their writing.
use Prim.Native.Nat.{ℕ, ◌+◌, ◌-◌, ◌*◌, ◌<◌}
use native.Mathlib.Omega.{arith}
use mathlib.Core.Path.{◌≡◌, refl, sym, ap, ◌∙◌}
use mathlib.Core.List.{List, [], ◌∷◌, ◌++◌, append_assoc}
use lib.ListN.{length, take, length-append}
use Rattle.protocol.specs.declared.AuthMethod.TheVariants.{NoAuth, UserPass, NoneAcceptable}
use Rattle.protocol.specs.declared.Reply.{Reply}
use Rattle.protocol.specs.declared.Reply.TheVariants.{NegotiationRes, AuthenticationRes, ProxyRes, Response}
use Rattle.protocol.specs.Bytes.{byte}
use Rattle.raw_numbers.specs.Numbers.{truth}
use Rattle.raw_numbers.proofs.Back.{bit_back}
use Rattle.lent_numbers.specs.bytes.Numbers.{number, digits}
use Rattle.lent_numbers.proofs.bytes.Laws.{number_digits}
use Rattle.lent_session.specs.State.{reply_number}
use Rattle.route_delivery.specs.declared.Hop.{Hop}
use Rattle.lent_route.specs.State.{reply_at, hop_in, slots_from, slot_of, slots_of}
use Rattle.lent_route.proofs.Lists.{drop_from, byte_from}

reply_back : (e : Reply) → reply_at (reply_number e - 1) ≡ e
unfolding reply_at
reply_back (NegotiationRes NoAuth) = refl
reply_back (NegotiationRes UserPass) = refl
reply_back (NegotiationRes NoneAcceptable) = refl
reply_back AuthenticationRes = refl
reply_back ProxyRes = refl
reply_back Response = refl

pub record Slotted (h : Hop) : Type 0 where
  pub first : h.lengths.first < 65536
  pub authentication : h.lengths.authentication < 65536
  pub proxy : h.lengths.proxy < 65536

abbrev pub EachSlotted : List Hop → Type 0
EachSlotted [] = Unit {0}
EachSlotted (h ∷ hs) = Slotted h × EachSlotted hs

pub slot_long : (h : Hop) → length (slot_of h) ≡ 8
unfolding digits
slot_long h = refl

pub slots_long : (hs : List Hop) → length (slots_of hs) ≡ 8 * length hs
unfolding slots_of
slots_long [] = refl
slots_long (h ∷ hs) = omega (arith, length-append (slot_of h) (slots_of hs), slot_long h, slots_long hs)

module _ (h : Hop) (f : Slotted h) (pre rest : List ℕ) {s : List ℕ} {at : ℕ} (e : s ≡ pre ++ (slot_of h ++ rest)) (l : at ≡ length pre) where
  pub slot_back : hop_in s at ≡ h
  unfolding digits
  slot_back =
      let q = slot_of h ++ rest in
      let z : at ≡ at + 0 = omega arith in
      let first = ap (λ (k : ℕ). reply_at (byte s k)) z ∙ ap reply_at (byte_from pre q e l 0) ∙ reply_back h.first in
      let optimistic = ap truth (byte_from pre q e l 1) ∙ bit_back h.lengths.optimistic in
      let a = ap (λ (t : List ℕ). number (take 2 t)) (drop_from pre q e l 2) ∙ number_digits 2 h.lengths.first f.first in
      let b = ap (λ (t : List ℕ). number (take 2 t)) (drop_from pre q e l 4) ∙ number_digits 2 h.lengths.authentication f.authentication in
      let c = ap (λ (t : List ℕ). number (take 2 t)) (drop_from pre q e l 6) ∙ number_digits 2 h.lengths.proxy f.proxy in
      λ i. record { first = first i; lengths = record { optimistic = optimistic i; first = a i; authentication = b i; proxy = c i } }

pub slots_back : (hs : List Hop) → EachSlotted hs → (pre rest : List ℕ) {s : List ℕ} {at : ℕ} → s ≡ pre ++ (slots_of hs ++ rest) → at ≡ length pre → slots_from s at (length hs) ≡ hs
unfolding slots_from slots_of
slots_back [] f pre rest e l = refl
slots_back (h ∷ hs) (f, g) pre rest {s} {at} e l =
    let e₁ : s ≡ pre ++ (slot_of h ++ (slots_of hs ++ rest)) = e ∙ ap (λ (t : List ℕ). pre ++ t) (append_assoc (slot_of h) (slots_of hs) rest) in
    let e₂ : s ≡ (pre ++ slot_of h) ++ (slots_of hs ++ rest) = e₁ ∙ sym (append_assoc pre (slot_of h) (slots_of hs ++ rest)) in
    let l₂ : at + 8 ≡ length (pre ++ slot_of h) = sym (length-append pre (slot_of h) ∙ omega (arith, l, slot_long h)) in
    λ i. slot_back h f pre (slots_of hs ++ rest) e₁ l i ∷ slots_back hs g (pre ++ slot_of h) rest e₂ l₂ i
