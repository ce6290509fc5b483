-- What an opening keeps: its requests one behind the other, under their limits, and the bytes that the code writes for them.
use Prim.Native.Nat.{ℕ, ◌+◌, ◌-◌, ◌≤◌, min}
use native.Mathlib.Nat.{zero-add}
use native.Mathlib.Omega.{arith}
use mathlib.Core.Path.{◌≡◌, refl, ap, sym, ◌∙◌, subst}
use mathlib.Core.Bool.{Bool, false}
use mathlib.Core.List.{List, [], ◌++◌, append_assoc, append-nil}
use lib.ListN.{length, take, replicate, length-append, length-replicate}
use lib.Seq.{take_at, drop_at}
use Rattle.protocol.specs.declared.AuthMethod.TheVariants.{NoAuth, UserPass}
use Rattle.protocol.specs.Bytes.{padded}
use Rattle.protocol.specs.Requests.{negotiation_req, authentication_req, proxy_req, request}
use Rattle.protocol.specs.Opening.{Opening, v5, v4, no_auth, user_pass, Limits}
use Rattle.protocol.specs.Client as client
use Rattle.client_stages.specs.due.Parts.{part, negotiation_of, authentication_of, proxy_of, requests_of}
use Rattle.buffers.specs.write.Written.{Wrote}
use Rattle.buffers.proofs.write.Laws.{then, zeros_under}
use Rattle.client_session.specs.Calls.{kept_with, kept_by}
use Rattle.client_opening.specs.common.Kept.{Parts}

-- ---- the parts

part_at : (u v w : List ℕ) (from n : ℕ) → from ≡ length u → n ≡ length v → part (u ++ (v ++ w)) from n ≡ v
part_at u v w from n p q = ap (take n) (drop_at u (v ++ w) from (sym p)) ∙ take_at v w n (sym q)

least : (a b : ℕ) → a ≤ b → min a b ≡ a
least a b h = omega arith

module _ (o : Bool) (q a p : List ℕ) where
  abbrev zeros : List ℕ
  zeros = replicate (1024 - length (q ++ (a ++ p))) 0

  in_order : (q ++ (a ++ p)) ++ zeros ≡ q ++ (a ++ (p ++ zeros))
  in_order = simp append_assoc

  first_part : (most : ℕ) → length q ≤ most → part (kept_with o q a p).bytes 0 (min (length q) most) ≡ q
  first_part most h = ap (λ (b : List ℕ). part b 0 (min (length q) most)) in_order ∙ part_at [] q (a ++ (p ++ zeros)) 0 (min (length q) most) refl (least (length q) most h)

  module _ (i : length q ≤ 3) (j : length a ≤ 513) where
    second_part : authentication_of (kept_with o q a p) ≡ a
    second_part = ap (λ (b : List ℕ). part b (min (length q) 3) (min (length a) 513)) in_order ∙ part_at q a (p ++ zeros) (min (length q) 3) (min (length a) 513) (least (length q) 3 i) (least (length a) 513 j)

    third_part : length p ≤ 262 → proxy_of (kept_with o q a p) ≡ p
    third_part k =
        let m : min (length q) 3 + min (length a) 513 ≡ length (q ++ a) = omega (arith, length-append q a) in
        ap (λ (b : List ℕ). part b (min (length q) 3 + min (length a) 513) (min (length p) 262)) (in_order ∙ sym (append_assoc q a (p ++ zeros)))
        ∙ part_at (q ++ a) p zeros (min (length q) 3 + min (length a) 513) (min (length p) 262) m (least (length p) 262 k)

with_parts : (o : Bool) (q a p : List ℕ) → length q ≡ 3 → length a ≤ 513 → length p ≤ 262
    → (negotiation_of (kept_with o q a p) ≡ q) × (authentication_of (kept_with o q a p) ≡ a) × (proxy_of (kept_with o q a p) ≡ p)
with_parts o q a p i j k =
    let h : length q ≤ 3 = omega arith in
    (first_part o q a p 3 h, second_part o q a p h j, third_part o q a p h j k)

pub kept_parts : (o : Opening) → Limits o → Parts o (kept_by o)
kept_parts (v5 no_auth d port o) l = with_parts o (negotiation_req NoAuth) [] (proxy_req d port) l.0 (omega arith) l.1
kept_parts (v5 (user_pass u p) d port o) l = with_parts o (negotiation_req UserPass) (authentication_req u p) (proxy_req d port) l.0 l.1 l.2
kept_parts (v4 d port) l = first_part false (request d port) [] [] 1024 l

same_kept : (o : Bool) {a a' p p' : List ℕ} → a ≡ a' → p ≡ p' → ◌≡◌ {A = client.Kept} (record { optimistic = o; authentication = a; proxy = p }) (record { optimistic = o; authentication = a'; proxy = p' })
same_kept o q r = λ i. record { optimistic = o; authentication = q i; proxy = r i }

pub kept_by_lem : (o : Opening) → Limits o → requests_of (kept_by o) ≡ client.kept o
kept_by_lem (v5 no_auth d port o) l = let k = kept_parts (v5 no_auth d port o) l in same_kept o k.1 k.2
kept_by_lem (v5 (user_pass u p) d port o) l = let k = kept_parts (v5 (user_pass u p) d port o) l in same_kept o k.1 k.2
kept_by_lem (v4 d port) l = refl

-- ---- what the code writes

pub zeros_size : {bs : List ℕ} → bs ≡ replicate 1024 0 → length bs ≡ 1024
zeros_size z = ap length z ∙ length-replicate {A = ℕ} 1024 0

module _ (o : Bool) {zs q : List ℕ} (z : zs ≡ replicate 1024 0) where
  -- three requests, each behind the one before
  pub keeps_three : {a p o₁ o₂ o₃ : List ℕ} {i j k : ℕ} → Wrote zs 0 q i o₁ → Wrote o₁ i a j o₂ → Wrote o₂ j p k o₃
      → record { lengths = record { optimistic = o; first = i; authentication = j - i; proxy = k - j }; bytes = o₃ } ≡ kept_with o q a p
  keeps_three {a} {p} {o₁} {o₂} {o₃} {i} {j} {k} u v w =
      let f : i ≡ length q = u.place ∙ zero-add (length q) in
      let s : j - i ≡ length a = omega (arith, v.place) in
      let t : k - j ≡ length p = omega (arith, w.place) in
      let b : o₃ ≡ padded 1024 (q ++ (a ++ p)) = zeros_under 1024 (subst (λ (l : List ℕ). Wrote l 0 (q ++ (a ++ p)) k o₃) z (then u (then v w))) in
      λ x. record { lengths = record { optimistic = o; first = f x; authentication = s x; proxy = t x }; bytes = b x }

  -- one alone
  pub keeps_one : {o₁ : List ℕ} {i : ℕ} → Wrote zs 0 q i o₁
      → record { lengths = record { optimistic = o; first = i; authentication = 0; proxy = 0 }; bytes = o₁ } ≡ kept_with o q [] []
  keeps_one {o₁} {i} u =
      let f : i ≡ length q = u.place ∙ zero-add (length q) in
      let b : o₁ ≡ padded 1024 (q ++ []) = zeros_under 1024 (subst (λ (l : List ℕ). Wrote l 0 q i o₁) z u) ∙ ap (padded 1024) (sym (append-nil q)) in
      λ x. record { lengths = record { optimistic = o; first = f x; authentication = 0; proxy = 0 }; bytes = b x }
