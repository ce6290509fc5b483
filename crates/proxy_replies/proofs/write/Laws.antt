-- The rows of writes that make a reply, and the status that is sent.
use Prim.Native.Nat.{ℕ, ◌+◌, ◌≤◌, ◌<◌}
use native.Mathlib.Nat.{add-zero}
use native.Mathlib.Omega.{arith}
use mathlib.Core.Path.{◌≡◌, refl, sym, ap, subst, ◌∙◌}
use mathlib.Core.Bool.{true, false}
use mathlib.Core.List.{List, [], ◌∷◌, ◌++◌}
use lib.ListN.{length, take, length-replicate, take-append-drop}
use lib.Seq.{length-take-le, take_all}
use lib.Dec.{leb}
use borrow.Author.Tests.{le-leb, lt-leb}
use Rattle.protocol.specs.declared.Family.{Family}
use Rattle.protocol.specs.declared.Family.TheVariants.{Four, Six}
use Rattle.protocol.specs.declared.Record.{Record}
use Rattle.protocol.specs.declared.Version.{Version}
use Rattle.protocol.specs.declared.Version.TheVariants.{V4, V5}
use Rattle.protocol.specs.Bytes.{two}
use Rattle.protocol.specs.Opening.{record_family}
use Rattle.protocol.specs.Bound.{Endpoint}
use Rattle.proxy_spec.specs.End.{own_reply5, own_reply4, endpoint_of, bound_field, dst_ip, status_to, reply_to}
use Rattle.buffers.specs.write.Written.{overwrite, Wrote}
use Rattle.buffers.proofs.write.Laws.{wrote_length, then}
use Rattle.proxy_replies.specs.write.Replies.{no_address, size_of, type_of, four_in, four_of, connect_reply, request_reply}

-- nothing written
pub wrote_none : (o : List ℕ) (at : ℕ) → at + 22 ≤ length o → Wrote o at [] at o
unfolding overwrite
wrote_none o at h = record { inside = omega arith; place = sym (add-zero at); bytes = sym (rw (add-zero at) (take-append-drop at o)) }

-- ---- an address of sixteen bytes, by its family

sizes : (f : Family) → size_of f ≤ 16
sizes Four = omega arith
sizes Six = omega arith

field_of : (f : Family) (bs : List ℕ) → length bs ≡ 16 → type_of f ∷ take (size_of f) bs ≡ bound_field (record_family f bs)
field_of Four bs l = refl
field_of Six bs l = ap (λ (t : List ℕ). 0x04 ∷ t) (take_all 16 bs (omega arith))

ip_of : (f : Family) (bs : List ℕ) → take 4 (four_in f bs) ≡ dst_ip (record_family f bs)
ip_of Four bs = refl
ip_of Six bs = refl

module _ (f : Family) (bs : List ℕ) {n : ℕ} (l : length bs ≡ 16) (e : n ≡ size_of f) where
  pub within : n ≤ length bs
  within = let s = sizes f in omega arith

  pub counted : n ≡ length (take n bs)
  counted = sym (length-take-le n bs within)

  -- room for the address, and behind it for the port
  pub address_room : {o o₁ o₂ ps cs : List ℕ} {at a b : ℕ} → Wrote o at ps a o₁ → Wrote o₁ a cs b o₂ → length ps ≡ 2 → length cs ≡ 2 → at + 22 ≤ length o → b + length (take n bs) ≤ length o₂
  address_room v w p q h =
      let s = sizes f in
      let i = v.place in
      let j = w.place in
      omega (arith, wrote_length v, wrote_length w, counted)

  pub port_room : {o o₁ o₂ o₃ ps cs : List ℕ} {at a b d : ℕ} → Wrote o at ps a o₁ → Wrote o₁ a cs b o₂ → Wrote o₂ b (take n bs) d o₃ → length ps ≡ 2 → length cs ≡ 2 → at + 22 ≤ length o → d + 2 ≤ length o₃
  port_room v w x p q h =
      let s = sizes f in
      let i = v.place in
      let j = w.place in
      let k = x.place in
      omega (arith, wrote_length v, wrote_length w, wrote_length x, counted)

pub connect_written : (r : Record) (status port : ℕ) {n t at a b d e : ℕ} {o o₁ o₂ o₃ o₄ : List ℕ} → length r.address ≡ 16 → n ≡ size_of r.family → t ≡ type_of r.family
    → Wrote o at (0x05 ∷ status ∷ []) a o₁ → Wrote o₁ a (0x00 ∷ t ∷ []) b o₂ → Wrote o₂ b (take n r.address) d o₃ → Wrote o₃ d (two port) e o₄
    → Wrote o at (connect_reply status (endpoint_of r port)) e o₄
connect_written r status port {n} {t} {at} {a} {b} {d} {e} {o} {o₁} {o₂} {o₃} {o₄} l p q v w x y =
    let g : t ∷ take n r.address ≡ bound_field (record_family r.family r.address) = rw (p, q) (field_of r.family r.address l) in
    let z : Wrote o at (0x05 ∷ status ∷ 0x00 ∷ ((t ∷ take n r.address) ++ two port)) e o₄ = then (then (then v w) x) y in
    subst (λ (x : List ℕ). Wrote o at (0x05 ∷ status ∷ 0x00 ∷ (x ++ two port)) e o₄) g z

-- ---- a v4 reply

four_long : (f : Family) (bs : List ℕ) → length bs ≡ 16 → length (four_in f bs) ≡ 16
four_long Four bs l = l
four_long Six bs l = length-replicate {A = ℕ} 16 0

module _ (r : Record) {ps : List ℕ} (l : length r.address ≡ 16) (e : ps ≡ four_of r) where
  pub four_within : 4 ≤ length ps
  four_within = let s = ap length e ∙ four_long r.family r.address l in omega arith

  pub four_counted : 4 ≡ length (take 4 ps)
  four_counted = sym (length-take-le 4 ps four_within)

  pub four_room : {o o₁ o₂ bs cs : List ℕ} {at a b : ℕ} → Wrote o at bs a o₁ → Wrote o₁ a cs b o₂ → length bs ≡ 2 → length cs ≡ 2 → at + 22 ≤ length o → b + length (take 4 ps) ≤ length o₂
  four_room v w p q h =
      let i = v.place in
      let j = w.place in
      omega (arith, wrote_length v, wrote_length w, four_counted)

  pub request_written : (status port : ℕ) {at a b d : ℕ} {o o₁ o₂ o₃ : List ℕ} → Wrote o at (0x00 ∷ status ∷ []) a o₁ → Wrote o₁ a (two port) b o₂ → Wrote o₂ b (take 4 ps) d o₃
      → Wrote o at (request_reply status (endpoint_of r port)) d o₃
  request_written status port {at} {a} {b} {d} {o} {o₁} {o₂} {o₃} v w x =
      let g : take 4 ps ≡ dst_ip (record_family r.family r.address) = ap (take 4) e ∙ ip_of r.family r.address in
      let z : Wrote o at (0x00 ∷ status ∷ (two port ++ take 4 ps)) d o₃ = then (then v w) x in
      rw g at z

-- ---- the end's own replies

pub own_connect : (status : ℕ) {r : Record} {o o' : List ℕ} {at next : ℕ} → r ≡ no_address → Wrote o at (connect_reply status (endpoint_of r 0)) next o' → Wrote o at (own_reply5 status) next o'
own_connect status e w = rw e at w

pub own_request : (status : ℕ) {r : Record} {o o' : List ℕ} {at next : ℕ} → r ≡ no_address → Wrote o at (request_reply status (endpoint_of r 0)) next o' → Wrote o at (own_reply4 status) next o'
own_request status e w = rw e at w

-- ---- the status sent

module _ (v : Version) (s : ℕ) where
  module _ (e : v ≡ V4) where
    pub answers_four : (x : Endpoint) {t : ℕ} {o o' : List ℕ} {at next : ℕ} → t ≡ status_to v s → Wrote o at (request_reply t x) next o' → Wrote o at (reply_to v s x) next o'
    answers_four x q w = rw e (rw (q, e) at w)

  module _ (e : v ≡ V5) where
    pub answers_five : (x : Endpoint) {t : ℕ} {o o' : List ℕ} {at next : ℕ} → t ≡ status_to v s → Wrote o at (connect_reply t x) next o' → Wrote o at (reply_to v s x) next o'
    answers_five x q w = rw e (rw (q, e) at w)
