-- What an accepted opening over v5 writes and keeps.
use Prim.Native.Nat.{ℕ, ◌+◌, ◌-◌, ◌≤◌}
use native.Mathlib.Nat.{add-zero}
use native.Mathlib.Omega.{arith}
use mathlib.Core.Path.{◌≡◌, refl, ap, sym, ◌∙◌, subst}
use mathlib.Core.Bool.{Bool, true, false}
use mathlib.Core.List.{List, []}
use lib.ListN.{length, take, replicate, take-append-drop}
use Rattle.protocol.specs.declared.AddressKind.{AddressKind}
use Rattle.protocol.specs.declared.AddressKind.TheVariants.{Ipv4, Ipv6, Domain}
use Rattle.protocol.specs.Answers.{Accepted, Port}
use Rattle.protocol.specs.declared.AuthMethod.{AuthMethod}
use Rattle.protocol.specs.declared.Reply.TheVariants.{NegotiationRes}
use Rattle.protocol.specs.AddressReading.{Destination}
use Rattle.protocol.specs.Requests.{negotiation_req, proxy_req, kind_of}
use Rattle.protocol.specs.Opening.{v5, credentials_if, port_number, first_reply}
use Rattle.protocol.proofs.Limits.{greeting_size, credentials_limit}
use Rattle.buffers.specs.write.Written.{overwrite, Wrote}
use Rattle.buffers.proofs.write.Laws.{wrote_length}
use Rattle.requests.specs.v5.Sizes.{address_size}
use Rattle.client_stages.specs.declared.due.Lengths.{Lengths}
use Rattle.client_stages.specs.declared.due.Stage.TheVariants.{Awaiting}
use Rattle.client_session.specs.Calls.{kept_with, kept_by, prepared_by}
use Rattle.client_opening.specs.common.Asked.{target_by}
use Rattle.client_opening.specs.common.Begun.{method_of, prepared_with}
use Rattle.client_opening.proofs.common.KeptBy.{keeps_three, zeros_size}
use Rattle.client_opening.proofs.common.Accepting.{prepares_accepted}
use Rattle.client_opening_v5.specs.kept.Accepted.{credentials_req}

-- ---- sizes

credentials_size : (b : Bool) (u p : List ℕ) → (b ≡ true → (length u ≤ 255) × (length p ≤ 255)) → length (credentials_req b u p) ≤ 513
credentials_size true u p h = let k = h refl in credentials_limit u p k.0 k.1
credentials_size false u p h = omega arith

pub wrote_none : (out : List ℕ) (at : ℕ) → at ≤ length out → Wrote out at [] at out
unfolding overwrite
wrote_none out at h = record { inside = omega arith; place = omega arith; bytes = rw add-zero (sym (take-append-drop at out)) }

-- ---- the ProxyReq, by the kind of what is asked for

pub proxy_room : (k : AddressKind) (n at room : ℕ) → n ≤ 255 → at + 262 ≤ room → (n ≤ 255) × (at + (address_size k n + 5) ≤ room)
proxy_room Ipv4 n at room h r = (h, omega arith)
proxy_room Ipv6 n at room h r = (h, omega arith)
proxy_room Domain n at room h r = (h, omega arith)

module _ (bs text : List ℕ) {k : AddressKind} where
  pub four : k ≡ Ipv4 → kind_of k (take 4 bs) ≡ target_by k bs text
  four e = rw e

  pub six : k ≡ Ipv6 → kind_of k bs ≡ target_by k bs text
  six e = rw e

  pub named : k ≡ Domain → kind_of k text ≡ target_by k bs text
  named e = rw e

pub asks : {d e : Destination} (port : ℕ) {at n : ℕ} {out out' : List ℕ} → d ≡ e → Wrote out at (proxy_req d port) n out' → Wrote out at (proxy_req e port) n out'
asks port {at} {n} {out} {out'} q w = subst (λ (d : Destination). Wrote out at (proxy_req d port) n out') q w

-- ---- three requests behind each other

module _ (m : AuthMethod) {bs o₁ : List ℕ} {i : ℕ} (z : bs ≡ replicate 1024 0) (u : Wrote bs 0 (negotiation_req m) i o₁) where
  pub room_second : i + 513 ≤ length o₁
  room_second = omega (arith, u.place, greeting_size m, wrote_length u, zeros_size z)

  module _ (b : Bool) (user password : List ℕ) {o₂ : List ℕ} {j : ℕ} (v : Wrote o₁ i (credentials_req b user password) j o₂) where
    pub room_third : (b ≡ true → (length user ≤ 255) × (length password ≤ 255)) → j + 262 ≤ length o₂
    room_third h = omega (arith, u.place, greeting_size m, wrote_length u, zeros_size z, v.place, wrote_length v, credentials_size b user password h)

    pub keeps5 : m ≡ method_of b → (d : Destination) (port : ℕ) (o : Bool) {o₃ : List ℕ} {k : ℕ} → Wrote o₂ j (proxy_req d port) k o₃
        → record { lengths = record { optimistic = o; first = i; authentication = j - i; proxy = k - j }; bytes = o₃ } ≡ kept_by (v5 (credentials_if b user password) d port o)
    keeps5 e d port o w = keeps_three o z u v w ∙ ap (λ (n : AuthMethod). kept_with o (negotiation_req n) (credentials_req b user password) (proxy_req d port)) e ∙ go b
      where
        go : (b : Bool) → kept_with o (negotiation_req (method_of b)) (credentials_req b user password) (proxy_req d port) ≡ kept_by (v5 (credentials_if b user password) d port o)
        go true = refl
        go false = refl

-- ---- an accepted opening

awaits_first : (b : Bool) (u p : List ℕ) (d : Destination) (port : ℕ) (o : Bool) → NegotiationRes (method_of b) ≡ first_reply (v5 (credentials_if b u p) d port o)
awaits_first true u p d port o = refl
awaits_first false u p d port o = refl

pub accepts5 : (b : Bool) (user password : List ℕ) (d : Destination) (port : Port) (o : Bool) {n : ℕ} {m : AuthMethod} {l : Lengths} {bytes : List ℕ}
    → n ≡ port_number port → m ≡ method_of b → record { lengths = l; bytes = bytes } ≡ kept_by (v5 (credentials_if b user password) d n o)
    → prepared_with (record { answer = Accepted; stage = Awaiting (NegotiationRes m); lengths = l }) bytes ≡ prepared_by Accepted (v5 (credentials_if b user password) d (port_number port) o)
accepts5 b user password d port o e f k =
    let c = credentials_if b user password in
    prepares_accepted (v5 c d (port_number port) o)
    (ap (λ (a : AuthMethod). Awaiting (NegotiationRes a)) f ∙ ap Awaiting (awaits_first b user password d (port_number port) o)) (k ∙ ap (λ (p : ℕ). kept_by (v5 c d p o)) e)
