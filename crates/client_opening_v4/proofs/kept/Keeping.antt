-- What an accepted opening over v4 writes and keeps.
use Prim.Native.Nat.{ℕ}
use mathlib.Core.Path.{◌≡◌, refl, subst}
use mathlib.Core.Bool.{false}
use mathlib.Core.List.{List}
use lib.ListN.{take, replicate}
use Rattle.protocol.specs.declared.AddressKind.{AddressKind}
use Rattle.protocol.specs.declared.AddressKind.TheVariants.{Ipv4, Domain}
use Rattle.protocol.specs.Answers.{Accepted, Port}
use Rattle.protocol.specs.declared.Reply.TheVariants.{Response}
use Rattle.protocol.specs.Requests.{Destination4, address, name, request}
use Rattle.protocol.specs.Opening.{v4, port_number}
use Rattle.buffers.specs.write.Written.{Wrote}
use Rattle.client_stages.specs.declared.due.Stage.TheVariants.{Awaiting}
use Rattle.client_session.specs.Calls.{prepared_by}
use Rattle.client_opening.specs.common.Asked.{target4_by}
use Rattle.client_opening.specs.common.Begun.{prepared_with}
use Rattle.client_opening.proofs.common.KeptBy.{keeps_one}
use Rattle.client_opening.proofs.common.Accepting.{prepares_accepted}

-- ---- the Request, by the kind of what is asked for

module _ (bs text : List ℕ) {k : AddressKind} where
  pub four : k ≡ Ipv4 → address (take 4 bs) ≡ target4_by k bs text
  four e = rw e

  pub named : k ≡ Domain → name text ≡ target4_by k bs text
  named e = rw e

pub asks : {d e : Destination4} (port : ℕ) {n : ℕ} {out out' : List ℕ} → d ≡ e → Wrote out 0 (request d port) n out' → Wrote out 0 (request e port) n out'
asks port {n} {out} {out'} q w = subst (λ (d : Destination4). Wrote out 0 (request d port) n out') q w

-- ---- an accepted opening

pub accepts4 : (d : Destination4) (port : Port) {n i : ℕ} {zs bytes : List ℕ} → n ≡ port_number port → zs ≡ replicate 1024 0 → Wrote zs 0 (request d n) i bytes
    → prepared_with (record { answer = Accepted; stage = Awaiting Response; lengths = record { optimistic = false; first = i; authentication = 0; proxy = 0 } }) bytes
    ≡ prepared_by Accepted (v4 d (port_number port))
accepts4 d port {n} {i} {zs} {bytes} e z w =
    prepares_accepted (v4 d (port_number port)) refl (keeps_one false z (subst (λ (p : ℕ). Wrote zs 0 (request d p) i bytes) e w))
