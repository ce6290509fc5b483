use mathlib.Core.Path.{◌≡◌, refl}
use mathlib.Core.List.{List}
use Prim.Native.Nat.{ℕ, ◌+◌, ◌≤◌}
use native.Mathlib.Omega.{arith}
use lib.ListN.{length}
use Rattle.buffers.specs.write.Written.{Wrote}
use Rattle.buffers.proofs.write.Laws.{wrote_length, then}
use Rattle.protocol.specs.declared.AddressKind.{AddressKind}
use Rattle.protocol.specs.Requests.{address_field, proxy_req, kind_of}
use Rattle.requests.specs.v5.Sizes.{address_size}
use Rattle.requests.proofs.v5.Sizes.{field_size}
use Rattle.requests.proofs.v5.put_proxy_req.Goals as goal

-- behind the address field there is room for the port
port_room : {o o₁ o₂ bs : List ℕ} {at a b : ℕ} (k : AddressKind) (cs : List ℕ) → Wrote o at bs a o₁ → Wrote o₁ a (address_field (kind_of k cs)) b o₂
    → length bs ≡ 3 → at + (address_size k (length cs) + 5) ≤ length o → b + 2 ≤ length o₂
port_room k cs v w l h =
    let p = v.place in
    let q = w.place in
    let f = field_size k cs in
    omega (arith, wrote_length v, wrote_length w)

pub put_port-requires : goal.put_port-requires
put_port-requires c =
    port_room c.args.kind c.args.bytes.now c.copy-a.ensures c.put_address-b.ensures refl c.requires.1

pub returns : goal.returns
unfolding proxy_req
returns c =
    then (then c.copy-a.ensures c.put_address-b.ensures) c.put_port.ensures
