use Prim.Native.Nat.{ℕ, ◌≤◌}
use native.Mathlib.Omega.{arith}
use mathlib.Core.Path.{◌≡◌}
use mathlib.Core.List.{List}
use lib.ListN.{length, take, length-take}
use Rattle.client_opening.proofs.common.Targets.{four_size}
use Rattle.client_opening_v5.proofs.kept.Keeping.{proxy_room, four, six, named, asks}
use borrow.Author.Rules.{rules}
use Rattle.client_opening_v5.proofs.kept.put_proxy.Goals as goal

four_small : (bs : List ℕ) → length (take 4 bs) ≤ 255
four_small bs = omega (arith, length-take 4 bs)

six_small : {n : ℕ} → n ≡ 16 → n ≤ 255
six_small l = omega arith

pub slice_bounds-put_proxy_req-end : goal.slice_bounds-put_proxy_req-end
slice_bounds-put_proxy_req-end c = four_size c.args.asked.bytes (search rules)

pub put_proxy_req-requires : goal.put_proxy_req-requires
put_proxy_req-requires c =
    let a = c.args in
    proxy_room a.asked.kind (length (take 4 a.asked.bytes)) a.at (length a.bytes.now) (four_small a.asked.bytes) c.requires.1

pub put_proxy_req-requires-in-Ipv6 : goal.put_proxy_req-requires-in-Ipv6
put_proxy_req-requires-in-Ipv6 c =
    let a = c.args in
    proxy_room a.asked.kind (length a.asked.bytes) a.at (length a.bytes.now) (six_small (search rules)) c.requires.1

pub put_proxy_req-requires-in-Domain : goal.put_proxy_req-requires-in-Domain
put_proxy_req-requires-in-Domain c =
    let a = c.args in
    proxy_room a.asked.kind (length a.text.now) a.at (length a.bytes.now) (c.requires.0 c.in-Domain.is) c.requires.1

pub returns-in-Ipv4 : goal.returns-in-Ipv4
returns-in-Ipv4 c =
    let a = c.args in
    asks a.port (four a.asked.bytes a.text.now c.in-Ipv4.is) c.put_proxy_req.ensures

pub returns-in-Ipv6 : goal.returns-in-Ipv6
returns-in-Ipv6 c =
    let a = c.args in
    asks a.port (six a.asked.bytes a.text.now c.in-Ipv6.is) c.put_proxy_req-in-Ipv6.ensures

pub returns-in-Domain : goal.returns-in-Domain
returns-in-Domain c =
    let a = c.args in
    asks a.port (named a.asked.bytes a.text.now c.in-Domain.is) c.put_proxy_req-in-Domain.ensures
