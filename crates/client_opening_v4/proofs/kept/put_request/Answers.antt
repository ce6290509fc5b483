use Prim.Native.Nat.{ℕ, ◌+◌, ◌≤◌}
use native.Mathlib.Omega.{arith}
use mathlib.Core.Path.{sym}
use Rattle.client_opening.proofs.common.Targets.{four_size}
use Rattle.client_opening_v4.proofs.kept.Keeping.{four, named, asks}
use borrow.Author.Rules.{rules}
use Rattle.client_opening_v4.proofs.kept.put_request.Goals as goal

address_room : {room : ℕ} → 1024 ≤ room → 0 + 9 ≤ room
address_room h = omega arith

name_room : {n room : ℕ} → n ≤ 1014 → 1024 ≤ room → 0 + (n + 10) ≤ room
name_room h k = omega arith

pub slice_bounds-put_address-end : goal.slice_bounds-put_address-end
slice_bounds-put_address-end c =
    four_size c.args.asked.bytes (search rules)

pub put_address-requires : goal.put_address-requires
put_address-requires c =
    (sym (four_size c.args.asked.bytes (search rules)), address_room c.requires.0)

pub put_name-requires : goal.put_name-requires
put_name-requires c =
    name_room (c.requires.1.name c.in-Domain.is) c.requires.0

pub returns-in-Ipv4 : goal.returns-in-Ipv4
returns-in-Ipv4 c =
    let a = c.args in
    asks a.port (four a.asked.bytes a.text.now c.in-Ipv4.is) c.put_address.ensures

pub returns-in-Ipv6 : goal.returns-in-Ipv6
returns-in-Ipv6 c = absurd (c.requires.1.not_ipv6 c.in-Ipv6.is)

pub returns-in-Domain : goal.returns-in-Domain
returns-in-Domain c =
    let a = c.args in
    asks a.port (named a.asked.bytes a.text.now c.in-Domain.is) c.put_name.ensures
