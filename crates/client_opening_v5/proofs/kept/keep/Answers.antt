use Prim.Native.Nat.{ℕ, ◌+◌, ◌≤◌}
use native.Mathlib.Omega.{arith}
use mathlib.Core.Path.{◌≡◌}
use mathlib.Core.List.{List}
use lib.ListN.{length, replicate}
use Rattle.client_opening.specs.common.Asked.{target5}
use Rattle.client_opening.proofs.common.KeptBy.{zeros_size}
use Rattle.client_opening_v5.proofs.kept.Keeping.{room_second, room_third, keeps5}
use Rattle.client_opening_v5.proofs.kept.keep.Goals as goal

room_first : {bs : List ℕ} → bs ≡ replicate 1024 0 → 0 + 3 ≤ length bs
room_first z = omega (arith, zeros_size z)

pub put_negotiation_req-a-requires : goal.put_negotiation_req-a-requires
put_negotiation_req-a-requires c = room_first c.requires.0

pub put_authentication-b-requires : goal.put_authentication-b-requires
put_authentication-b-requires c =
    let p = c.requires in
    (p.1.credentials, room_second c.method_of.result p.0 c.put_negotiation_req-a.ensures)

pub put_proxy-c-requires : goal.put_proxy-c-requires
put_proxy-c-requires c =
    let a = c.args in
    let p = c.requires in
    (p.1.name, room_third c.method_of.result p.0 c.put_negotiation_req-a.ensures a.config.proxy_auth a.user.now a.password.now c.put_authentication-b.ensures p.1.credentials)

pub returns : goal.returns
returns c =
    let a = c.args in
    let m = c.method_of in
    keeps5 m.result c.requires.0 c.put_negotiation_req-a.ensures a.config.proxy_auth a.user.now a.password.now c.put_authentication-b.ensures m.ensures
    (target5 a.asked a.text.now) a.port a.config.optimistic c.put_proxy-c.ensures
