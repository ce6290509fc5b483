use Prim.Native.Nat.{ℕ, ◌≤◌}
use native.Mathlib.Omega.{arith}
use mathlib.Core.Path.{◌≡◌}
use mathlib.Core.List.{List}
use lib.ListN.{length, replicate}
use Rattle.client_opening.specs.common.Asked.{target4}
use Rattle.client_opening.proofs.common.KeptBy.{zeros_size}
use Rattle.client_opening_v4.proofs.kept.Keeping.{accepts4}
use Rattle.client_opening_v4.proofs.kept.accept.Goals as goal

room : {bs : List ℕ} → bs ≡ replicate 1024 0 → 1024 ≤ length bs
room z = omega (arith, zeros_size z)

pub put_request-n-requires : goal.put_request-n-requires
put_request-n-requires c = let p = c.requires in (room p.0, p.1)

pub returns : goal.returns
returns c =
    let a = c.args in
    accepts4 (target4 a.asked a.text.now) a.port c.port_number.ensures c.requires.0 c.put_request-n.ensures
