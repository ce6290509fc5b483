use Prim.Native.Nat.{ℕ, ◌+◌, ◌≤◌}
use native.Mathlib.Omega.{arith}
use mathlib.Core.List.{List}
use lib.ListN.{length}
use Rattle.client_opening_v5.proofs.kept.Keeping.{wrote_none}
use Rattle.client_opening_v5.proofs.kept.put_authentication.Goals as goal

small : (at : ℕ) (u p : List ℕ) (room : ℕ) → (length u ≤ 255) × (length p ≤ 255) → at + 513 ≤ room → (length u ≤ 255) × (length p ≤ 255) × (at + (3 + (length u + length p)) ≤ room)
small at u p room h k = (h.0, h.1, omega (arith, h.0, h.1))

pub put_authentication_req-requires : goal.put_authentication_req-requires
put_authentication_req-requires c =
    let a = c.args in
    small a.at a.user.now a.password.now (length a.bytes.now) (c.requires.0 c.if-auth.true) c.requires.1

pub returns-then-auth : goal.returns-then-auth
returns-then-auth c = rw c.if-auth.true c.put_authentication_req.ensures

pub returns : goal.returns
returns c =
    rw c.if-auth.false (wrote_none c.args.bytes.now c.args.at (omega (arith, c.requires.1)))
