use native.Mathlib.Omega.{arith}
use mathlib.Core.Path.{sym, ◌∙◌}
use lib.ListN.{length}
use Rattle.std.proofs.lemmas.Bool.Decides.{Decides-eqb, not_from_Decides}
use Rattle.proxy_delivery.proofs.delivery.Ways.{receives_taken}
use Rattle.proxy_delivery.proofs.delivery.receive_awaiting.Goals as goal

pub returns : goal.returns
returns c =
    let a = c.args in
    let z = not_from_Decides _ (Decides-eqb (length a.piece.now) 0) (sym c.is_empty.ensures ∙ c.if-is_empty.false) in
    receives_taken a.held a.credentials.now a.hold.now a.piece.now a.bound a.out.now a.field c.told-hold c.min-n.ensures c.take.ensures (omega (arith, c.if-out-lt-PROXY_OUTPUT.false)) z
