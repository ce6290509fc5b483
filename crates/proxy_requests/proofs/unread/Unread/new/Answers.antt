use native.Mathlib.Omega.{arith}
use Rattle.protocol.proofs.Bytes.{bytes_join}
use Rattle.proxy_requests.proofs.unread.Unread.new.Goals as goal

pub invariant_of-result : goal.invariant_of-result
invariant_of-result c = bytes_join c.args.held.now c.args.piece.now (λ i. let h = c.type_inv.held i in omega arith) (λ i. let h = c.type_inv.piece i in omega arith)
