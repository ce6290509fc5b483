use Prim.Native.Nat.{ℕ, ◌+◌}
use mathlib.Core.Path.{ap, ◌∙◌}
use mathlib.Core.List.{List}
use lib.ListN.{length}
use Rattle.buffers.specs.write.Written.{overwrite}
use Rattle.lent_numbers.specs.bytes.Numbers.{digits}
use Rattle.lent_proxy.proofs.delivery.append.Goals as goal

pub returns : goal.returns
returns c = (c.waiting.ensures, c.put_two.ensures.bytes ∙ ap (λ (t : List ℕ). overwrite t 0 (digits 2 (c.args.held + length c.args.piece.now))) c.put.ensures.bytes)
