use native.Mathlib.Omega.{arith}
use mathlib.Core.Path.{◌∙◌}
use lib.ListN.{length-set}
use Rattle.buffers.proofs.write.Laws.{wrote_length}
use Rattle.lent_proxy.proofs.Writing.{stage_put}
use Rattle.lent_proxy.proofs.state.put_stage.Goals as goal

pub put_eight-requires : goal.put_eight-requires
put_eight-requires c = omega (arith, c.requires, length-set c.args.s.now 4 c.code_of.result)

pub shape_of-s : goal.shape_of-s
shape_of-s c = wrote_length c.put_eight.ensures ∙ length-set c.args.s.now 4 c.code_of.result

pub returns : goal.returns
returns c =
    let a = c.args in
    (stage_put a.stage a.kind c.authenticates_at.ensures c.code_of.ensures c.stage_keeps.ensures.0 c.put_eight.ensures, c.stage_keeps.ensures.1)
