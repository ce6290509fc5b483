use Rattle.bench.proofs.Opening.{opens}
use Rattle.bench.proofs.answer.Goals as goal

pub returns : goal.returns
returns c = (c.answer.ensures.inside, opens c.args.server _ c.args.out.now c.success_at.ensures c.answer.ensures.returned)
