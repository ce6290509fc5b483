use Rattle.raw_calls.proofs.Laws.{says_ended}
use Rattle.raw_calls.proofs.end.Goals as goal

pub returns : goal.returns
returns c = says_ended c.args.session c.session_of.ensures c.end-made.ensures c.step.ensures
