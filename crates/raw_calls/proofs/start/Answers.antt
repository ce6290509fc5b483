use Rattle.raw_calls.proofs.Laws.{says_started}
use Rattle.raw_calls.proofs.start.Goals as goal

pub returns : goal.returns
returns c = says_started c.args.session c.session_of.ensures _ _ _ _ c.start-made.ensures c.step.ensures
