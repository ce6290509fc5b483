use Rattle.lent_session.proofs.preparing.Laws.{config_as}
use Rattle.lent_session.proofs.preparing.config_of.Goals as goal

pub returns : goal.returns
returns c = config_as c.args.raw c.truth.ensures c.truth-2.ensures c.truth-3.ensures
