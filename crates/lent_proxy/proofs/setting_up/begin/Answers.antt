use Rattle.lent_proxy.proofs.Setting.{begun}
use Rattle.lent_proxy.proofs.setting_up.begin.Goals as goal

pub returns : goal.returns
returns c = begun c.args.s.now c.requires c.clear.ensures
