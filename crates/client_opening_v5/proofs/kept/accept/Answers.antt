use Rattle.client_opening.specs.common.Asked.{target5}
use Rattle.client_opening_v5.proofs.kept.Keeping.{accepts5}
use Rattle.client_opening_v5.proofs.kept.accept.Goals as goal

pub returns : goal.returns
returns c =
    let a = c.args in
    accepts5 a.config.proxy_auth a.user.now a.password.now (target5 a.asked a.text.now) a.port a.config.optimistic
    c.port_number.ensures c.method_of.ensures c.keep-lengths.ensures
