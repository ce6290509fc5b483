use Rattle.proxy_decisions.proofs.destination.Laws.{told_other}
use Rattle.proxy_decisions.proofs.destination.keep.Goals as goal

pub returns-in-UserId : goal.returns-in-UserId
returns-in-UserId c = rw c.in-UserId.is c.keep_ip.ensures

pub keep_told-requires : goal.keep_told-requires
keep_told-requires c =
    let p = c.requires in
    (p.0, p.1, p.2, p.3, told_other c.args.field _ p.4 c.in_default.not-UserId)
