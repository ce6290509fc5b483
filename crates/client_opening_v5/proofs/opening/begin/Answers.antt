use Rattle.client_opening_v5.proofs.opening.Preparing.{refuses5}
use Rattle.client_opening_v5.proofs.opening.begin.Goals as goal

pub returns-in-Err : goal.returns-in-Err
returns-in-Err c =
    let a = c.args in
    refuses5 a.config a.host.now a.read a.port a.user.now a.password.now a.chosen c.strip_ipv6_brackets-text.ensures c.check5.ensures
    c.in-Err.is c.refuse.ensures c.requires
