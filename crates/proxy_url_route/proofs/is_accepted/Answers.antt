use Rattle.proxy_url_route.proofs.is_accepted.Goals as goal

pub returns-in-Err : goal.returns-in-Err
returns-in-Err c = rw c.in-Err.is
