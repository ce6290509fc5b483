use Rattle.proxy_url_route.proofs.refuse.Goals as goal

pub returns : goal.returns
returns c = rw c.no_proxies.ensures
