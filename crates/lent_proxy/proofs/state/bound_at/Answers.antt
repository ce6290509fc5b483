use Rattle.lent_proxy.proofs.state.bound_at.Goals as goal

pub returns : goal.returns
returns c = rw (c.kind_at.ensures, c.two_at.ensures.0)
