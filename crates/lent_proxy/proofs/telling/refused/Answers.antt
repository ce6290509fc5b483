use Rattle.lent_proxy.proofs.telling.refused.Goals as goal

pub returns : goal.returns
returns c = rw (c.told.ensures, c.number.ensures)
