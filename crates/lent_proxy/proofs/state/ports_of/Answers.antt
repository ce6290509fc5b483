use Rattle.lent_proxy.proofs.state.ports_of.Goals as goal

pub returns : goal.returns
returns c = rw (← c.low-5.ensures, ← c.low-4.ensures, ← c.low-3.ensures, ← c.low-2.ensures, ← c.low.ensures)
