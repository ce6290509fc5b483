use Rattle.lent_proxy.proofs.telling.told.Goals as goal

pub returns : goal.returns
returns c =
    rw (c.standing_of.ensures, c.stage_of.ensures, c.stage_at.ensures, c.eight_at-kept.ensures)
