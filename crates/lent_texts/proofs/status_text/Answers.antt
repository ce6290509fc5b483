use Rattle.lent_texts.proofs.Laws.{picked_copied}
use Rattle.lent_texts.proofs.status_text.Goals as goal

pub returns : goal.returns
returns c = picked_copied c.status_at.ensures c.text.ensures
