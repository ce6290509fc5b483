use mathlib.Core.Path.{refl}
use Rattle.buffers.proofs.write.Laws.{overwrite_one}
use borrow.Author.Rules.{rules}
use Rattle.buffers.proofs.write.put_byte.Goals as goal

pub returns : goal.returns
returns c = record { inside = search rules; place = refl; bytes = overwrite_one _ _ _ c.requires }
