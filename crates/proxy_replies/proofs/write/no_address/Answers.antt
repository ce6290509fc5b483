use mathlib.Core.Path.{refl}
use Rattle.proxy_replies.proofs.write.no_address.Goals as goal

pub returns : goal.returns
returns c = refl
