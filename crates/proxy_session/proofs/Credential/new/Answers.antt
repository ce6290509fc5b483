use lib.ListN.{length}
use Rattle.buffers.proofs.write.Laws.{zeros_under}
use Rattle.proxy_session.proofs.Credential.new.Goals as goal

pub returns : goal.returns
returns c = λ i. record { len = length c.args.text.now; bytes = zeros_under 255 c.copy.ensures i }
