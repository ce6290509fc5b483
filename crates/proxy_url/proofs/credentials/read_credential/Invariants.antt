use Rattle.proxy_url.proofs.credentials.Laws.{Going}
use Rattle.proxy_url.proofs.credentials.read_credential.Given as goal

abbrev pub invariant-loop-len : goal.invariant-loop-len
invariant-loop-len l = Going l.mark l.text l.bytes l.len l.at
