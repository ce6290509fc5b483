use Rattle.proxy_requests.proofs.Texts.{Goes}
use Rattle.proxy_requests.proofs.run_of.Given as goal

abbrev pub invariant-loop-i : goal.invariant-loop-i
invariant-loop-i l = Goes l.most l.bytes l.i
