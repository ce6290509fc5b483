use native.Mathlib.Omega.{arith}
use Rattle.proxy_spec.specs.End.{endpoint_of}
use Rattle.lent_proxy.specs.Calls.{record_of}
use Rattle.lent_proxy.proofs.Leaving.{asked_some, leaves_answered}
use Rattle.lent_proxy.proofs.answering.answer_asked.Goals as goal

pub returns : goal.returns
returns c =
    let a = c.args in
    let p = c.requires in
    let s = a.s.now in
    leaves_answered a.status (endpoint_of (record_of a.bound) a.port) a.out.now s (λ i. omega (arith, c.slice_known-1.given i)) p.0 a.version p.2 (asked_some _ _ p.2) p.1 (rw c.record_of.ensures at c.answer-said.ensures) c.kind_at-kind.ensures c.put_stage.ensures.0 c.put_stage.ensures.1 (rw c.standing_of.ensures)
