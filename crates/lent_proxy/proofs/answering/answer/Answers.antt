use Rattle.std.proofs.Common.{arith}
use Rattle.proxy_spec.specs.End.{endpoint_of}
use Rattle.lent_proxy.specs.Calls.{record_of}
use Rattle.lent_proxy.proofs.delivery.Laws.{stage_is}
use Rattle.lent_proxy.proofs.Leaving.{asked_v4, asked_v5, leaves_unasked}
use Rattle.lent_proxy.proofs.answering.answer.Goals as goal

pub answer_asked-requires : goal.answer_asked-requires
answer_asked-requires c =
    let s = c.args.s.now in
    let e = c.eight_at-kept.ensures in
    let q = c.stage_at-n.ensures in
    (c.requires.0, c.requires.1, asked_v4 s (stage_is s e q) c.in-11.is)

pub answer_asked-requires-in-12 : goal.answer_asked-requires-in-12
answer_asked-requires-in-12 c =
    let s = c.args.s.now in
    let e = c.eight_at-kept.ensures in
    let q = c.stage_at-n.ensures in
    (c.requires.0, c.requires.1, asked_v5 s (stage_is s e q) c.in-12.is)

pub returns-in_default : goal.returns-in_default
returns-in_default c =
    let s = c.args.s.now in
    let e = c.eight_at-kept.ensures in
    let q = c.stage_at-n.ensures in
    let a = c.args in
    leaves_unasked a.status (endpoint_of (record_of a.bound) a.port) a.out.now s (stage_is s e q) (λ q. omega (arith, q)) (λ q. omega (arith, q)) c.refused.ensures
