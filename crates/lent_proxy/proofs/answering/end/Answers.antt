use native.Mathlib.Omega.{arith}
use Rattle.lent_proxy.proofs.delivery.Laws.{stage_is, over_failed, over_later, awaits_at}
use Rattle.lent_proxy.proofs.Leaving.{leaves_unended, leaves_ended}
use Rattle.lent_proxy.proofs.answering.end.Goals as goal

pub returns-then-n-eq0 : goal.returns-then-n-eq0
returns-then-n-eq0 c =
    let s = c.args.s.now in
    let e = c.eight_at-kept.ensures in
    let q = c.stage_at-n.ensures in
    leaves_unended s (over_failed s e q c.if-n-eq0.true) c.refused.ensures

pub returns-then-n-gt10 : goal.returns-then-n-gt10
returns-then-n-gt10 c =
    let s = c.args.s.now in
    let e = c.eight_at-kept.ensures in
    let q = c.stage_at-n.ensures in
    leaves_unended s (over_later s e q c.if-n-gt10.true) c.refused-then-n-gt10.ensures

pub returns : goal.returns
returns c =
    let s = c.args.s.now in
    let e = c.eight_at-kept.ensures in
    let q = c.stage_at-n.ensures in
    let z = c.if-n-eq0.false in
    leaves_ended s (λ i. omega (arith, c.slice_known-1.given i)) c.requires (stage_is s e q) z _ (awaits_at s e q z c.if-n-gt10.false) c.kind_at-kind.ensures c.put_two.ensures.bytes c.put_stage.ensures.0 c.put_stage.ensures.1 (rw c.standing_of.ensures)
