use native.Mathlib.Omega.{arith}
use mathlib.Core.Path.{ap, sym, ◌∙◌}
use Rattle.proxy_spec.specs.declared.Stage.TheVariants.{Awaiting}
use Rattle.lent_proxy.proofs.Codes.{field_fits}
use Rattle.lent_proxy.proofs.delivery.Laws.{stage_is, over_failed, over_later, awaits_at, leaves_over, leaves_none, leaves_append}
use Rattle.lent_proxy.proofs.delivery.deliver.Goals as goal

pub returns-then-n-eq0 : goal.returns-then-n-eq0
returns-then-n-eq0 c =
    let a = c.args in
    let e = c.eight_at-kept.ensures in
    let q = c.stage_at-n.ensures in
    leaves_over a.s.now a.piece.now a.out.now (over_failed a.s.now e q c.if-n-eq0.true) c.refused.ensures

pub returns-then-n-gt10 : goal.returns-then-n-gt10
returns-then-n-gt10 c =
    let a = c.args in
    let e = c.eight_at-kept.ensures in
    let q = c.stage_at-n.ensures in
    leaves_over a.s.now a.piece.now a.out.now (over_later a.s.now e q c.if-n-gt10.true) c.refused-then-n-gt10.ensures

pub returns-then-piece-eq0 : goal.returns-then-piece-eq0
returns-then-piece-eq0 c =
    let a = c.args in
    let e = c.eight_at-kept.ensures in
    let q = c.stage_at-n.ensures in
    let z = c.if-n-eq0.false in
    let s = a.s.now in
    leaves_none s a.piece.now a.out.now (λ i. omega (arith, c.slice_known-1.given i)) c.requires.0 (stage_is s e q) z _ (awaits_at s e q z c.if-n-gt10.false) c.requires.1 c.if-piece-eq0.true c.waiting.ensures

pub append-requires : goal.append-requires
append-requires c = (c.requires.0, (c.is_held.ensures c.if-is_held.true).room)

pub returns-then-is_held : goal.returns-then-is_held
returns-then-is_held c =
    let a = c.args in
    let e = c.eight_at-kept.ensures in
    let q = c.stage_at-n.ensures in
    let z = c.if-n-eq0.false in
    let few = c.if-n-gt10.false in
    let s = a.s.now in
    leaves_append s a.piece.now a.out.now (λ i. omega (arith, c.slice_known-1.given i)) c.requires.0 (stage_is s e q) z _ (awaits_at s e q z few) c.requires.1 (field_fits _ _ few) c.two_at-held.ensures.0 (c.is_held.ensures c.if-is_held.true) c.if-piece-eq0.false c.append.ensures

pub decide-requires : goal.decide-requires
decide-requires c =
    let a = c.args in
    let e = c.eight_at-kept.ensures in
    let q = c.stage_at-n.ensures in
    let z = c.if-n-eq0.false in
    let s = a.s.now in
    (c.requires.0, c.requires.1, awaits_at s e q z c.if-n-gt10.false ∙ ap Awaiting (sym c.field_of.ensures), c.two_at-held.ensures.0, omega (arith, c.if-piece-eq0.false))
