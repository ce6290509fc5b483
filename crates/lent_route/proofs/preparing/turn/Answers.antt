use mathlib.Core.Bool.{Bool, cond}
use Rattle.lent_route.specs.State.{opened, preparing}
use Rattle.lent_route.proofs.Prefix.{first_long}
use Rattle.lent_route.proofs.preparing.Hopping.{phase_over, phase_waits}
use mathlib.Core.Path.{sym, ap, ◌∙◌}
use Rattle.protocol.specs.Numbers.{answer_number}
use Rattle.lent_route.specs.State.{Phase}
use Rattle.lent_route.specs.preparing.Keeping.{turn_of}
use Rattle.lent_route.proofs.preparing.turn.Goals as goal

pub slice_bounds-awaited-end : goal.slice_bounds-awaited-end
slice_bounds-awaited-end c = sym (first_long c.args.s.now c.requires)

pub awaited-requires : goal.awaited-requires
awaited-requires c = first_long c.args.s.now c.requires

pub returns-then-awaited-eq0 : goal.returns-then-awaited-eq0
returns-then-awaited-eq0 c = c.number.ensures ∙ ap (λ (p : Phase). answer_number (turn_of p)) (sym (phase_over c.args.s.now c.requires c.awaited.ensures c.if-awaited-eq0.true))

pub slice_bounds-is_started-end : goal.slice_bounds-is_started-end
slice_bounds-is_started-end c = sym (first_long c.args.s.now c.requires)

pub is_started-requires : goal.is_started-requires
is_started-requires c = first_long c.args.s.now c.requires

pub returns-then-is_started : goal.returns-then-is_started
returns-then-is_started c =
    c.number-then-is_started.ensures ∙ ap (λ (p : Phase). answer_number (turn_of p)) (sym (phase_waits c.args.s.now c.requires c.awaited.ensures c.if-awaited-eq0.false c.is_started.ensures ∙ ap (λ (b : Bool). cond b opened preparing) c.if-is_started.true))

pub returns : goal.returns
returns c =
    ap (λ (p : Phase). answer_number (turn_of p)) (sym (phase_waits c.args.s.now c.requires c.awaited.ensures c.if-awaited-eq0.false c.is_started.ensures ∙ ap (λ (b : Bool). cond b opened preparing) c.if-is_started.false))
