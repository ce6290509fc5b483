use Rattle.lent_route.proofs.Prefix.{first_long}
use mathlib.Core.Path.{sym, ap, ◌∙◌}
use Rattle.lent_route.proofs.preparing.Opening.{untimely_as, opens_over, opens_again, opens_in_turn, none_of, many_of, opens_none}
use Rattle.lent_route.proofs.preparing.Hopping.{phase_over, phase_waits}
use mathlib.Core.Bool.{Bool, cond}
use Rattle.lent_route.specs.State.{opened, preparing}
use Rattle.lent_route.proofs.preparing.open.Goals as goal

pub slice_bounds-awaited-end-2 : goal.slice_bounds-awaited-end-2
slice_bounds-awaited-end-2 c = sym (first_long c.args.s.now c.requires.0)

pub awaited-requires : goal.awaited-requires
awaited-requires c = first_long c.args.s.now c.requires.0

pub slice_bounds-refused-end-then-awaited-eq0 : goal.slice_bounds-refused-end-then-awaited-eq0
slice_bounds-refused-end-then-awaited-eq0 c = sym (first_long c.args.s.now c.requires.0)

pub refused-requires : goal.refused-requires
refused-requires c = first_long c.args.s.now c.requires.0

pub returns-then-awaited-eq0 : goal.returns-then-awaited-eq0
returns-then-awaited-eq0 c =
    let s = c.args.s.now in
    opens_over s c.args.out.now (phase_over s c.requires.0 c.awaited.ensures c.if-awaited-eq0.true) (untimely_as _ s c.args.out.now c.requires.0 c.refused.ensures)

pub slice_bounds-is_started-end-2 : goal.slice_bounds-is_started-end-2
slice_bounds-is_started-end-2 c = sym (first_long c.args.s.now c.requires.0)

pub is_started-requires : goal.is_started-requires
is_started-requires c = first_long c.args.s.now c.requires.0

pub slice_bounds-refused-end-then-is_started-2 : goal.slice_bounds-refused-end-then-is_started-2
slice_bounds-refused-end-then-is_started-2 c = sym (first_long c.args.s.now c.requires.0)

pub refused-requires-then-is_started : goal.refused-requires-then-is_started
refused-requires-then-is_started c = first_long c.args.s.now c.requires.0

pub returns-then-is_started : goal.returns-then-is_started
returns-then-is_started c =
    let s = c.args.s.now in
    opens_again s c.args.out.now (phase_waits s c.requires.0 c.awaited.ensures c.if-awaited-eq0.false c.is_started.ensures ∙ ap (λ (b : Bool). cond b opened preparing) c.if-is_started.true) (untimely_as _ s c.args.out.now c.requires.0 c.refused-then-is_started.ensures)

pub returns-then-count-eq0 : goal.returns-then-count-eq0
returns-then-count-eq0 c =
    let s = c.args.s.now in
    opens_in_turn s c.args.out.now (phase_waits s c.requires.0 c.awaited.ensures c.if-awaited-eq0.false c.is_started.ensures ∙ ap (λ (b : Bool). cond b opened preparing) c.if-is_started.false)
    (opens_none s c.args.out.now c.two_at-count.ensures.0 (none_of _ c.if-count-eq0.true) c.open_none.ensures)

pub returns-then-count-gt-PROXIES : goal.returns-then-count-gt-PROXIES
returns-then-count-gt-PROXIES c =
    let s = c.args.s.now in
    opens_in_turn s c.args.out.now (phase_waits s c.requires.0 c.awaited.ensures c.if-awaited-eq0.false c.is_started.ensures ∙ ap (λ (b : Bool). cond b opened preparing) c.if-is_started.false)
    (opens_none s c.args.out.now c.two_at-count.ensures.0 (many_of _ c.if-count-eq0.false c.if-count-gt-PROXIES.true) c.open_none-then-count-gt-PROXIES.ensures)

pub returns : goal.returns
returns c =
    let s = c.args.s.now in
    opens_in_turn s c.args.out.now (phase_waits s c.requires.0 c.awaited.ensures c.if-awaited-eq0.false c.is_started.ensures ∙ ap (λ (b : Bool). cond b opened preparing) c.if-is_started.false) c.open_first.ensures
