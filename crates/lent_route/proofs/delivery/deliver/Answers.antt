use Prim.Native.Nat.{ℕ}
use mathlib.Core.Path.{subst}
use lib.ListN.{length}
use Rattle.lent_route.specs.delivery.Settling.{Short}
use Rattle.lent_route.proofs.delivery.Holding.{held_leaves}
use native.Mathlib.Omega.{arith}
use Rattle.lent_route.proofs.Prefix.{first_long}
use mathlib.Core.Path.{sym, ap, ◌∙◌}
use Rattle.lent_route.proofs.preparing.Hopping.{phase_over, phase_waits}
use mathlib.Core.Bool.{Bool, cond}
use Rattle.protocol.specs.declared.SocksError.TheVariants.{Settled, OutOfOrder}
use Rattle.protocol.specs.Bytes.{Bytes}
use Rattle.client_session.specs.declared.Session.{Session}
use Rattle.lent_session.specs.State.{session_at}
use Rattle.lent_session.specs.Fits.{awaited_number}
use Rattle.lent_session.proofs.Codes.{awaited_some}
use Rattle.route_session.specs.calls.Calls.{deliver}
use Rattle.lent_route.specs.State.{opened, preparing, route_at}
use Rattle.lent_route.proofs.Prefix.{prefix}
use Rattle.lent_route.proofs.preparing.Opening.{untimely_as}
use Rattle.lent_route.proofs.delivery.Relaying.{settled_leaves, in_phase_over, in_phase_opened, in_phase_preparing}
use Rattle.lent_route.proofs.delivery.deliver.Goals as goal

pub slice_bounds-awaited-end-2 : goal.slice_bounds-awaited-end-2
slice_bounds-awaited-end-2 c = sym (first_long c.args.s.now c.requires.0)

pub awaited-n-requires : goal.awaited-n-requires
awaited-n-requires c = first_long c.args.s.now c.requires.0

pub slice_bounds-refused-end-then-n-eq0 : goal.slice_bounds-refused-end-then-n-eq0
slice_bounds-refused-end-then-n-eq0 c = sym (first_long c.args.s.now c.requires.0)

pub refused-requires : goal.refused-requires
refused-requires c = first_long c.args.s.now c.requires.0

pub returns-then-n-eq0 : goal.returns-then-n-eq0
returns-then-n-eq0 c =
    let a = c.args in
    let s = a.s.now in
    in_phase_over s a.out.now (deliver (route_at s) a.piece.now a.out.now) (phase_over s c.requires.0 c.awaited-n.ensures c.if-n-eq0.true)
    (settled_leaves s a.piece.now a.out.now c.requires.0 c.awaited-n.ensures c.if-n-eq0.true (untimely_as Settled s a.out.now c.requires.0 c.refused.ensures))

pub slice_bounds-is_started-end-2 : goal.slice_bounds-is_started-end-2
slice_bounds-is_started-end-2 c = sym (first_long c.args.s.now c.requires.0)

pub is_started-requires : goal.is_started-requires
is_started-requires c = first_long c.args.s.now c.requires.0

pub slice_bounds-append-end-then-is_short : goal.slice_bounds-append-end-then-is_short
slice_bounds-append-end-then-is_short c = sym (first_long c.args.s.now c.requires.0)

pub append-requires : goal.append-requires
append-requires c =
    let a = c.args in
    let s = a.s.now in
    let e = awaited_some (session_at s).stage (c.awaited-n.ensures ∙ ap (λ (x : Session). awaited_number x.stage) (prefix s (omega (arith, c.requires.0)))) c.if-n-eq0.false in
    (first_long s c.requires.0, (c.is_short.ensures c.if-is_short.true e.reply e.number).stays.room)

pub returns-then-is_short : goal.returns-then-is_short
returns-then-is_short c =
    let a = c.args in
    let s = a.s.now in
    let bytes : Bytes s = λ i. let z = c.slice_known-1.given i in omega arith in
    let x = prefix s (omega (arith, c.requires.0)) in
    let e = awaited_some (session_at s).stage (c.awaited-n.ensures ∙ ap (λ (t : Session). awaited_number t.stage) x) c.if-n-eq0.false in
    let n = c.two_at-held.ensures.0 in
    let w = c.append.ensures in
    in_phase_opened s a.out.now (deliver (route_at s) a.piece.now a.out.now) (phase_waits s c.requires.0 c.awaited-n.ensures c.if-n-eq0.false c.is_started.ensures ∙ ap (λ (b : Bool). cond b opened preparing) c.if-is_started.true)
    (held_leaves s a.piece.now a.out.now bytes c.requires.0 c.requires.1 e.stage (sym (ap (λ (t : Session). t.started) x) ∙ sym c.is_started.ensures ∙ c.if-is_started.true)
    (subst (λ (k : ℕ). Short e.reply s k (length a.piece.now)) n (c.is_short.ensures c.if-is_short.true e.reply e.number)) (λ z f h p. w.s_after z f (h ∙ sym n) p) w.value)

pub decide-requires : goal.decide-requires
decide-requires c =
    let a = c.args in
    let s = a.s.now in
    (c.requires.0, (c.requires.1, (c.awaited-n.ensures ∙ ap (λ (x : Session). awaited_number x.stage) (prefix s (omega (arith, c.requires.0))), (c.if-n-eq0.false, (sym (ap (λ (x : Session). x.started) (prefix s (omega (arith, c.requires.0)))) ∙ sym c.is_started.ensures ∙ c.if-is_started.true, c.two_at-held.ensures.0)))))

pub returns-then-is_started : goal.returns-then-is_started
returns-then-is_started c =
    let a = c.args in
    let s = a.s.now in
    in_phase_opened s a.out.now (deliver (route_at s) a.piece.now a.out.now) (phase_waits s c.requires.0 c.awaited-n.ensures c.if-n-eq0.false c.is_started.ensures ∙ ap (λ (b : Bool). cond b opened preparing) c.if-is_started.true) c.decide.ensures

pub slice_bounds-refused-end-3 : goal.slice_bounds-refused-end-3
slice_bounds-refused-end-3 c = sym (first_long c.args.s.now c.requires.0)

pub refused-requires-2 : goal.refused-requires-2
refused-requires-2 c = first_long c.args.s.now c.requires.0

pub returns : goal.returns
returns c =
    let a = c.args in
    let s = a.s.now in
    in_phase_preparing s a.out.now (deliver (route_at s) a.piece.now a.out.now) (phase_waits s c.requires.0 c.awaited-n.ensures c.if-n-eq0.false c.is_started.ensures ∙ ap (λ (b : Bool). cond b opened preparing) c.if-is_started.false) (untimely_as OutOfOrder s a.out.now c.requires.0 c.refused-2.ensures)
