use native.Mathlib.Omega.{arith}
use Rattle.lent_route.proofs.Prefix.{first_long}
use mathlib.Core.Path.{sym, ap}
use mathlib.Core.Path.{subst}
use mathlib.Core.Bool.{true≢false}
use Prim.Native.Nat.{ℕ, ◌≤◌}
use mathlib.Core.List.{List}
use Rattle.client_session.specs.declared.Session.{Session}
use Rattle.lent_session.specs.delivery.Quick.{Stays}
use Rattle.lent_route.proofs.Prefix.{prefix}
use Rattle.lent_route.proofs.delivery.Relaying.{short_behind}
use Rattle.lent_route.proofs.delivery.is_short.Goals as goal

pub returns-then-len-eq0 : goal.returns-then-len-eq0
returns-then-len-eq0 c = λ q. absurd (true≢false (sym q))

pub slice_bounds-is_held-end : goal.slice_bounds-is_held-end
slice_bounds-is_held-end c = sym (first_long c.args.s.now c.requires)

pub is_held-requires : goal.is_held-requires
is_held-requires c = first_long c.args.s.now c.requires

pub returns : goal.returns
returns c =
    λ q e m.
    let s = c.args.s.now in
    record {
      some = c.if-len-eq0.false;
      few = subst (λ (n : ℕ). n ≤ 8) c.two_at-count.ensures.0 c.if-count-gt-PROXIES.false;
      behind = short_behind c.two_at.ensures.0 c.two_at-count.ensures.0 c.if-count-two_at.false;
      stays = subst (λ (h : List ℕ). Stays e c.args.held h c.args.len) (ap (λ (x : Session). x.hold) (prefix s (omega (arith, c.requires)))) (c.is_held.ensures q e m);
    }
