use native.Mathlib.Omega.{arith}
use Rattle.lent_route.proofs.Prefix.{first_long}
use mathlib.Core.Path.{sym, ap, ◌∙◌}
use Prim.Native.Nat.{ℕ, min}
use Rattle.client_stages.specs.declared.due.Stage.TheVariants.{Awaiting}
use Rattle.client_session.specs.declared.Session.{Session}
use Rattle.lent_route.proofs.Prefix.{prefix}
use borrow.Author.Rules.{rules}
use Rattle.lent_route.proofs.delivery.spot_at.Goals as goal

pub slice_bounds-bound_at-end : goal.slice_bounds-bound_at-end
slice_bounds-bound_at-end c = sym (first_long c.args.s.now c.requires)

pub bound_at-requires : goal.bound_at-requires
bound_at-requires c = first_long c.args.s.now c.requires

pub returns : goal.returns
returns c =
    let a = c.args in
    let s = a.s.now in record {
      value = λ e q. λ i. record {
        behind = (c.min.ensures ∙ ap (λ (n : ℕ). min n a.last) c.two_at.ensures.0) i;
        stage = Awaiting (c.reply_of.ensures e q i);
        held = a.held;
        bound = (c.bound_at.ensures ∙ ap (λ (x : Session). x.bound) (prefix s (omega (arith, c.requires)))) i;
        attempts = c.eight_at.ensures i;
        sent = 0;
      };
      attempts_bound = search rules;
    }
