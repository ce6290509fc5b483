use lib.ListN.{take, drop}
use Rattle.client_stages.specs.declared.due.Lengths.{Lengths}
use Rattle.client_session.specs.declared.Session.{Session}
use Rattle.lent_numbers.specs.told.Told.{outcome_of}
use Rattle.lent_session.specs.State.{state_of}
use Rattle.lent_session.proofs.telling.Laws.{told_is}
use Rattle.lent_route.specs.State.{spoken_at}
use Rattle.lent_route.proofs.Prefix.{prefix}
use native.Mathlib.Omega.{arith}
use Rattle.lent_route.proofs.Prefix.{first_long}
use mathlib.Core.Path.{sym, ap, ◌∙◌}
use Rattle.lent_route.proofs.delivery.settle.Goals as goal

pub slice_bounds-lengths_at-end-2 : goal.slice_bounds-lengths_at-end-2
slice_bounds-lengths_at-end-2 c = sym (first_long c.args.s.now c.requires.0)

pub lengths_at-requires : goal.lengths_at-requires
lengths_at-requires c = first_long c.args.s.now c.requires.0

pub returns : goal.returns
returns c =
    let a = c.args in
    let s = a.s.now in
    let q = a.reached in
    let u = c.put_spoken.ensures in
    let e = c.lengths_at.ensures ∙ ap (λ (x : Session). x.requests.lengths) (prefix s (omega (arith, c.requires.0))) in
    record {
      returned = λ i. record {
        used = q.used;
        sent = q.spot.sent;
        answer = 0;
        outcome = (c.outcome_of.ensures ∙ ap outcome_of (c.outcome.ensures q.spot.bound (take q.spot.held a.hold.now)) ∙ sym (told_is q.spot.stage q.spot.bound (take q.spot.held a.hold.now))) i;
      };
      left = u.0 ∙ ap (λ (l : Lengths). state_of (spoken_at q.spot (record { optimistic = l.optimistic; first = l.first; authentication = q.spot.behind; proxy = l.proxy }) a.hold.now (drop 282 s))) e;
      tries = u.1.0;
      port = u.1.1;
    }
