use Rattle.std.proofs.Common.{sym, refl, ◌∙◌, rules}
use Rattle.lent_session.specs.delivery.Changes.{at, trying, accepted}
use Rattle.lent_session.proofs.Writing.{settled_as, waits_not_open, failed_not_open}
use Rattle.lent_session.proofs.delivery.settle.Goals as goal

pub returns-in-Awaiting : goal.returns-in-Awaiting
returns-in-Awaiting c =
    let t = c.args.taken in
    let told = c.in-Awaiting.is in
    record {
      value = c.waiting.ensures ∙ (λ i. accepted t.used t.sent (sym told i));
      s_after = λ x e f w h q. settled_as t x q f c.eight_at.ensures c.wrapping_add_u64.ensures.value c.put_eight.ensures.bytes c.put_two.ensures.bytes told (h (waits_not_open told)) (λ z. c.put_awaited.ensures (at x.stage t.held x.bound (trying t.attempts x)) e w z);
      port_bound = search rules;
    }

pub returns-in-Open : goal.returns-in-Open
returns-in-Open c =
    let t = c.args.taken in
    let told = c.in-Open.is in
    record {
      value = c.put_open.ensures.value ∙ (λ i. accepted t.used t.sent (sym told i));
      s_after = λ x e f w h q. settled_as t x q f c.eight_at.ensures c.wrapping_add_u64.ensures.value c.put_eight.ensures.bytes c.put_two.ensures.bytes told refl (λ z. c.put_open.ensures.s_after (at x.stage t.held x.bound (trying t.attempts x)) e w z);
      port_bound = search rules;
    }

pub returns-in-Failed : goal.returns-in-Failed
returns-in-Failed c =
    let t = c.args.taken in
    let told = c.in-Failed.is in
    record {
      value = c.put_failed.ensures.value ∙ (λ i. accepted t.used t.sent (sym told i));
      s_after = λ x e f w h q. settled_as t x q f c.eight_at.ensures c.wrapping_add_u64.ensures.value c.put_eight.ensures.bytes c.put_two.ensures.bytes told (h (failed_not_open told)) (λ z. c.put_failed.ensures.s_after (at x.stage t.held x.bound (trying t.attempts x)) e w z);
      port_bound = search rules;
    }
