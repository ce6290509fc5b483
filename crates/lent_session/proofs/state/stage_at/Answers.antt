use Rattle.std.proofs.Common.{sym, ◌∙◌, arith}
use Rattle.protocol.specs.Bytes.{byte}
use Rattle.lent_numbers.proofs.bytes.Laws.{number_two}
use Rattle.lent_session.proofs.Codes.{stage_failed, stage_large, stage_read}
use Rattle.lent_session.proofs.state.stage_at.Goals as goal

pub returns-then-two_at-ne0 : goal.returns-then-two_at-ne0
returns-then-two_at-ne0 c =
    let s = c.args.s.now in
    sym (stage_failed (byte s 18) (byte s 19) (byte s 20) (λ z. c.if-two_at-ne0.true (c.two_at.ensures.0 ∙ number_two s 19 (omega (arith, c.requires)) ∙ z)))

pub returns-then-code-ge96 : goal.returns-then-code-ge96
returns-then-code-ge96 c = let s = c.args.s.now in sym (stage_large (byte s 18) (byte s 19) (byte s 20) c.if-code-ge96.true)

pub returns : goal.returns
returns c =
    let s = c.args.s.now in
    sym (stage_read (byte s 18) (byte s 19) (byte s 20) (sym (number_two s 19 (omega (arith, c.requires))) ∙ sym c.two_at.ensures.0 ∙ c.if-two_at-ne0.false) c.if-code-ge96.false)
