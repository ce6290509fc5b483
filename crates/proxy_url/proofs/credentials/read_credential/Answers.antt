use mathlib.Core.Path.{sym, ◌∙◌}
use borrow.Author.Rules.{rules}
use Rattle.proxy_url.proofs.credentials.Laws.{goes_first, marked, marked_last, full, stuck, goes_on, dies_inside, reads_inside}
use Rattle.proxy_url.proofs.credentials.read_credential.Goals as goal

pub loop-len-init : goal.loop-len-init
loop-len-init c = goes_first c.args.mark c.args.text.now

pub returns-then-byte_at-mark : goal.returns-then-byte_at-mark
returns-then-byte_at-mark c = marked c.requires c.loop-len.invariant (sym c.byte_at.ensures ∙ c.if-byte_at-mark.true)

pub slice_bounds-read_escaped-count : goal.slice_bounds-read_escaped-count
slice_bounds-read_escaped-count c = c.loop-len.invariant.inside

pub slice_bounds-read_escaped-start : goal.slice_bounds-read_escaped-start
slice_bounds-read_escaped-start c = let h = c.loop-len.invariant.inside in search rules

pub overflow_add-result-in-Err : goal.overflow_add-result-in-Err
overflow_add-result-in-Err c = let h = dies_inside c.args.text.now c.loop-len.at (sym c.read_escaped.ensures ∙ c.in-Err.is) c.loop-len.invariant.inside in search rules

pub returns-in-Err : goal.returns-in-Err
returns-in-Err c = stuck c.requires c.loop-len.invariant (λ e. c.if-byte_at-mark.false (c.byte_at.ensures ∙ e)) c.loop-len-test.true (sym c.read_escaped.ensures ∙ c.in-Err.is)

pub overflow_add-at : goal.overflow_add-at
overflow_add-at c = let h = reads_inside c.args.text.now c.loop-len.at (sym c.read_escaped.ensures ∙ c.in-Ok.is) c.loop-len.invariant.inside in search rules

pub loop-len-preserved : goal.loop-len-preserved
loop-len-preserved c = goes_on c.requires c.loop-len.invariant (λ e. c.if-byte_at-mark.false (c.byte_at.ensures ∙ e)) c.loop-len-test.true (sym c.read_escaped.ensures ∙ c.in-Ok.is)

pub returns-then-byte_at-mark-2 : goal.returns-then-byte_at-mark-2
returns-then-byte_at-mark-2 c = full c.requires c.loop-len.invariant (λ e. c.if-byte_at-mark-2.true (c.byte_at-2.ensures ∙ e)) (let l = c.loop-len in search rules)

pub returns : goal.returns
returns c = marked_last c.requires c.loop-len.invariant (sym c.byte_at-2.ensures ∙ c.if-byte_at-mark-2.false) (let l = c.loop-len in search rules)
