use Rattle.raw_told.proofs.Laws.{says_refusal, says_fits}
use Rattle.raw_told.proofs.bound_text.Goals as goal

pub returns-in-Err-clause-tells : goal.returns-in-Err-clause-tells
returns-in-Err-clause-tells c = says_refusal c.args.session c.session_of.ensures _ _ _ c.bound_text.ensures.text_result c.in-Err.is c.number.ensures

pub returns-in-Err-clause-enough : goal.returns-in-Err-clause-enough
returns-in-Err-clause-enough c = says_fits c.args.session c.session_of.ensures _ _ _ c.bound_text.ensures.text_result c.in-Err.is c.number.ensures c.bound_text.ensures.enough
