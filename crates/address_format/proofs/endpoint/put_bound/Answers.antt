use Rattle.address_format.proofs.endpoint.Texts.{bound_text_lem, refused, written}
use Rattle.address_format.proofs.endpoint.put_bound.Goals as goal

pub returns-then-text-len-clause-text_result : goal.returns-then-text-len-clause-text_result
returns-then-text-len-clause-text_result c = refused c.put_text-len.ensures.adds (bound_text_lem c.args.bound c.size_of-n.result c.size_of-n.ensures) c.if-text-len.true

pub returns-clause-text_result : goal.returns-clause-text_result
returns-clause-text_result c = written c.put_text-len.ensures.adds (bound_text_lem c.args.bound c.size_of-n.result c.size_of-n.ensures) c.copy.ensures
