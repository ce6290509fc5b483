use borrow.Author.Rules.{rules}
use mathlib.Core.Path.{◌∙◌}
use Rattle.proxy_decisions.proofs.destination.Laws.{finds_four, finds_six, finds_named}
use Rattle.proxy_decisions.proofs.destination.find_address.Goals as goal

pub returns-in-1 : goal.returns-in-1
returns-in-1 c = finds_four c.args.bytes.now c.requires c.in-1.is c.port.ensures c.stands.ensures

pub returns-in-4 : goal.returns-in-4
returns-in-4 c = finds_six c.args.bytes.now c.requires c.in-4.is c.port-in-4.ensures c.stands-in-4.ensures

pub returns-in_default : goal.returns-in_default
returns-in_default c =
    let e = c.from-n.ensures in
    finds_named c.args.bytes.now c.requires (search rules) (search rules) (e ∙ c.byte.ensures) (search rules) c.port-in_default.ensures c.stands-in_default.ensures
