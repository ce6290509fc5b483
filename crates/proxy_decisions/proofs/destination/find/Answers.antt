use Rattle.proxy_decisions.proofs.destination.Laws.{told_name, told_address, no_other}
use Rattle.proxy_decisions.proofs.destination.find.Goals as goal

pub find_name-requires : goal.find_name-requires
find_name-requires c = told_name _ _ _ c.in-Name.is c.requires

pub returns-in-Name : goal.returns-in-Name
returns-in-Name c = rw c.in-Name.is c.find_name.ensures

pub find_address-requires : goal.find_address-requires
find_address-requires c = told_address _ _ _ _ c.in-Address.is c.requires

pub returns-in-Address : goal.returns-in-Address
returns-in-Address c = rw c.in-Address.is c.find_address.ensures

pub returns-in_default : goal.returns-in_default
returns-in_default c = absurd (no_other c.args.field c.args.bytes.now c.requires c.in_default.not-Name c.in_default.not-Address)
