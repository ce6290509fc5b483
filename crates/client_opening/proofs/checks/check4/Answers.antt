use mathlib.Core.Path.{sym, ◌∙◌}
use Rattle.std.proofs.Common.{rules}
use Rattle.protocol.specs.Opening.{is_name, refuse}
use Rattle.protocol.specs.Requests.{kind_of}
use Rattle.protocol.specs.Answers.{Accepted}
use Rattle.protocol.specs.declared.SocksError.TheVariants.{AnnouncesName}
use mathlib.Core.List.{[]}
use Rattle.client_opening.proofs.checks.Laws.{stops}
use Rattle.client_opening.proofs.checks.check4.Goals as goal

pub returns-in_err-check_name : goal.returns-in_err-check_name
returns-in_err-check_name c =
    let a = c.args in
    let z = stops (is_name (kind_of a.kind [])) a.text.now 1014 a.local_dns c.finds_no_four.result (refuse a.announcing AnnouncesName Accepted) {x = c.in_err-check_name.field-0.0} (sym c.check_name.ensures ∙ c.in_err-check_name.was) in
    search rules
