use mathlib.Core.Path.{◌∙◌}
use Rattle.std.proofs.Common.{rules}
use Rattle.client_opening.proofs.common.Records.{by_list4}
use Rattle.client_opening_v4.proofs.opening.prepare.Goals as goal

pub returns : goal.returns
returns c =
    let a = c.args in
    let e = c.read_host-read.ensures in
    let l = c.looks_up.ensures e in
    c.prepare_read.ensures e ∙ by_list4 a.local_dns a.host.now a.port a.records.now _ _ (search rules) (search rules) c.choose-chosen.ensures
