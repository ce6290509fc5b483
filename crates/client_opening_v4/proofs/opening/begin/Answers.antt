use mathlib.Core.Path.{ap, ◌∙◌}
use Rattle.std.proofs.Common.{rules}
use Rattle.client_opening.specs.common.Asked.{asked_text}
use Rattle.client_opening_v4.proofs.opening.Preparing.{refuses4}
use Rattle.client_opening_v4.proofs.opening.begin.Goals as goal

pub returns-in-Err : goal.returns-in-Err
returns-in-Err c =
    let a = c.args in
    refuses4 a.local_dns a.host.now a.read a.port a.chosen c.strip_ipv6_brackets-text.ensures (c.asked-asked.ensures ∙ ap (asked_text a.read) (search rules)) c.is_announcing.ensures (search rules) c.in-Err.is c.refuse.ensures c.requires
