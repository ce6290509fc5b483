use Rattle.std.proofs.Common.{◌∙◌}
use Rattle.address_text.proofs.ipv6.Gaps.{gap_lem}
use Rattle.address_text.proofs.ipv6.starts_gap.Goals as goal

pub returns : goal.returns
returns c = c.starts_with.ensures.value ∙ gap_lem _
