use mathlib.Core.Logic.{inl, inr}
use Rattle.client_opening_v4.proofs.opening.Preparing.{sixteen_silent}
use borrow.Author.Rules.{rules}
use Rattle.client_opening_v4.proofs.opening.is_announcing.Goals as goal

pub returns-in-Ipv4 : goal.returns-in-Ipv4
returns-in-Ipv4 c = rw c.in-Ipv4.is c.announces_name.ensures

pub returns-in-Ipv6 : goal.returns-in-Ipv6
returns-in-Ipv6 c = elim c.in-Ipv6.is [ inl e ↦ rw e (sixteen_silent c.args.asked.bytes (search rules)) | inr e ↦ rw e ]
