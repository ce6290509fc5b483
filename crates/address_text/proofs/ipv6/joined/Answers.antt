use Rattle.std.proofs.Common.{◌≡◌, length, ◌∙◌, rules}
use Rattle.address_text.proofs.ipv6.Joins.{joins}
use Rattle.address_text.proofs.ipv6.joined.Goals.{Start}
use Rattle.address_text.proofs.ipv6.joined.Goals as goal

sixteen : (c : Start) → (length c.args.left ≡ 16) × (length c.args.right ≡ 16)
sixteen c = (search rules, search rules)

pub returns : goal.returns
returns c =
    let a = c.args in
    let (x, y) = sixteen c.before.before in
    c.copied.ensures ∙ rw c.copied-head.ensures (joins a.left a.right a.n a.m x y c.requires)
