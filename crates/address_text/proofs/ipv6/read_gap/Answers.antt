use Rattle.std.proofs.Common.{rules, le-leb}
use borrow.Author.Tests.{lt-leb}
use Rattle.address_text.proofs.ipv6.Gaps.{join_turn}
use Rattle.address_text.proofs.ipv6.read_gap.Goals as goal

pub returns-then-n-row-le14 : goal.returns-then-n-row-le14
returns-then-n-row-le14 c =
    let e = rw (c.in-Ends.is, le-leb _ _ c.if-n-row-le14.true) at (join_turn c.args.left c.args.n (search rules) c.requires c.read_right-row.ensures) in
    rw (e, c.joined-bytes.ensures)

pub returns-in-NoRow : goal.returns-in-NoRow
returns-in-NoRow c = rw (rw c.in-NoRow.is at (join_turn c.args.left c.args.n (search rules) c.requires c.read_right-row.ensures)) c.no_address.ensures

pub returns-in-Gap : goal.returns-in-Gap
returns-in-Gap c = rw (rw c.in-Gap.is at (join_turn c.args.left c.args.n (search rules) c.requires c.read_right-row.ensures)) c.no_address-in-Gap.ensures

pub returns-else-n-row-le14 : goal.returns-else-n-row-le14
returns-else-n-row-le14 c =
    let e = rw (c.in-Ends.is, lt-leb _ _ c.if-n-row-le14.false) at (join_turn c.args.left c.args.n (search rules) c.requires c.read_right-row.ensures) in
    rw e c.no_address-in-Ends.ensures
