use Rattle.std.proofs.Common.{◌≤◌, length, sym, ◌∙◌, arith, take_all, eq-eqb, ne_eqb}
use Rattle.address_text.proofs.ipv4.Texts.{from_drop}
use Rattle.address_text.proofs.ipv6.Gaps.{whole_turn, starting, start_long}
use Rattle.address_text.proofs.ipv6.read_ipv6.Goals.{Then-starts_gap}
use Rattle.address_text.proofs.ipv6.read_ipv6.Goals as goal

long : (c : Then-starts_gap) → 2 ≤ length c.args.text.now
long c = start_long _ (sym c.starts_gap.ensures ∙ c.if-starts_gap.true)

pub slice_bounds-read_gap-count : goal.slice_bounds-read_gap-count
slice_bounds-read_gap-count c = let h = long c in omega arith

pub slice_bounds-read_gap-start : goal.slice_bounds-read_gap-start
slice_bounds-read_gap-start c = let h = long c in omega arith

pub returns-then-starts_gap : goal.returns-then-starts_gap
returns-then-starts_gap c = rw (starting _ (sym c.starts_gap.ensures ∙ c.if-starts_gap.true), ← from_drop _ 2) c.read_gap.ensures

pub returns-then-len-eq16 : goal.returns-then-len-eq16
returns-then-len-eq16 c =
    let r = c.read_groups-row in
    let l = c.if-len-eq16.true in
    let x = r.ensures.sixteen in
    let e = rw (c.in-Ends.is, eq-eqb _ _ l, take_all r.result.len r.result.bytes (omega arith)) at (whole_turn c.read_groups-row.ensures (sym c.starts_gap.ensures ∙ c.if-starts_gap.false)) in
    rw e

pub returns-in-NoRow : goal.returns-in-NoRow
returns-in-NoRow c = rw (rw c.in-NoRow.is at (whole_turn c.read_groups-row.ensures (sym c.starts_gap.ensures ∙ c.if-starts_gap.false))) c.no_address.ensures

pub returns-in-Gap : goal.returns-in-Gap
returns-in-Gap c =
    let e = rw c.in-Gap.is at (whole_turn c.read_groups-row.ensures (sym c.starts_gap.ensures ∙ c.if-starts_gap.false)) in
    rw (e, ← from_drop _ c.read_groups-row.result.next) c.read_gap-in-Gap.ensures

pub returns-else-len-eq16 : goal.returns-else-len-eq16
returns-else-len-eq16 c =
    let e = rw (c.in-Ends.is, ne_eqb _ _ c.if-len-eq16.false) at (whole_turn c.read_groups-row.ensures (sym c.starts_gap.ensures ∙ c.if-starts_gap.false)) in
    rw e c.no_address-in-Ends.ensures
