use borrow.Author.Tests.{ne_eqb, lt-ltb, le-ltb}
use Rattle.proxy_url.proofs.credentials.Laws.{escaped_first, percent_reserved}
use Rattle.proxy_url.proofs.credentials.read_escaped.Goals as goal

pub returns-then-is_unreserved : goal.returns-then-is_unreserved
returns-then-is_unreserved c = rw (escaped_first c.args.text.now, ← c.byte_at-first.ensures, ← c.is_unreserved.ensures, c.if-is_unreserved.true)

pub returns-else-is_unreserved : goal.returns-else-is_unreserved
returns-else-is_unreserved c = rw (escaped_first c.args.text.now, ← c.byte_at-first.ensures, ← c.is_unreserved.ensures, c.if-is_unreserved.false, ne_eqb _ _ c.if-first-ne37.true)

pub returns-then-high-ge16 : goal.returns-then-high-ge16
returns-then-high-ge16 c = rw (escaped_first c.args.text.now, ← c.byte_at-first.ensures, c.if-first-ne37.false, percent_reserved, ← c.byte_at.ensures, ← c.hex_value-high.ensures, le-ltb _ _ c.if-high-ge16.true)

pub returns-then-low-ge16 : goal.returns-then-low-ge16
returns-then-low-ge16 c = rw (escaped_first c.args.text.now, ← c.byte_at-first.ensures, c.if-first-ne37.false, percent_reserved, ← c.byte_at.ensures, ← c.hex_value-high.ensures, lt-ltb _ _ c.if-high-ge16.false, ← c.byte_at-2.ensures, ← c.hex_value-low.ensures, le-ltb _ _ c.if-low-ge16.true)

pub returns : goal.returns
returns c = rw (escaped_first c.args.text.now, ← c.byte_at-first.ensures, c.if-first-ne37.false, percent_reserved, ← c.byte_at.ensures, ← c.hex_value-high.ensures, lt-ltb _ _ c.if-high-ge16.false, ← c.byte_at-2.ensures, ← c.hex_value-low.ensures, lt-ltb _ _ c.if-low-ge16.false)
