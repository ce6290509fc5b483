use native.Mathlib.Omega.{arith}
use Rattle.proxy_url_route.proofs.lines.Laws.{counted_lines}
use Rattle.proxy_url_route.proofs.Laws.{read_none, read_many, read_refused, read_lawful}
use Rattle.proxy_url_route.proofs.read.Goals as goal

pub returns-then-text-eq0 : goal.returns-then-text-eq0
returns-then-text-eq0 c = read_none _ _ _ c.if-text-eq0.true c.refuse.ensures

pub returns-then-marks-ge-PROXIES : goal.returns-then-marks-ge-PROXIES
returns-then-marks-ge-PROXIES c = read_many _ _ c.if-text-eq0.false _ c.mark_count-marks.ensures _ c.if-marks-ge-PROXIES.true c.refuse-then-marks-ge-PROXIES.ensures

pub first_refused-refused-requires : goal.first_refused-refused-requires
first_refused-refused-requires c = counted_lines _ _ c.mark_count-marks.ensures

pub returns-then-refused-gt0 : goal.returns-then-refused-gt0
returns-then-refused-gt0 c =
    read_refused _ _ c.if-text-eq0.false _ c.mark_count-marks.ensures c.if-marks-ge-PROXIES.false c.first_refused-refused.result c.first_refused-refused.ensures
    _ c.if-refused-gt0.true c.refuse-then-refused-gt0.ensures

pub put_lines-requires : goal.put_lines-requires
put_lines-requires c =
    (counted_lines _ _ c.mark_count-marks.ensures, (omega (arith, c.if-marks-ge-PROXIES.false), c.put_lines-arg-1.given.0.1))

pub returns : goal.returns
returns c =
    read_lawful _ _ c.if-text-eq0.false _ c.mark_count-marks.ensures c.if-marks-ge-PROXIES.false c.first_refused-refused.result c.first_refused-refused.ensures
    c.if-refused-gt0.false _ _ c.put_lines.ensures.value c.put_lines.ensures.buffer_after
