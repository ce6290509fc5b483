use Rattle.raw_records.proofs.Laws.{found_none, found_at}
use Rattle.raw_records.proofs.found.Goals as goal

pub returns-then-records-at-lt17 : goal.returns-then-records-at-lt17
returns-then-records-at-lt17 c =
    let a = c.args in
    found_none a.four a.records.now c.place-at.result c.place-at.ensures c.if-records-at-lt17.true

pub returns : goal.returns
returns c =
    let a = c.args in
    let at = c.place-at in
    found_at a.four a.records.now at.result at.ensures c.if-records-at-lt17.false c.copy.ensures c.family_of.ensures
