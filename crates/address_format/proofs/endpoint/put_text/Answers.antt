use Rattle.std.proofs.Common.{arith, rules}
use Rattle.address_format.proofs.groups.Puts.{five, room}
use Rattle.address_format.proofs.endpoint.Texts.{text_of_lem}
use Rattle.address_format.proofs.numerals.Laws.{one}
use Rattle.protocol.specs.Requests.{kind_of}
use lib.ListN.{length-set}
use Rattle.address_format.proofs.endpoint.put_text.Goals as goal

pub put_digits-requires : goal.put_digits-requires
put_digits-requires c =
    let h = c.put_host-end in
    (search rules, (search rules, room _ _ _ _ (omega arith) (omega (arith, c.from.ensures)) (simp length-set (omega (arith, h.ensures.upper_bound, h.ensures.adds.same)))))

pub returns-clause-upper_bound : goal.returns-clause-upper_bound
returns-clause-upper_bound c =
    let f = five 10 c.from.result (omega arith) (omega (arith, c.from.ensures)) in
    omega (arith, c.put_host-end.ensures.upper_bound, c.put_digits.ensures.place)

pub returns-clause-adds : goal.returns-clause-adds
returns-clause-adds c =
    let a = c.args in
    let h = c.put_host-end.ensures in
    text_of_lem (kind_of a.kind a.bytes.now) a.port c.from.result c.from.ensures h.adds (one _ _ _ (omega (arith, h.upper_bound, h.adds.same))) c.put_digits.ensures
