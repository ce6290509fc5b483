use borrow.Author.Rules.{rules}
use native.Mathlib.Omega.{arith}
use mathlib.Core.Path.{◌≡◌, sym}
use lib.Seq.{length-take-le}
use lib.ListN.{length}
use Rattle.std.specs.Prelude.{Err}
use Rattle.endings.specs.Calls.{Produced}
use Rattle.endings.proofs.place.Laws.{as_call}
use Rattle.endings.proofs.routes.Laws.{few, by_row, by_refusal}
use Rattle.endings.proofs.routes.stream.Goals as goal

pub returns-in_err-check : goal.returns-in_err-check
returns-in_err-check c =
    let a = c.args in
    let q : ◌≡◌ {A = Produced} c.from_residual.result (Err c.in_err-check.field-0.0) = search rules in
    rw q (by_refusal a.text.now a.proxies (search rules) a.count a.host.now a.port c.check.ensures a.proxy a.wanted a.buffer.now c.in_err-check.was)

pub slice_bounds-proxies-end : goal.slice_bounds-proxies-end
slice_bounds-proxies-end c =
    let a = c.args in
    let eight : length a.proxies ≡ 8 = search rules in
    omega (arith, eight, few a.text.now a.proxies eight a.count a.host.now a.port c.check.ensures a.proxy a.wanted a.buffer.now c.in_ok-check.was)

pub slice_bounds-put_row-end : goal.slice_bounds-put_row-end
slice_bounds-put_row-end c =
    let a = c.args in
    let eight : length a.proxies ≡ 8 = search rules in
    sym (length-take-le a.count a.proxies (omega (arith, eight, few a.text.now a.proxies eight a.count a.host.now a.port c.check.ensures a.proxy a.wanted a.buffer.now c.in_ok-check.was)))

pub returns : goal.returns
returns c =
    let a = c.args in
    as_call (by_row a.text.now a.proxies (search rules) a.count a.host.now a.port c.check.ensures a.proxy a.wanted a.buffer.now c.in_ok-check.was)
    c.put_row.ensures
