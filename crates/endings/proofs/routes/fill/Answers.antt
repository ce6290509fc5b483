use Prim.Native.Nat.{ℕ, suc, ◌≤◌}
use native.Mathlib.Omega.{arith}
use mathlib.Core.Path.{◌≡◌, sym, subst, ap, ◌∙◌}
use mathlib.Core.List.{List}
use lib.ListN.{length}
use Rattle.buffers.specs.write.Written.{Wrote}
use Rattle.endings.specs.Coded.{row_at}
use Rattle.endings.proofs.routes.Rows.{row_none, row_past}
use Rattle.endings.proofs.routes.Laws.{row_lacks, row_filled}
use Rattle.endings.proofs.routes.fill.Goals as goal

pub returns-in_err-before-clause-stream : goal.returns-in_err-before-clause-stream
returns-in_err-before-clause-stream c =
    let a = c.args in
    let z : a.proxy ≡ 0 = omega (arith, c.in_err-before.ensures) in
    rw c.from_residual.ensures (sym (ap (λ (n : ℕ). row_at a.proxies.now n a.wanted) z ∙ row_none a.proxies.now a.wanted))

pub returns-in_err-last-clause-stream : goal.returns-in_err-last-clause-stream
returns-in_err-last-clause-stream c =
    let a = c.args in
    let past : length a.proxies.now ≤ c.in_ok-before.before = c.in_err-last.ensures.lookup.3 in
    rw c.from_residual-in_err-last.ensures (sym (row_past a.proxies.now a.proxy a.wanted (omega (arith, past, c.in_ok-before.ensures))))

pub returns-in_err-word-clause-stream : goal.returns-in_err-word-clause-stream
returns-in_err-word-clause-stream c =
    let a = c.args in
    let k = c.in_ok-last.ensures.lookup in
    let s : a.proxy ≡ suc c.in_ok-before.before = omega (arith, c.in_ok-before.ensures) in
    rw c.from_residual-in_err-word.ensures (sym (row_lacks a.proxies.now c.in_ok-before.before a.proxy a.wanted c.in_ok-last.last.now s k.3.0 k.1 (sym c.in_err-word.ensures)))

pub returns-clause-stream : goal.returns-clause-stream
returns-clause-stream c =
    let a = c.args in
    let k = c.in_ok-last.ensures.lookup in
    let s : a.proxy ≡ suc c.in_ok-before.before = omega (arith, c.in_ok-before.ensures) in
    row_filled a.proxies.now c.in_ok-before.before a.proxy a.wanted c.in_ok-last.last.now s k.3.0 k.1 (sym c.in_ok-word.ensures) c.put_opens-at.ensures.wrote
    (subst (λ (l : List ℕ). Wrote c.put_opens-at.new.out c.put_opens-at.result l c.copy.result c.copy.new.out) c.as_slice.ensures.same c.copy.ensures)
