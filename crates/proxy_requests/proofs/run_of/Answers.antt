use mathlib.Core.Path.{sym, ◌∙◌}
use native.Mathlib.Omega.{arith}
use Rattle.proxy_requests.proofs.Texts.{goes_on, stops, ends}
use Rattle.proxy_requests.proofs.run_of.Goals as goal

pub loop-i-preserved : goal.loop-i-preserved
loop-i-preserved c =
    let a = c.args in
    let t = c.loop-i-test.true in
    let e = c.min-end.ensures in
    let n = c.len.ensures in
    goes_on a.most a.bytes.now _ c.loop-i.invariant (omega arith) (omega arith) (λ e. c.if-byte-eq0.false (c.byte.ensures ∙ e))

pub returns-then-byte-eq0-clause-run : goal.returns-then-byte-eq0-clause-run
returns-then-byte-eq0-clause-run c =
    let a = c.args in
    let t = c.loop-i-test.true in
    let e = c.min-end.ensures in
    let n = c.len.ensures in
    stops a.most a.bytes.now _ c.loop-i.invariant (omega arith) (sym c.byte.ensures ∙ c.if-byte-eq0.true)

pub returns-clause-run : goal.returns-clause-run
returns-clause-run c =
    let a = c.args in
    let t = c.loop-i-test.false in
    let u = c.loop-i.auto.i-end in
    let e = c.min-end.ensures in
    let n = c.len.ensures in
    let q = ends a.most a.bytes.now _ c.loop-i.invariant (omega arith) in
    omega arith
