use Rattle.std.proofs.Common.{◌≡◌, ℕ, ◌+◌, ◌≤◌, arith, ltb-true}
use Rattle.lent_session.proofs.delivery.is_held.Goals as goal

pub returns-then-len-gt-HOLD : goal.returns-then-len-gt-HOLD
returns-then-len-gt-HOLD c = λ q. let z : ◌≡◌ {A = ℕ} 0 1 = cc in absurd (omega arith)

pub returns-then-len-held : goal.returns-then-len-held
returns-then-len-held c = λ q. let z : ◌≡◌ {A = ℕ} 0 1 = cc in absurd (omega arith)

pub returns : goal.returns
returns c =
    λ q e n.
    let a = c.args in
    let h : a.held + a.len ≤ 261 = omega (arith, c.if-len-held.false, c.if-len-gt-HOLD.false) in
    record { room = h; undecided = λ p l. c.fewest_held.ensures e n (omega arith) p (omega (arith, ltb-true (a.held + a.len) c.fewest_held.result q)) }
