-- What is answered by what preparing returned is what the call answers.
use mathlib.Core.Path.{◌≡◌, ap, ◌∙◌}
use Prim.Native.Nat.{ℕ}
use mathlib.Core.List.{List}
use Rattle.protocol.specs.Answers.{Answer}
use Rattle.protocol.specs.Opening.{V5, V4}
use Rattle.client_session.specs.declared.Prepared.{Prepared}
use Rattle.client_session.specs.Calls.{prepare5, prepare4}
use Rattle.captures.specs.Calls.{Compared, checked, compared, check5, check4, compare5, compare4}

pub checked5 : (a : V5) (c : List ℕ) {p : Prepared} {r : Answer} → p ≡ prepare5 a → r ≡ checked p c → r ≡ check5 a c
unfolding check5
checked5 a c e q = q ∙ ap (λ (p : Prepared). checked p c) e

pub checked4 : (a : V4) (c : List ℕ) {p : Prepared} {r : Answer} → p ≡ prepare4 a → r ≡ checked p c → r ≡ check4 a c
unfolding check4
checked4 a c e q = q ∙ ap (λ (p : Prepared). checked p c) e

pub compared5 : (a : V5) (c d : List ℕ) {p : Prepared} {r : Compared} → p ≡ prepare5 a → r ≡ compared p c d → r ≡ compare5 a c d
unfolding compare5
compared5 a c d e q = q ∙ ap (λ (p : Prepared). compared p c d) e

pub compared4 : (a : V4) (c d : List ℕ) {p : Prepared} {r : Compared} → p ≡ prepare4 a → r ≡ compared p c d → r ≡ compare4 a c d
unfolding compare4
compared4 a c d e q = q ∙ ap (λ (p : Prepared). compared p c d) e
