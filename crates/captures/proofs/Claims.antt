-- What the promise of F-10 gives a reader, by its fields alone.
use Prim.Native.Nat.{ℕ}
use mathlib.Core.Path.{◌≡◌, refl, ap}
use mathlib.Core.Logic.{inl, inr}
use mathlib.Core.Bool.{true}
use Rattle.std.specs.Prelude.{Ok}
use mathlib.Core.List.{List, ◌++◌}
use Rattle.protocol.specs.Answers.{Answer, Accepted}
use Rattle.protocol.specs.Bytes.{Bytes}
use Rattle.protocol.specs.Numbers.{answer_number}
use Rattle.protocol.specs.Opening.{V5, V4, Condition, conditions5, conditions4, None, Opening, opening5, opening4, Sixteen}
use Rattle.protocol.proofs.Claims.{none_then, none_both}
use Rattle.captures_spec.specs.Captures.{RunsPast, OneReading, AlikeCaptures}
use Rattle.captures_spec.proofs.Rows.{one_reading}
use Rattle.captures.specs.Calls.{Compared, check5, check4, compare5, compare4}
use Rattle.captures.specs.Judges.{one_capture, two_captures, Checks, Compares}
use Rattle.captures.proofs.Judges.{checks5, checks4, compares5, compares4}

-- a capture that is accepted is accepted beside itself, and alike
abbrev pub Itself : Compared → Type 0
Itself x = x ≡ Ok true

itself : (cs : List Condition) (o : Opening) (c : List ℕ) → Bytes c → {x : Answer} {y : Compared} → Checks cs o c x → Compares cs o c c y → x ≡ Accepted → Itself y
itself cs o c b {x} {y} h k q =
    let (n, (cut, (held, _))) = none_both cs (one_capture o c) (h.accepts.0 (ap answer_number q)) in
    let both : None (cs ++ two_captures o c c) = none_then cs (two_captures o c c) n (cut, (cut, (held, tt))) in
    k.alike_just.1 (both, go cut (one_reading c b))
  where
    go : (RunsPast c → ⊥) → OneReading c → AlikeCaptures c c
    go cut (inl (es, r, _, _)) = (es, es, r, r, λ d. refl)
    go cut (inr (p, _)) = absurd (cut p)

pub itself5 : (a : V5) → Sixteen a.records → (c : List ℕ) → Bytes c → check5 a c ≡ Accepted → Itself (compare5 a c c)
itself5 a x c b = itself (conditions5 a) (opening5 a) c b (checks5 a x c b) (compares5 a x c c b b)

pub itself4 : (a : V4) (c : List ℕ) → Bytes c → check4 a c ≡ Accepted → Itself (compare4 a c c)
itself4 a c b = itself (conditions4 a) (opening4 a) c b (checks4 a c b) (compares4 a c c b b)
