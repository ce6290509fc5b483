-- F-10's promise: what each call answers, by the captures that an opening accepts, and whether two are alike.
use Rattle.std.specs.Prelude.{ℕ, ◌≡◌, ◌↔◌, true, Ok, List, [], ◌∷◌, ◌++◌}
use Rattle.protocol.specs.Answers.{Answer}
use Rattle.protocol.specs.Bytes.{Bytes}
use Rattle.protocol.specs.Numbers.{answer_number}
use Rattle.protocol.specs.Opening.{V5, V4, Condition, ◌↣◌, conditions5, conditions4, None, Answers, Opening, opening5, opening4, Sixteen}
use Rattle.captures_spec.specs.Captures.{RunsPast, AcceptedCapture, AlikeCaptures}
use Rattle.captures.specs.Calls.{Compared, answer_of, check5, check4, compare5, compare4}

-- the checks behind those of preparing, each with its number: an entry that runs past the end, in the first capture and then in the second; then a first
-- capture that is not accepted
abbrev pub one_capture : Opening → List ℕ → List Condition
one_capture o c = (RunsPast c ↣ 25) ∷ ((AcceptedCapture o c → ⊥) ↣ 26) ∷ []

abbrev pub two_captures : Opening → List ℕ → List ℕ → List Condition
two_captures o c c' = (RunsPast c ↣ 25) ∷ (RunsPast c' ↣ 25) ∷ ((AcceptedCapture o c → ⊥) ↣ 26) ∷ []

-- each number exactly when its condition holds and none before it
abbrev pub Checks : List Condition → Opening → List ℕ → Answer → Type 0
Checks cs o c x = Answers (answer_number x) (cs ++ one_capture o c)

pub record Compares (cs : List Condition) (o : Opening) (c c' : List ℕ) (x : Compared) : Type 0 where
  pub answers : Answers (answer_number (answer_of x)) (cs ++ two_captures o c c')
  -- alike exactly if no condition holds and both directions join to the same bytes
  pub alike_just : x ≡ Ok true ↔ (None (cs ++ two_captures o c c') × AlikeCaptures c c')

-- for any arguments, with records of sixteen address bytes as their arrays have
abbrev pub Checks5 : Type 0
Checks5 = (a : V5) → Sixteen a.records → (c : List ℕ) → Bytes c → Checks (conditions5 a) (opening5 a) c (check5 a c)

abbrev pub Checks4 : Type 0
Checks4 = (a : V4) (c : List ℕ) → Bytes c → Checks (conditions4 a) (opening4 a) c (check4 a c)

abbrev pub Compares5 : Type 0
Compares5 = (a : V5) → Sixteen a.records → (c c' : List ℕ) → Bytes c → Bytes c' → Compares (conditions5 a) (opening5 a) c c' (compare5 a c c')

abbrev pub Compares4 : Type 0
Compares4 = (a : V4) (c c' : List ℕ) → Bytes c → Bytes c' → Compares (conditions4 a) (opening4 a) c c' (compare4 a c c')
