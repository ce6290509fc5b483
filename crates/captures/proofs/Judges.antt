-- F-10's promise: each number exactly when its condition holds and none before it, and alike exactly when both directions join to the same bytes.
use Prim.Native.Nat.{ℕ, ◌<◌}
use native.Mathlib.Omega.{arith}
use mathlib.Core.Path.{◌≡◌, refl, ap}
use mathlib.Core.Logic.{◌↔◌, ◌⊎◌, inl, inr}
use mathlib.Core.Bool.{Bool, true, false, cond, false≢true}
use Rattle.std.specs.Prelude.{Option, Ok, Err}
use mathlib.Core.List.{List, [], ◌∷◌}
use lib.Dec.{lit<}
use Rattle.protocol.specs.Answers.{Answer, Accepted, Refused}
use Rattle.protocol.specs.declared.SocksError.TheVariants.{CaptureCut, CaptureNotAccepted}
use Rattle.protocol.specs.Bytes.{Bytes}
use Rattle.protocol.specs.Numbers.{number, answer_number}
use Rattle.protocol.specs.Opening.{Condition, ◌↣◌, First, Answers, check5 as prepares5, check4 as prepares4, conditions5, conditions4, None, Opening, opening5, opening4, Limits}
use Rattle.protocol.proofs.Limits.{limits5, limits4, number_is}
use Rattle.protocol.proofs.Openings.{all_passed, checked, check5_just, check4_just}
use Rattle.protocol.proofs.Claims.{none_then, none_both, answers_behind, answers_before}
use Rattle.client_session.specs.Calls.{prepared_for, prepared_by, prepare5, prepare4}
use Rattle.captures_spec.specs.Captures.{received, Entry, Row, RunsPast, AcceptedCapture, AlikeCaptures}
use Rattle.captures_spec.specs.Reading.{row_of, alike}
use Rattle.captures_spec.proofs.Rows.{Reads, is_row, is_past, reads, one_row, never_both}
use Rattle.captures_spec.proofs.Alike.{row_bytes, alike_just}
use Rattle.captures.specs.Walk.{held}
use Rattle.captures.specs.Calls as calls
use Rattle.captures.specs.Calls.{Compared, answer_of, held_by, held_both, compared, check5, check4, compare5, compare4}
use Rattle.captures.specs.Judges.{one_capture, two_captures, Checks, Compares, Checks5, Checks4, Compares5, Compares4}
use Rattle.captures.proofs.Walked.{held_just}

-- the first condition holds
refuses_first : (P : Type 0) (m : ℕ) (cs : List Condition) → 0 < m → P → Answers m ((P ↣ m) ∷ cs)
refuses_first P m cs v p = record { accepts = (λ r. absurd (omega arith), λ r. absurd (r.0 p)); refuses = λ k l. (λ r. inl (p, r), go k) }
  where
    go : (k : ℕ) → (P × (m ≡ k)) ⊎ ((P → ⊥) × First k cs) → m ≡ k
    go k (inl r) = r.1
    go k (inr r) = absurd (r.0 p)

-- it does not
passes_first : (P : Type 0) (x : Answer) (cs : List Condition) → (P → ⊥) → Answers (answer_number x) cs → Answers (answer_number x) ((P ↣ 25) ∷ cs)
passes_first P x cs f a = checked false P CaptureCut 25 x cs refl (lit< tt) (λ q. absurd (false≢true q), λ p. absurd (f p)) a

module _ (o : Opening) (limits : Limits o) where
  -- ---- a capture that is a row is accepted or not

  accepts : (c : List ℕ) (es : List Entry) → Row c es → Bytes c → held (prepared_for o) es ≡ true ↔ AcceptedCapture o c
  accepts c es r y =
      let h = held_just o limits es (row_bytes received r y) in
      (λ q. (es, r, h.0 q), λ (fs, s, a). h.1 (rw (one_row r s) a))

  abbrev last : List ℕ → List Condition
  last c = ((AcceptedCapture o c → ⊥) ↣ 26) ∷ []

  judged : (c : List ℕ) (h : Bool) → h ≡ true ↔ AcceptedCapture o c → Answers (answer_number (cond h Accepted (Refused CaptureNotAccepted))) (last c)
  judged c true (p, q) = checked false (AcceptedCapture o c → ⊥) CaptureNotAccepted 26 Accepted [] refl (lit< tt) (λ e. absurd (false≢true e), λ f. absurd (f (p refl))) all_passed
  judged c false (p, q) = checked true (AcceptedCapture o c → ⊥) CaptureNotAccepted 26 Accepted [] refl (lit< tt) (λ e a. false≢true (q a), λ f. refl) all_passed

  one_answer : (c : List ℕ) (r : Option (List Entry)) → Reads c r → Bytes c → Answers (answer_number (held_by (prepared_for o) r)) (one_capture o c)
  one_answer c _ (is_past p) y = refuses_first (RunsPast c) 25 (last c) (lit< tt) p
  one_answer c _ (is_row {es = es} r) y = passes_first (RunsPast c) (cond (held (prepared_for o) es) Accepted (Refused CaptureNotAccepted)) (last c) (never_both r) (judged c (held (prepared_for o) es) (accepts c es r y))

  two_answer : (c c' : List ℕ) (r r' : Option (List Entry)) → Reads c r → Reads c' r' → Bytes c → Answers (answer_number (answer_of (held_both (prepared_for o) r r'))) (two_captures o c c')
  two_answer c c' _ r' (is_past p) s y = refuses_first (RunsPast c) 25 ((RunsPast c' ↣ 25) ∷ last c) (lit< tt) p
  two_answer c c' _ _ (is_row r) (is_past p) y = passes_first (RunsPast c) (Refused CaptureCut) ((RunsPast c' ↣ 25) ∷ last c) (never_both r) (refuses_first (RunsPast c') 25 (last c) (lit< tt) p)
  two_answer c c' _ _ (is_row {es = es} r) (is_row {es = fs} s) y = go (held (prepared_for o) es) (accepts c es r y)
    where
      go : (h : Bool) → h ≡ true ↔ AcceptedCapture o c → Answers (answer_number (answer_of (cond h (Ok (alike es fs)) (Err CaptureNotAccepted)))) (two_captures o c c')
      go true a = passes_first (RunsPast c) Accepted ((RunsPast c' ↣ 25) ∷ last c) (never_both r) (passes_first (RunsPast c') Accepted (last c) (never_both s) (judged c true a))
      go false a = passes_first (RunsPast c) (Refused CaptureNotAccepted) ((RunsPast c' ↣ 25) ∷ last c) (never_both r) (passes_first (RunsPast c') (Refused CaptureNotAccepted) (last c) (never_both s) (judged c false a))

  -- ---- alike

  two_alike : (c c' : List ℕ) (r r' : Option (List Entry)) → Reads c r → Reads c' r' → Bytes c → held_both (prepared_for o) r r' ≡ Ok true ↔ (None (two_captures o c c') × AlikeCaptures c c')
  two_alike c c' _ r' (is_past p) s y = (λ q. cc, λ (n, a). absurd (n.0 p))
  two_alike c c' _ _ (is_row r) (is_past p) y = (λ q. cc, λ (n, a). absurd (n.1.0 p))
  two_alike c c' _ _ (is_row {es = es} r) (is_row {es = fs} s) y = go (held (prepared_for o) es) (accepts c es r y)
    where
      go : (h : Bool) → h ≡ true ↔ AcceptedCapture o c → ◌≡◌ {A = Compared} (cond h (Ok (alike es fs)) (Err CaptureNotAccepted)) (Ok true) ↔ (None (two_captures o c c') × AlikeCaptures c c')
      go true (p, q) = (
        λ e. let t : alike es fs ≡ true = cc in ((never_both r, (never_both s, (λ f. f (p refl), tt))), (es, fs, r, s, (alike_just es fs).0 t)),
        λ (n, (gs, hs, x, z, a)). ap (λ (b : Bool). let y : Compared = Ok b in y) ((alike_just es fs).1 (rw (one_row r x, one_row s z) a)),
      )
      go false (p, q) = (λ e. cc, λ (n, a). absurd (n.1.1.0 (λ b. false≢true (q b))))

-- ---- behind preparing

checks : (x : Answer) (o : Opening) (cs : List Condition) → Answers (answer_number x) cs → (x ≡ Accepted → Limits o) → (c : List ℕ) → Bytes c → Checks cs o c (calls.checked (prepared_by x o) c)
checks Accepted o cs a l c y = answers_behind _ cs (one_capture o c) a (one_answer o (l refl) c (row_of c) (reads c y) y)
checks (Refused e) o cs a l c y = answers_before (number e) cs (one_capture o c) (number_is e).0 a

compares : (x : Answer) (o : Opening) (cs : List Condition) → Answers (answer_number x) cs → (x ≡ Accepted → Limits o) → (c c' : List ℕ) → Bytes c → Bytes c' → Compares cs o c c' (compared (prepared_by x o) c c')
compares Accepted o cs a l c c' y y' =
    let b = two_alike o (l refl) c c' (row_of c) (row_of c') (reads c y) (reads c' y') y in
    let n = a.accepts.0 refl in
    record {
      answers = answers_behind _ cs (two_captures o c c') a (two_answer o (l refl) c c' (row_of c) (row_of c') (reads c y) (reads c' y') y);
      alike_just = (λ q. let (m, z) = b.0 q in (none_then cs (two_captures o c c') n m, z), λ (m, z). b.1 ((none_both cs (two_captures o c c') m).1, z));
    }
compares (Refused e) o cs a l c c' y y' =
    record {
      answers = answers_before (number e) cs (two_captures o c c') (number_is e).0 a;
      alike_just = (λ q. cc, λ (m, z). let w = (number_is e).0 in let v = a.accepts.1 (none_both cs (two_captures o c c') m).0 in absurd (omega arith));
    }

pub checks5 : Checks5
unfolding check5 prepare5
checks5 a x c y = checks (prepares5 a) (opening5 a) (conditions5 a) (check5_just a) (limits5 a x) c y

pub checks4 : Checks4
unfolding check4 prepare4
checks4 a c y = checks (prepares4 a) (opening4 a) (conditions4 a) (check4_just a) (limits4 a) c y

pub compares5 : Compares5
unfolding compare5 prepare5
compares5 a x c c' y y' = compares (prepares5 a) (opening5 a) (conditions5 a) (check5_just a) (limits5 a x) c c' y y'

pub compares4 : Compares4
unfolding compare4 prepare4
compares4 a c c' y y' = compares (prepares4 a) (opening4 a) (conditions4 a) (check4_just a) (limits4 a) c c' y y'
