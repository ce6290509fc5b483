-- F-9: a port is read as the grammar has it, up to the text's end.
use Prim.Native.Nat.{ℕ, ◌+◌, ◌*◌, ◌≤◌, ◌<◌}
use native.Mathlib.Omega.{arith}
use mathlib.Core.Path.{◌≡◌, refl, sym, ap, ◌∙◌}
use mathlib.Core.Bool.{Bool, true, false, cond, false≢true}
use mathlib.Core.List.{List, [], ◌∷◌, ◌++◌, append_assoc, append-nil}
use lib.Dec.{ltb, eqb}
use lib.ListN.{length, length-append}
use borrow.Author.Tests.{ltb-true, eqb-true, eqb-false, lt-ltb, eq-eqb, ne_eqb}
use Rattle.protocol.specs.declared.Digits.{Digits}
use Rattle.protocol.specs.AddressText.{digit}
use Rattle.protocol.specs.AddressReading.{hex_value, digits_from}
use Rattle.protocol.proofs.AddressDigits.{hex_value_lem, value_hex, decimal_of, positive, digits_on, Took, taken, ended}
use Rattle.proxy_url_spec.specs.Grammar.{Port, one, more}
use Rattle.proxy_url_spec.specs.Reading.{reads, dies, port_goes, port_by, port_of}
use Rattle.proxy_url_spec.proofs.Readers.{Nothing, Found, Alive, Law, reads_not_dies, reads_value, reads_place}

-- ---- which digits may follow

record Goes (v n d : ℕ) : Type 0 where
  pub small : d ≤ 9
  pub fits : v * 10 + d ≤ 65535
  pub fresh : v ≡ 0 → n ≡ 0

goes_is : (v n d : ℕ) → port_goes v n d ≡ true → Goes v n d
unfolding port_goes
goes_is v n d e = go (ltb d 10) refl (eqb v 0) refl e
  where
    go : (t : Bool) → ltb d 10 ≡ t → (u : Bool) → eqb v 0 ≡ u → cond t (cond u (eqb n 0) (ltb (v * 10 + d) 65536)) false ≡ true → Goes v n d
    go true l true z g = let h = ltb-true d 10 l in let y = eqb-true v 0 z in record { small = omega arith; fits = omega arith; fresh = λ _. eqb-true n 0 g }
    go true l false z g =
        let h = ltb-true d 10 l in
        let f = ltb-true (v * 10 + d) 65536 g in
        record { small = omega arith; fits = omega arith; fresh = λ y. absurd (eqb-false v 0 z y) }
    go false l u z g = absurd (false≢true g)

goes_first : (d : ℕ) → d ≤ 9 → port_goes 0 0 d ≡ true
unfolding port_goes
goes_first d h = rw (lt-ltb d 10 (omega arith))

goes_later : (v n d : ℕ) → 1 ≤ v → d ≤ 9 → v * 10 + d ≤ 65535 → port_goes v n d ≡ true
unfolding port_goes
goes_later v n d l h m = rw (lt-ltb d 10 (omega arith), ne_eqb v 0 (λ e. absurd (omega arith)), lt-ltb (v * 10 + d) 65536 (omega arith))

-- ---- the digits taken are of the grammar

port_long : {p : List ℕ} {v : ℕ} → Port p v → 1 ≤ length p
port_long (one x) = omega arith
port_long (more {p} {v} {a} n l x m) = rw (length-append p (a ∷ [])) (omega arith)

port_first : (b : ℕ) → port_goes 0 0 (hex_value b) ≡ true → Port (b ∷ []) (0 * 10 + hex_value b)
port_first b e =
    let h = (goes_is 0 0 (hex_value b) e).small in
    let z : 0 * 10 + hex_value b ≡ hex_value b = omega arith in
    rw z (one (decimal_of (value_hex b (omega arith)) h))

port_next : (p : List ℕ) (v b : ℕ) → Port p v → port_goes v (length p) (hex_value b) ≡ true → Port (p ++ (b ∷ [])) (v * 10 + hex_value b)
port_next p v b n e =
    let g = goes_is v (length p) (hex_value b) e in
    let h = g.small in
    let l = port_long n in
    more n (positive v (λ z. absurd (let f = g.fresh z in omega arith))) (decimal_of (value_hex b (omega arith)) h) g.fits

abbrev digits : List ℕ → Digits
digits s = digits_from port_goes 10 0 0 s

port_taken : (s : List ℕ) → ((digits s).count ≡ 0 → ⊥) → Took Port [] s (digits s)
port_taken s h = taken port_goes 10 Port port_first port_next s h

-- ---- the grammar's digits are taken

port_runs : {p : List ℕ} {v : ℕ} → Port p v → (s : List ℕ) → digits (p ++ s) ≡ digits_from port_goes 10 v (length p) s
port_runs (one {a} {d} x) s = let e : 0 * 10 + d ≡ d = omega arith in rw e at (digits_on port_goes 10 0 0 a s (hex_value_lem (digit x)) (goes_first d x.small))
port_runs (more {p} {v} {a} {d} n l x m) s =
    rw (append_assoc p (a ∷ []) s, length-append p (a ∷ []))
    (port_runs n (a ∷ s) ∙ digits_on port_goes 10 v (length p) a s (hex_value_lem (digit x)) (goes_later v (length p) d l x.small m))

port_reads : {p : List ℕ} {v : ℕ} → Port p v → digits (p ++ []) ≡ record { count = length p; value = v }
unfolding digits_from
port_reads n = port_runs n []

-- ---- digits that stop within a beginning stop there whatever follows

digits_from_lem : (v n : ℕ) (s : List ℕ) → n ≤ (digits_from port_goes 10 v n s).count
unfolding digits_from
digits_from_lem v n [] = omega arith
digits_from_lem v n (b ∷ s) = go (port_goes v n (hex_value b)) (digits_from_lem (v * 10 + hex_value b) (n + 1) s)
  where
    go : (x : Bool) → n + 1 ≤ (digits_from port_goes 10 (v * 10 + hex_value b) (n + 1) s).count
        → n ≤ (cond x (digits_from port_goes 10 (v * 10 + hex_value b) (n + 1) s) (record { count = n; value = v })).count
    go true h = omega arith
    go false h = omega arith

digits_causal : (v n : ℕ) (p r t : List ℕ) → (digits_from port_goes 10 v n (p ++ r)).count < n + length p → digits_from port_goes 10 v n (p ++ t) ≡ digits_from port_goes 10 v n (p ++ r)
unfolding digits_from
digits_causal v n [] r t h = let g = digits_from_lem v n r in absurd (omega arith)
digits_causal v n (b ∷ p) r t h = go (port_goes v n (hex_value b)) h (digits_causal (v * 10 + hex_value b) (n + 1) p r t)
  where
    go : (x : Bool)
        → (cond x (digits_from port_goes 10 (v * 10 + hex_value b) (n + 1) (p ++ r)) (record { count = n; value = v })).count < n + length (b ∷ p)
        → ((digits_from port_goes 10 (v * 10 + hex_value b) (n + 1) (p ++ r)).count < n + 1 + length p
        → digits_from port_goes 10 (v * 10 + hex_value b) (n + 1) (p ++ t) ≡ digits_from port_goes 10 (v * 10 + hex_value b) (n + 1) (p ++ r))
        → cond x (digits_from port_goes 10 (v * 10 + hex_value b) (n + 1) (p ++ t)) (record { count = n; value = v })
        ≡ cond x (digits_from port_goes 10 (v * 10 + hex_value b) (n + 1) (p ++ r)) (record { count = n; value = v })
    go true g f = f (omega arith)
    go false g f = refl

-- ---- the field

port_sound : (s : List ℕ) (v n : ℕ) (r : Digits) → digits s ≡ r → port_by r (length s) ≡ reads v n → Found Nothing Port s v n
port_sound s v n r q e = go (eqb r.count (length s)) refl (eqb r.count 0) refl e
  where
    go : (x : Bool) → eqb r.count (length s) ≡ x → (y : Bool) → eqb r.count 0 ≡ y
        → cond x (cond y (dies 0) (reads r.value r.count)) (dies r.count) ≡ reads v n → Found Nothing Port s v n
    go true c true z e = absurd (reads_not_dies (sym e))
    go true c false z e =
        let h = eqb-true r.count (length s) c in
        let ev : r.value ≡ v = reads_value e in
        let en : n ≡ length s = sym (reads_place e) ∙ h in
        let f : ((digits s).count ≡ 0 → ⊥) = rw q (eqb-false r.count 0 z) in
        let w : Port s r.value = ended Port s r (rw q at (port_taken s f)) h in
        record { w = s; t = []; split = sym (append-nil s); long = en; word = rw ev at w; ok = refl }
    go false c y z e = absurd (reads_not_dies (sym e))

-- where it dies is where the digits stop
dies_is : (r : Digits) (k n : ℕ) → port_by r k ≡ dies n → r.count ≡ n
dies_is r k n e = go (eqb r.count k) refl (eqb r.count 0) refl e
  where
    go : (x : Bool) → eqb r.count k ≡ x → (y : Bool) → eqb r.count 0 ≡ y
        → cond x (cond y (dies 0) (reads r.value r.count)) (dies r.count) ≡ dies n → r.count ≡ n
    go true c true z e = let h = eqb-true r.count 0 z in cc
    go true c false z e = absurd (reads_not_dies e)
    go false c y z e = cc

port_alive : (s : List ℕ) (n : ℕ) → (digits s).count ≡ n → Alive Port s n
port_alive s n e = go (eqb (digits s).count 0) refl
  where
    go : (y : Bool) → eqb (digits s).count 0 ≡ y → Alive Port s n
    go true z =
        record {
          p = [];
          r = s;
          split = refl;
          long = sym (eqb-true (digits s).count 0 z) ∙ e;
          t = 0x30 ∷ [];
          v = 0;
          word = one {a = 0x30} {d = 0} (record { small = omega arith; is = refl });
        }
    go false z =
        let x = port_taken s (eqb-false (digits s).count 0 z) in
        record { p = x.q; r = x.rest; split = x.split; long = sym x.count ∙ e; t = []; v = (digits s).value; word = rw (append-nil x.q) x.made }

port_stops : (r : Digits) (k : ℕ) → r.count < k → port_by r k ≡ dies r.count
port_stops r k h = rw (ne_eqb r.count k (λ e. absurd (omega arith)))

port_causal : (p r t : List ℕ) (n : ℕ) → (digits (p ++ r)).count ≡ n → n < length p → port_by (digits (p ++ t)) (length (p ++ t)) ≡ dies n
port_causal p r t n e h =
    let f = digits_causal 0 0 p r t (omega arith) in
    let l = length-append p t in
    rw f (port_stops (digits (p ++ r)) (length (p ++ t)) (omega arith) ∙ ap dies e)

port_complete : {w : List ℕ} {v : ℕ} → Port w v → port_by (digits (w ++ [])) (length (w ++ [])) ≡ reads v (length w)
port_complete {w} {v} x =
    let l = port_long x in
    rw (port_reads x, append-nil w, eq-eqb (length w) (length w) refl, ne_eqb (length w) 0 (λ e. absurd (omega arith)))

pub law_port : Law Nothing Port port_of
unfolding port_of
law_port =
    record {
      sound = λ s v n e. port_sound s v n (digits s) refl e;
      complete = λ w t v x o. rw o (port_complete x);
      alive = λ s n e. port_alive s n (dies_is (digits s) (length s) n e);
      causal = λ p r t n e h. port_causal p r t n (dies_is (digits (p ++ r)) (length (p ++ r)) n e) h;
    }
