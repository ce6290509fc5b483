-- F-9: the digits of a port: what a digit more comes to, and the two ends.
use Prim.Native.Nat.{ℕ, suc, ◌+◌, ◌*◌, ◌≤◌, ◌<◌}
use native.Mathlib.Omega.{arith}
use mathlib.Core.Path.{◌≡◌, refl, sym, ◌∙◌}
use mathlib.Core.Bool.{Bool, true, false, cond, false≢true}
use mathlib.Core.List.{List, [], ◌∷◌}
use lib.ListN.{length, drop}
use lib.Dec.{ltb, eqb}
use borrow.Author.Tests.{ltb-true, eqb-true, eq-eqb, ne_eqb}
use Rattle.protocol.specs.declared.Digits.{Digits}
use Rattle.protocol.specs.Bytes.{byte}
use Rattle.protocol.specs.AddressReading.{hex_value, digits_from}
use Rattle.address_text.proofs.digits.Runs.{digits_step}
use Rattle.proxy_url_spec.specs.Reading.{itself, reads, dies, port_goes, port_by, port_of}
use Rattle.std.specs.Prelude.{Result, Ok, Err}
use Rattle.proxy_url.specs.Coded.{ending}
use Rattle.proxy_url.proofs.Inside.{Bounded, Inside, bounded_cond}

-- a digit that may follow keeps the value within 65535
pub goes_fits : (v n d : ℕ) → port_goes v n d ≡ true → (d < 10) × (v * 10 + d ≤ 65535)
unfolding port_goes
goes_fits v n d q = go (ltb d 10) refl (eqb v 0) refl q
  where
    go : (a : Bool) → ltb d 10 ≡ a → (b : Bool) → eqb v 0 ≡ b → cond a (cond b (eqb n 0) (ltb (v * 10 + d) 65536)) false ≡ true → (d < 10) × (v * 10 + d ≤ 65535)
    go false e b f q = absurd (false≢true q)
    go true e true f q = let h = ltb-true d 10 e in let z = eqb-true v 0 f in (h, omega arith)
    go true e false f q = let h = ltb-true d 10 e in let k = ltb-true (v * 10 + d) 65536 q in (h, omega arith)

-- the digits from a place on, where the byte there is a digit that may follow or not
module _ (s : List ℕ) (v n : ℕ) (inside : n < length s) (whole : digits_from port_goes 10 v n (drop n s) ≡ digits_from port_goes 10 0 0 s) {d : ℕ} (e : d ≡ hex_value (byte s n)) where
  pub digit_goes : port_goes v n d ≡ true → digits_from port_goes 10 (v * 10 + d) (n + 1) (drop (n + 1) s) ≡ digits_from port_goes 10 0 0 s
  digit_goes q = rw (← e, q) at (sym (digits_step port_goes 10 v n s inside)) ∙ whole

  pub digit_stops : port_goes v n d ≡ false → record { count = n; value = v } ≡ digits_from port_goes 10 0 0 s
  digit_stops q = rw (← e, q) at (sym (digits_step port_goes 10 v n s inside)) ∙ whole

module _ (s : List ℕ) {r : Digits} (whole : r ≡ digits_from port_goes 10 0 0 s) where
  pub port_stops : r.count < length s → ◌≡◌ {A = Result ℕ ℕ} (Err r.count) (ending itself (port_of s))
  unfolding port_of
  port_stops h = rw (← whole, ne_eqb r.count (length s) (λ e. omega arith))

  pub port_ends : r.count ≡ length s → (length s ≡ 0 → ⊥) → ◌≡◌ {A = Result ℕ ℕ} (Ok r.value) (ending itself (port_of s))
  unfolding port_of
  port_ends e f = rw (← whole, eq-eqb r.count (length s) e, ne_eqb r.count 0 (λ z. f (sym e ∙ z)))

pub port_none : (s : List ℕ) → length s ≡ 0 → ◌≡◌ {A = Result ℕ ℕ} (Err 0) (ending itself (port_of s))
unfolding port_of digits_from
port_none [] e = refl
port_none (b ∷ s) e = absurd (omega arith)

-- no digit stands past the text's end
count_inside : (v n : ℕ) (s : List ℕ) → (digits_from port_goes 10 v n s).count ≤ n + length s
unfolding digits_from
count_inside v n [] = omega arith
count_inside v n (b ∷ s) = go (port_goes v n (hex_value b)) (count_inside (v * 10 + hex_value b) (n + 1) s)
  where
    go : (t : Bool) → (digits_from port_goes 10 (v * 10 + hex_value b) (n + 1) s).count ≤ n + 1 + length s
        → (cond t (digits_from port_goes 10 (v * 10 + hex_value b) (n + 1) s) (record { count = n; value = v })).count ≤ n + suc (length s)
    go true h = omega arith
    go false h = omega arith

pub inside_port : Inside (λ u. 0) port_of
unfolding port_of
inside_port s = let h = count_inside 0 0 s in go (digits_from port_goes 10 0 0 s) (omega arith)
  where
    go : (r : Digits) → r.count ≤ length s → Bounded (λ u. 0) (port_by r (length s)) (length s)
    go r h =
        bounded_cond (λ u. 0) (eqb r.count (length s)) (cond (eqb r.count 0) (dies 0) (reads r.value r.count)) (dies r.count) (length s)
        (λ q. bounded_cond (λ u. 0) (eqb r.count 0) (dies 0) (reads r.value r.count) (length s) (λ z. omega arith) (omega arith, h)) h
