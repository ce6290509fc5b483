-- F-9: what was read, by a result as code has it.
use Prim.Native.Nat.{ℕ}
use native.Mathlib.Omega.{arith}
use mathlib.Core.Path.{◌≡◌, refl, sym, ap}
use Rattle.std.specs.Prelude.{Ok, Err}
use Rattle.proxy_url_spec.specs.Reading.{Read, reads, dies, mapped}
use Rattle.proxy_url_spec.proofs.Readers.{reads_not_dies, reads_value, reads_place}
use Rattle.proxy_url.specs.Coded.{ending}

module _ {A B : Type 0} (f : A → B) where
  pub mapped_reads : (x : Read A) {u : B} {n : ℕ} → ◌≡◌ {A = Read B} (mapped f x) (reads u n) → (v : A) × (x ≡ reads v n) × (f v ≡ u)
  mapped_reads (reads v m) e = (v, ap (reads v) (reads_place e), reads_value e)
  mapped_reads (dies m) e = absurd (reads_not_dies (sym e))

  pub mapped_dies : (x : Read A) {n : ℕ} → ◌≡◌ {A = Read B} (mapped f x) (dies n) → x ≡ dies n
  mapped_dies (reads v m) e = absurd (reads_not_dies e)
  mapped_dies (dies m) e = ap dies cc

  pub ending_reads : (x : Read A) {u : B} → ending f x ≡ Ok u → (v : A) × (n : ℕ) × (x ≡ reads v n) × (f v ≡ u)
  ending_reads (reads v m) e = (v, m, refl, cc)
  ending_reads (dies m) e = let z : ◌≡◌ {A = ℕ} 0 1 = cc in absurd (omega arith)

  pub ending_dies : (x : Read A) {n : ℕ} → ending f x ≡ Err n → x ≡ dies n
  ending_dies (reads v m) e = let z : ◌≡◌ {A = ℕ} 0 1 = cc in absurd (omega arith)
  ending_dies (dies m) e = ap dies cc
