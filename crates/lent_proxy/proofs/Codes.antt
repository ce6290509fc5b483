-- A code, and what a stage keeps: the numbers that they are put together of, and back.
use Prim.Native.Nat.{ℕ, zero, suc, ◌+◌, ◌*◌, ◌/◌, ◌%◌, ◌^◌, ◌≤◌, ◌<◌}
use native.Mathlib.Omega.{arith}
use mathlib.Core.Path.{◌≡◌, refl, ap}
use mathlib.Core.Bool.{Bool, true, false, cond, ◌&&◌}
use lib.Dec.{eqb, ltb}
use borrow.Author.Tests.{lt-ltb, ltb-true}
use Rattle.protocol.specs.declared.AddressKind.{AddressKind}
use Rattle.protocol.specs.declared.AddressKind.TheVariants.{Ipv4, Ipv6, Domain}
use Rattle.protocol.specs.declared.Version.TheVariants.{V4, V5}
use Rattle.protocol.specs.Numbers as numbers
use Rattle.protocol.proofs.Bytes.{both_true}
use Rattle.proxy_spec.specs.declared.Field.TheVariants.{First, Methods, User, Password, Head, Address, Request, UserId, Name}
use Rattle.proxy_spec.specs.declared.Ports.{Ports}
use Rattle.proxy_spec.specs.declared.Stage.{Stage}
use Rattle.proxy_spec.specs.declared.Stage.TheVariants.{Awaiting, Asked, Open, Failed}
use Rattle.raw_numbers.specs.Numbers.{bit}
use Rattle.raw_errors.proofs.Back.{error_back}
use Rattle.lent_proxy.specs.State.{limit, stage_at, ports_of, field_of, stage_of, kind_at, authenticates_at, stage_number, kind_number, code_of, ports_number, stage_keeps}
use Rattle.lent_proxy.specs.Fits.{PortsFit, FieldFits, StageFits}

-- ---- how large the numbers are

pub stage_small : (g : Stage) → stage_number g ≤ 14
stage_small (Awaiting First) = omega arith
stage_small (Awaiting Methods) = omega arith
stage_small (Awaiting User) = omega arith
stage_small (Awaiting (Password true)) = omega arith
stage_small (Awaiting (Password false)) = omega arith
stage_small (Awaiting Head) = omega arith
stage_small (Awaiting (Address c t)) = omega arith
stage_small (Awaiting Request) = omega arith
stage_small (Awaiting (UserId p)) = omega arith
stage_small (Awaiting (Name p)) = omega arith
stage_small (Asked V4) = omega arith
stage_small (Asked V5) = omega arith
stage_small (Open V4) = omega arith
stage_small (Open V5) = omega arith
stage_small (Failed e) = omega arith

pub kind_small : (k : AddressKind) → kind_number k ≤ 2
kind_small Ipv4 = omega arith
kind_small Ipv6 = omega arith
kind_small Domain = omega arith

pub bit_small : (b : Bool) → bit b ≤ 1
bit_small true = omega arith
bit_small false = omega arith

-- ---- a code's parts

bit_back : (b : Bool) (n : ℕ) → n ≡ bit b → eqb n 1 ≡ b
bit_back true n q = rw q
bit_back false n q = rw q

bit_of : (n : ℕ) → n < 2 → bit (eqb n 1) ≡ n
bit_of zero h = refl
bit_of (suc zero) h = refl
bit_of (suc (suc n)) h = absurd (omega arith)

abbrev kind_by : ℕ → AddressKind
kind_by n = cond (eqb n 1) Ipv6 (cond (eqb n 2) Domain Ipv4)

kind_by_lem : (k : AddressKind) (n : ℕ) → n ≡ kind_number k → kind_by n ≡ k
kind_by_lem Ipv4 n q = rw q
kind_by_lem Ipv6 n q = rw q
kind_by_lem Domain n q = rw q

kind_of : (n : ℕ) → n < 3 → kind_number (kind_by n) ≡ n
kind_of zero h = refl
kind_of (suc zero) h = refl
kind_of (suc (suc zero)) h = refl
kind_of (suc (suc (suc n))) h = absurd (omega arith)

module _ (g : Stage) (b : Bool) (k : AddressKind) where
  abbrev whole : ℕ
  whole = code_of g b k

  pub code_small : whole < 96
  code_small = omega (arith, stage_small g, bit_small b, kind_small k)

  pub code_stage : whole % 16 ≡ stage_number g
  code_stage = omega (arith, stage_small g, bit_small b, kind_small k)

  pub authenticates_back : authenticates_at whole ≡ b
  unfolding authenticates_at
  authenticates_back =
      let q : whole / 16 % 2 ≡ bit b = omega (arith, stage_small g, bit_small b, kind_small k) in
      bit_back b (whole / 16 % 2) q

  pub kind_back : kind_at whole ≡ k
  unfolding kind_at
  kind_back =
      let q : whole / 32 ≡ kind_number k = omega (arith, stage_small g, bit_small b, kind_small k) in
      kind_by_lem k (whole / 32) q

-- a code below 96 is put together of its parts
pub code_whole : (code : ℕ) (g : Stage) → code < 96 → stage_number g ≡ code % 16 → code_of g (authenticates_at code) (kind_at code) ≡ code
unfolding authenticates_at kind_at
code_whole code g h q =
    let a = bit_of (code / 16 % 2) (omega arith) in
    let k = kind_of (code / 32) (omega arith) in
    omega arith

-- ---- what a stage keeps, and back

pub address_command : (c t : ℕ) → c < 256 → (c + 256 * t) % 256 ≡ c
address_command c t h = omega arith

pub address_type : (c t : ℕ) → c < 256 → t < 256 → (c + 256 * t) / 256 % 256 ≡ t
address_type c t h i = omega arith

ports_back : (p : Ports) → PortsFit p → ports_of (ports_number p) ≡ p
ports_back p f =
    let a = f.command in
    let b = f.port in
    let u = f.first in
    let v = f.second in
    let w = f.third in
    let z = f.fourth in
    let m₄ : ℕ = p.third + 256 * p.fourth in
    let m₃ : ℕ = p.second + 256 * m₄ in
    let m₂ : ℕ = p.first + 256 * m₃ in
    let m₁ : ℕ = p.port + 65536 * m₂ in
    let d₁ : (p.command + 256 * m₁) / 256 ≡ m₁ = omega arith in
    let d₂ : m₁ / 65536 ≡ m₂ = omega arith in
    let d₃ : m₂ / 256 ≡ m₃ = omega arith in
    let d₄ : m₃ / 256 ≡ m₄ = omega arith in
    let d₅ : m₄ / 256 ≡ p.fourth = omega arith in
    let e₀ : (p.command + 256 * m₁) % 256 ≡ p.command = omega arith in
    let e₁ : m₁ % 65536 ≡ p.port = omega arith in
    let e₂ : m₂ % 256 ≡ p.first = omega arith in
    let e₃ : m₃ % 256 ≡ p.second = omega arith in
    let e₄ : m₄ % 256 ≡ p.third = omega arith in
    let e₅ : p.fourth % 256 ≡ p.fourth = omega arith in
    rw (d₁, d₂, d₃, d₄, d₅, e₀, e₁, e₂, e₃, e₄, e₅)

ports_small : (p : Ports) → PortsFit p → ports_number p < 72057594037927936
ports_small p f =
    let a = f.command in
    let b = f.port in
    let u = f.first in
    let v = f.second in
    let w = f.third in
    let z = f.fourth in
    omega arith

ports_whole : (m : ℕ) → m < 72057594037927936 → ports_number (ports_of m) ≡ m
ports_whole m h =
    let m₁ : ℕ = m / 256 in
    let m₂ : ℕ = m₁ / 65536 in
    let m₃ : ℕ = m₂ / 256 in
    let m₄ : ℕ = m₃ / 256 in
    let m₅ : ℕ = m₄ / 256 in
    let h₁ : m₁ < 281474976710656 = omega arith in
    let h₂ : m₂ < 4294967296 = omega arith in
    let h₃ : m₃ < 16777216 = omega arith in
    let h₄ : m₄ < 65536 = omega arith in
    let h₅ : m₅ % 256 ≡ m₅ = omega arith in
    let d₄ : m₄ % 256 + 256 * m₅ ≡ m₄ = omega arith in
    let d₃ : m₃ % 256 + 256 * m₄ ≡ m₃ = omega arith in
    let d₂ : m₂ % 256 + 256 * m₃ ≡ m₂ = omega arith in
    let d₁ : m₁ % 65536 + 65536 * m₂ ≡ m₁ = omega arith in
    let d₀ : m % 256 + 256 * m₁ ≡ m = omega arith in
    rw (h₅, d₄, d₃, d₂, d₁, d₀)

pub keeps_small : (g : Stage) → StageFits g → stage_keeps g < 256 ^ 8
keeps_small (Awaiting First) f = omega arith
keeps_small (Awaiting Methods) f = omega arith
keeps_small (Awaiting User) f = omega arith
keeps_small (Awaiting (Password right)) f = omega arith
keeps_small (Awaiting Head) f = omega arith
keeps_small (Awaiting (Address c t)) (i, j) = omega arith
keeps_small (Awaiting Request) f = omega arith
keeps_small (Awaiting (UserId p)) f = let h = ports_small p f in omega arith
keeps_small (Awaiting (Name p)) f = let h = ports_small p f in omega arith
keeps_small (Asked v) f = omega arith
keeps_small (Open v) f = omega arith
keeps_small (Failed e) (i, j) = omega arith

-- a stage from 1 to 14 that keeps no more than it may is the one that its number and what it keeps mean
pub record Means (n m : ℕ) : Type 0 where
  pub number : stage_number (stage_of n m) ≡ n
  pub keeps : stage_keeps (stage_of n m) ≡ m

nothing : (m : ℕ) → m < 1 → 0 ≡ m
nothing m h = omega arith

pub means : (n m : ℕ) → m < limit n → n < 16 → Means n m
unfolding limit stage_of field_of
means zero m h l = absurd (omega arith)
means (suc zero) m h l = record { number = refl; keeps = nothing m h }
means (suc (suc zero)) m h l = record { number = refl; keeps = nothing m h }
means (suc (suc (suc zero))) m h l = record { number = refl; keeps = nothing m h }
means (suc (suc (suc (suc zero)))) m h l = record { number = refl; keeps = nothing m h }
means (suc (suc (suc (suc (suc zero))))) m h l = record { number = refl; keeps = nothing m h }
means (suc (suc (suc (suc (suc (suc zero)))))) m h l = record { number = refl; keeps = nothing m h }
means (suc (suc (suc (suc (suc (suc (suc zero))))))) m h l = record { number = refl; keeps = omega arith }
means (suc (suc (suc (suc (suc (suc (suc (suc zero)))))))) m h l = record { number = refl; keeps = nothing m h }
means (suc (suc (suc (suc (suc (suc (suc (suc (suc zero))))))))) m h l = record { number = refl; keeps = ports_whole m h }
means (suc (suc (suc (suc (suc (suc (suc (suc (suc (suc zero)))))))))) m h l = record { number = refl; keeps = ports_whole m h }
means (suc (suc (suc (suc (suc (suc (suc (suc (suc (suc (suc zero))))))))))) m h l = record { number = refl; keeps = nothing m h }
means (suc (suc (suc (suc (suc (suc (suc (suc (suc (suc (suc (suc zero)))))))))))) m h l = record { number = refl; keeps = nothing m h }
means (suc (suc (suc (suc (suc (suc (suc (suc (suc (suc (suc (suc (suc zero))))))))))))) m h l = record { number = refl; keeps = nothing m h }
means (suc (suc (suc (suc (suc (suc (suc (suc (suc (suc (suc (suc (suc (suc zero)))))))))))))) m h l = record { number = refl; keeps = nothing m h }
means (suc (suc (suc (suc (suc (suc (suc (suc (suc (suc (suc (suc (suc (suc (suc zero))))))))))))))) m h l = absurd (omega arith)
means (suc (suc (suc (suc (suc (suc (suc (suc (suc (suc (suc (suc (suc (suc (suc (suc n)))))))))))))))) m h l = absurd (omega arith)

-- what a number keeps fits a field
ports_fit : (m : ℕ) → PortsFit (ports_of m)
ports_fit m = record { command = omega arith; port = omega arith; first = omega arith; second = omega arith; third = omega arith; fourth = omega arith }

pub field_fits : (n m : ℕ) → n ≤ 10 → FieldFits (field_of n m)
unfolding field_of
field_fits zero m h = ports_fit m
field_fits (suc zero) m h = tt
field_fits (suc (suc zero)) m h = tt
field_fits (suc (suc (suc zero))) m h = tt
field_fits (suc (suc (suc (suc zero)))) m h = tt
field_fits (suc (suc (suc (suc (suc zero))))) m h = tt
field_fits (suc (suc (suc (suc (suc (suc zero)))))) m h = tt
field_fits (suc (suc (suc (suc (suc (suc (suc zero))))))) m h = (omega arith, omega arith)
field_fits (suc (suc (suc (suc (suc (suc (suc (suc zero)))))))) m h = tt
field_fits (suc (suc (suc (suc (suc (suc (suc (suc (suc zero))))))))) m h = ports_fit m
field_fits (suc (suc (suc (suc (suc (suc (suc (suc (suc (suc zero)))))))))) m h = ports_fit m
field_fits (suc (suc (suc (suc (suc (suc (suc (suc (suc (suc (suc n))))))))))) m h = absurd (omega arith)

-- ---- a stage is read back

either : (b : Bool) → ◌≡◌ {A = ℕ} (cond b 0 0) 0
either true = refl
either false = refl

reads_back : (g : Stage) (code : ℕ) → code < 96 → code % 16 ≡ stage_number g → stage_keeps g < limit (stage_number g) → stage_at code (stage_keeps g) ≡ stage_number g
unfolding stage_at
reads_back g code h q l = rw (q, lt-ltb code 96 h, lt-ltb (stage_keeps g) (limit (stage_number g)) l)

failed_at : (code m : ℕ) → code % 16 ≡ 0 → stage_at code m ≡ 0
unfolding stage_at
failed_at code m q = rw q (either (ltb code 96 && ltb m (limit 0)))

module _ (code : ℕ) (h : code < 96) where
  pub stage_back : (g : Stage) → code % 16 ≡ stage_number g → StageFits g → stage_of (stage_at code (stage_keeps g)) (stage_keeps g) ≡ g
  unfolding stage_of field_of limit
  stage_back (Awaiting First) q f = rw (reads_back (Awaiting First) code h q (omega arith))
  stage_back (Awaiting Methods) q f = rw (reads_back (Awaiting Methods) code h q (omega arith))
  stage_back (Awaiting User) q f = rw (reads_back (Awaiting User) code h q (omega arith))
  stage_back (Awaiting (Password true)) q f = rw (reads_back (Awaiting (Password true)) code h q (omega arith))
  stage_back (Awaiting (Password false)) q f = rw (reads_back (Awaiting (Password false)) code h q (omega arith))
  stage_back (Awaiting Head) q f = rw (reads_back (Awaiting Head) code h q (omega arith))
  stage_back (Awaiting (Address c t)) q (i, j) = rw (reads_back (Awaiting (Address c t)) code h q (omega arith), address_command c t i, address_type c t i j)
  stage_back (Awaiting Request) q f = rw (reads_back (Awaiting Request) code h q (omega arith))
  stage_back (Awaiting (UserId p)) q f = rw (reads_back (Awaiting (UserId p)) code h q (ports_small p f)) (ap (λ (r : Ports). Awaiting (UserId r)) (ports_back p f))
  stage_back (Awaiting (Name p)) q f = rw (reads_back (Awaiting (Name p)) code h q (ports_small p f)) (ap (λ (r : Ports). Awaiting (Name r)) (ports_back p f))
  stage_back (Asked V4) q f = rw (reads_back (Asked V4) code h q (omega arith))
  stage_back (Asked V5) q f = rw (reads_back (Asked V5) code h q (omega arith))
  stage_back (Open V4) q f = rw (reads_back (Open V4) code h q (omega arith))
  stage_back (Open V5) q f = rw (reads_back (Open V5) code h q (omega arith))
  stage_back (Failed e) q (i, j) =
      let z : stage_at code (stage_keeps (Failed e)) ≡ 0 = failed_at code (stage_keeps (Failed e)) q in
      rw (z, address_command (numbers.number e) (numbers.status e) i, address_type (numbers.number e) (numbers.status e) i j) (ap Failed (error_back e))

-- ---- a code that is at a stage

pub record AtStage (code m n : ℕ) : Type 0 where
  pub small : code < 96
  pub stage : n ≡ code % 16
  pub keeps : m < limit n

pub at_stage_lem : (code m : ℕ) {n : ℕ} → n ≡ stage_at code m → (n ≡ 0 → ⊥) → AtStage code m n
unfolding stage_at
at_stage_lem code m {n} q z = go (ltb code 96 && ltb m (limit (code % 16))) refl q
  where
    go : (b : Bool) → (ltb code 96 && ltb m (limit (code % 16))) ≡ b → n ≡ cond b (code % 16) 0 → AtStage code m n
    go true e w =
        let (x, y) = both_true (ltb code 96) (ltb m (limit (code % 16))) e in
        record { small = ltb-true code 96 x; stage = w; keeps = rw w (ltb-true m (limit (code % 16)) y) }
    go false e w = absurd (z w)
