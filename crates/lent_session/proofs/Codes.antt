-- A code: the numbers that it is put together of, and back.
use Rattle.std.proofs.Common.{◌≡◌, ℕ, zero, suc, ◌+◌, ◌*◌, ◌/◌, ◌%◌, ◌<◌, ◌≤◌, Bool, true, false, cond, ◌&&◌, eqb, ltb, sym, refl, ap, ◌∙◌, arith, ltb-true, le-ltb, lt-ltb, eqb-true}
use Rattle.protocol.specs.declared.AddressKind.{AddressKind}
use Rattle.protocol.specs.declared.AddressKind.TheVariants.{Ipv4, Ipv6, Domain}
use Rattle.protocol.specs.declared.AuthMethod.TheVariants.{NoAuth, UserPass, NoneAcceptable}
use Rattle.protocol.specs.declared.Reply.{Reply}
use Rattle.protocol.specs.declared.Reply.TheVariants.{NegotiationRes, AuthenticationRes, ProxyRes, Response}
use Rattle.protocol.proofs.Bytes.{both_true}
use Rattle.client_stages.specs.declared.due.Stage.{Stage}
use Rattle.client_stages.specs.declared.due.Stage.TheVariants.{Awaiting, Open, Failed}
use Rattle.raw_numbers.specs.Numbers.{bit}
use Rattle.raw_errors.specs.Errors.{error_of}
use Rattle.raw_errors.proofs.Back.{error_back}
use Rattle.lent_session.specs.State.{stage_of, stage_at, kind_at, reply_number, stage_number, kind_number, code_of, error_number, status_number}
use Rattle.lent_session.specs.Fits.{awaited_number}

-- ---- how large the numbers are

pub reply_some : (e : Reply) → 1 ≤ reply_number e
reply_some (NegotiationRes NoAuth) = omega arith
reply_some (NegotiationRes UserPass) = omega arith
reply_some (NegotiationRes NoneAcceptable) = omega arith
reply_some AuthenticationRes = omega arith
reply_some ProxyRes = omega arith
reply_some Response = omega arith

pub reply_small : (e : Reply) → reply_number e ≤ 6
reply_small (NegotiationRes NoAuth) = omega arith
reply_small (NegotiationRes UserPass) = omega arith
reply_small (NegotiationRes NoneAcceptable) = omega arith
reply_small AuthenticationRes = omega arith
reply_small ProxyRes = omega arith
reply_small Response = omega arith

pub stage_small : (g : Stage) → stage_number g ≤ 7
stage_small (Awaiting e) = omega (arith, reply_small e)
stage_small Open = omega arith
stage_small (Failed x) = omega arith

pub kind_small : (k : AddressKind) → kind_number k ≤ 2
kind_small Ipv4 = omega arith
kind_small Ipv6 = omega arith
kind_small Domain = omega arith

pub bit_small : (b : Bool) → bit b ≤ 1
bit_small true = omega arith
bit_small false = omega arith

-- ---- numbers, and what they mean

pub bit_back : (b : Bool) (n : ℕ) → n ≡ bit b → eqb n 1 ≡ b
bit_back true n q = rw q
bit_back false n q = rw q

pub bit_of : (n : ℕ) → n < 2 → bit (eqb n 1) ≡ n
bit_of zero h = refl
bit_of (suc zero) h = refl
bit_of (suc (suc n)) h = absurd (omega arith)

abbrev kind_by : ℕ → AddressKind
kind_by n = cond (eqb n 1) Ipv6 (cond (eqb n 2) Domain Ipv4)

pub kind_back : (k : AddressKind) (n : ℕ) → n ≡ kind_number k → kind_by n ≡ k
kind_back Ipv4 n q = rw q
kind_back Ipv6 n q = rw q
kind_back Domain n q = rw q

pub kind_of : (n : ℕ) → n < 3 → kind_number (kind_by n) ≡ n
kind_of zero h = refl
kind_of (suc zero) h = refl
kind_of (suc (suc zero)) h = refl
kind_of (suc (suc (suc n))) h = absurd (omega arith)

pub stage_of_lem : (n error status : ℕ) → n < 8 → stage_number (stage_of n error status) ≡ n
unfolding stage_of
stage_of_lem zero a b h = refl
stage_of_lem (suc zero) a b h = refl
stage_of_lem (suc (suc zero)) a b h = refl
stage_of_lem (suc (suc (suc zero))) a b h = refl
stage_of_lem (suc (suc (suc (suc zero)))) a b h = refl
stage_of_lem (suc (suc (suc (suc (suc zero))))) a b h = refl
stage_of_lem (suc (suc (suc (suc (suc (suc zero)))))) a b h = refl
stage_of_lem (suc (suc (suc (suc (suc (suc (suc zero))))))) a b h = refl
stage_of_lem (suc (suc (suc (suc (suc (suc (suc (suc n)))))))) a b h = absurd (omega arith)

either : (b : Bool) (g : Stage) → cond b g g ≡ g
either true g = refl
either false g = refl

pub stage_back : (g : Stage) (n : ℕ) → n % 8 ≡ stage_number g → n < 96 → stage_at n (error_number g) (status_number g) ≡ g
unfolding stage_at stage_of
stage_back (Awaiting (NegotiationRes NoAuth)) n q h = rw (lt-ltb n 96 h, q)
stage_back (Awaiting (NegotiationRes UserPass)) n q h = rw (lt-ltb n 96 h, q)
stage_back (Awaiting (NegotiationRes NoneAcceptable)) n q h = rw (lt-ltb n 96 h, q)
stage_back (Awaiting AuthenticationRes) n q h = rw (lt-ltb n 96 h, q)
stage_back (Awaiting ProxyRes) n q h = rw (lt-ltb n 96 h, q)
stage_back (Awaiting Response) n q h = rw (lt-ltb n 96 h, q)
stage_back Open n q h = rw (lt-ltb n 96 h, q)
stage_back (Failed x) n q h = rw q (either (eqb (error_number (Failed x)) 0 && (eqb (status_number (Failed x)) 0 && ltb n 96)) (Failed (error_of (error_number (Failed x)) (status_number (Failed x)))) ∙ ap Failed (error_back x))

-- ---- a code's parts

module _ (g : Stage) (b o : Bool) (k : AddressKind) where
  abbrev whole : ℕ
  whole = code_of g b o k

  pub code_small : whole < 96
  code_small = omega (arith, stage_small g, bit_small b, bit_small o, kind_small k)

  pub code_stage : whole % 8 ≡ stage_number g
  code_stage = omega (arith, stage_small g, bit_small b, bit_small o, kind_small k)

  pub code_started : whole / 8 % 2 ≡ bit b
  code_started = omega (arith, stage_small g, bit_small b, bit_small o, kind_small k)

  pub code_optimistic : whole / 16 % 2 ≡ bit o
  code_optimistic = omega (arith, stage_small g, bit_small b, bit_small o, kind_small k)

  pub code_kind : whole / 32 ≡ kind_number k
  code_kind = omega (arith, stage_small g, bit_small b, bit_small o, kind_small k)

  -- with another stage, and with another kind too
  pub code_staged : (g' : Stage) → whole / 8 * 8 + stage_number g' ≡ code_of g' b o k
  code_staged g' = omega (arith, stage_small g, bit_small b, bit_small o, kind_small k)

  pub code_opened : (k' : AddressKind) → whole % 32 / 8 * 8 + 7 + 32 * kind_number k' ≡ code_of Open b o k'
  code_opened k' = omega (arith, stage_small g, bit_small b, bit_small o, kind_small k)

pub code_begun : (g : Stage) (o : Bool) (k : AddressKind) → code_of g false o k + 8 ≡ code_of g true o k
code_begun g o k = omega arith

-- ---- a code that awaits

pub record Awaits (code x y : ℕ) (e : Reply) : Type 0 where
  pub number : code % 8 ≡ reply_number e
  pub small : code < 96
  pub error : x ≡ 0
  pub status : y ≡ 0

awaits_if : (t : Bool) (code error status : ℕ) (e : Reply) → (eqb error 0 && (eqb status 0 && ltb code 96)) ≡ t
    → cond t (stage_of (code % 8) error status) (Failed (error_of error status)) ≡ Awaiting e → Awaits code error status e
awaits_if true code error status e q w =
    let (x, r) = both_true (eqb error 0) (eqb status 0 && ltb code 96) q in
    let (y, z) = both_true (eqb status 0) (ltb code 96) r in
    record {
      number = sym (stage_of_lem (code % 8) error status (omega arith)) ∙ ap stage_number w;
      small = ltb-true code 96 z;
      error = eqb-true error 0 x;
      status = eqb-true status 0 y;
    }
awaits_if false code error status e q w = let z : ◌≡◌ {A = ℕ} 0 1 = cc in absurd (omega arith)

pub awaits : (code error status : ℕ) (e : Reply) → stage_at code error status ≡ Awaiting e → Awaits code error status e
unfolding stage_at
awaits code error status e w = awaits_if (eqb error 0 && (eqb status 0 && ltb code 96)) code error status e refl w

-- it is the one that its stage, its marks and its kind are written as
pub code_whole : (code : ℕ) (e : Reply) → code % 8 ≡ reply_number e → code < 96 → code_of (Awaiting e) (eqb (code / 8 % 2) 1) (eqb (code / 16 % 2) 1) (kind_at code) ≡ code
code_whole code e q h =
    let s = bit_of (code / 8 % 2) (omega arith) in
    let o = bit_of (code / 16 % 2) (omega arith) in
    let k = kind_of (code / 32) (omega arith) in
    omega arith

-- ---- as the code reads it

pub stage_failed : (code error status : ℕ) → (error + 256 * status ≡ 0 → ⊥) → stage_number (stage_at code error status) ≡ 0
unfolding stage_at
stage_failed code error status h = go (eqb error 0) refl (eqb status 0) refl
  where
    go : (a : Bool) → eqb error 0 ≡ a → (b : Bool) → eqb status 0 ≡ b → stage_number (cond (a && (b && ltb code 96)) (stage_of (code % 8) error status) (Failed (error_of error status))) ≡ 0
    go true q true r = absurd (h (omega (arith, eqb-true error 0 q, eqb-true status 0 r)))
    go true q false r = refl
    go false q b r = refl

pub stage_large : (code error status : ℕ) → 96 ≤ code → stage_number (stage_at code error status) ≡ 0
unfolding stage_at
stage_large code error status h = rw (le-ltb code 96 h) (go (eqb error 0) (eqb status 0))
  where
    go : (a b : Bool) → stage_number (cond (a && (b && false)) (stage_of (code % 8) error status) (Failed (error_of error status))) ≡ 0
    go true true = refl
    go true false = refl
    go false b = refl

pub stage_read : (code error status : ℕ) → error + 256 * status ≡ 0 → code < 96 → stage_number (stage_at code error status) ≡ code % 8
unfolding stage_at
stage_read code error status z h =
    let e : error ≡ 0 = omega arith in
    let s : status ≡ 0 = omega arith in
    rw (e, s, lt-ltb code 96 h) (stage_of_lem (code % 8) 0 0 (omega arith))

pub awaited_open : (g : Stage) → stage_number g ≡ 7 → awaited_number g ≡ 0
awaited_open (Awaiting e) q = absurd (omega (arith, reply_small e))
awaited_open Open q = refl
awaited_open (Failed x) q = refl

pub awaited_other : (g : Stage) → (stage_number g ≡ 7 → ⊥) → awaited_number g ≡ stage_number g
awaited_other (Awaiting e) q = refl
awaited_other Open q = absurd (q refl)
awaited_other (Failed x) q = refl

-- a reply is awaited where its number is not 0
pub record Awaited (g : Stage) (n : ℕ) : Type 0 where
  pub reply : Reply
  pub stage : g ≡ Awaiting reply
  pub number : n ≡ reply_number reply

pub awaited_some : (g : Stage) {n : ℕ} → n ≡ awaited_number g → (n ≡ 0 → ⊥) → Awaited g n
awaited_some (Awaiting e) q h = record { reply = e; stage = refl; number = q }
awaited_some Open q h = absurd (h q)
awaited_some (Failed x) q h = absurd (h q)

-- the reply of a number
pub reply_at : (k : ℕ) (e' : Reply) → k ≡ reply_number e' → (e : Reply) {n : ℕ} → n ≡ k → n ≡ reply_number e → e' ≡ e
reply_at k e' p e {n} q r =
    let back : (e : Reply) → stage_at (reply_number e) 0 0 ≡ Awaiting e = λ e. stage_back (Awaiting e) (reply_number e) (omega (arith, reply_small e)) (omega (arith, reply_small e)) in
    let same : reply_number e' ≡ reply_number e = sym p ∙ sym q ∙ r in
    let z : Awaiting e' ≡ Awaiting e = sym (back e') ∙ ap (λ (m : ℕ). stage_at m 0 0) same ∙ back e in
    cc

pub reply_last : (e : Reply) {n : ℕ} → n ≡ reply_number e → (n ≡ 1 → ⊥) → (n ≡ 2 → ⊥) → (n ≡ 3 → ⊥) → (n ≡ 4 → ⊥) → (n ≡ 5 → ⊥) → Response ≡ e
reply_last (NegotiationRes NoAuth) q a b c d f = absurd (a q)
reply_last (NegotiationRes UserPass) q a b c d f = absurd (b q)
reply_last (NegotiationRes NoneAcceptable) q a b c d f = absurd (c q)
reply_last AuthenticationRes q a b c d f = absurd (d q)
reply_last ProxyRes q a b c d f = absurd (f q)
reply_last Response q a b c d f = refl
