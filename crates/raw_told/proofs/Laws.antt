-- What is told, in numbers.
use Prim.Native.Nat.{ℕ, ◌≤◌}
use native.Mathlib.Omega.{arith}
use mathlib.Core.Path.{◌≡◌, refl, ap, ◌∙◌}
use mathlib.Core.Bool.{Bool, true, false}
use mathlib.Core.List.{List}
use lib.ListN.{length}
use Rattle.protocol.specs.declared.Address.{Address}
use Rattle.protocol.specs.declared.Outcome.{Outcome}
use Rattle.protocol.specs.declared.Outcome.TheVariants as outcomes
use Rattle.protocol.specs.declared.SocksError.TheVariants.{NotOpen}
use Rattle.protocol.specs.declared.SocksError.{SocksError}
use Rattle.protocol.specs.Numbers.{number}
use Rattle.std.specs.Prelude.{Result, Ok, Err, IsOk}
use Rattle.address_format.specs.endpoint.Written.{TextResult}
use Rattle.client_stages.specs.outcome.Told.{is_open}
use Rattle.client_session.specs.declared.Session.{Session}
use Rattle.client_session.specs.Session.{outcome, bound, write_bound}
use Rattle.client_session.proofs.Named.{open_just, accepted_length, refused_empty}
use Rattle.raw_numbers.specs.Numbers.{kind_number}
use Rattle.raw_session.specs.declared.RawSession.{RawSession}
use Rattle.raw_session.specs.declared.RawOutcome.{RawOutcome}
use Rattle.raw_session.specs.Raw.{session_of, outcome_of}
use Rattle.raw_told.specs.declared.RawAddress.{RawAddress}
use Rattle.raw_told.specs.Told.{raw_outcome, address_of, raw_bound, Tells}

module _ (raw : RawSession) {s : Session} (e : s ≡ session_of raw) where
  pub says_outcome : {o : Outcome} {r : RawOutcome} → o ≡ outcome s → r ≡ outcome_of o → r ≡ raw_outcome raw
  says_outcome p q = q ∙ ap outcome_of (p ∙ ap outcome e)

  pub says_bound : {a : Address} {k : ℕ} → a ≡ bound s → k ≡ kind_number a.kind → ◌≡◌ {A = RawAddress} (record { port = a.port; kind = k; len = a.len; bytes = a.bytes }) (raw_bound raw)
  says_bound {a} {k} p q = ap (λ (n : ℕ). record { port = a.port; kind = n; len = a.len; bytes = a.bytes }) q ∙ ap address_of (p ∙ ap bound e)

  module _ (text text' : List ℕ) (w : Result ℕ SocksError) (h : TextResult (write_bound s text) w text') where
    pub says_text : {n : ℕ} → w ≡ Ok n → Tells (write_bound (session_of raw) text) (record { len = n; answer = 0 }) text'
    says_text {n} p =
        let k : TextResult (write_bound (session_of raw) text) (Ok n) text' = rw (e, p) at h in
        let t = accepted_length (write_bound (session_of raw) text).answer (write_bound (session_of raw) text).len k.returned in
        record { returned = rw (t.0, t.1); buffer = k.buffer }

    pub says_refusal : {x : SocksError} {n : ℕ} → w ≡ Err x → n ≡ number x → Tells (write_bound (session_of raw) text) (record { len = 0; answer = n }) text'
    says_refusal {x} p q =
        let k : TextResult (write_bound (session_of raw) text) (Err x) text' = rw (e, p) at h in
        let t = refused_empty (session_of raw) text k.returned in
        record { returned = rw (t.0, t.1, q); buffer = k.buffer }

    -- a text has at most 261 bytes
    pub says_fits : {x : SocksError} {n : ℕ} → w ≡ Err x → n ≡ number x → (outcome s ≡ outcomes.Open → 261 ≤ length text → IsOk w) → 261 ≤ length text → n ≡ 18 → ⊥
    unfolding write_bound
    says_fits {x} p q f l z = go (is_open s.stage) refl
      where
        go : (b : Bool) → is_open s.stage ≡ b → ⊥
        go true o = let k = rw p at (f ((open_just s).0 o) l) in absurd (cc)
        go false o =
            let k : Err x ≡ Err NotOpen = rw (p, o) at h.returned in
            let y : x ≡ NotOpen = cc (k) in
            omega (arith, z, q ∙ ap number y)
