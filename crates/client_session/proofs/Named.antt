-- F-1: what a session that is open hands out of its bound address, and one that is not.
use Rattle.std.proofs.Common.{◌≡◌, ℕ, min, cond, leb, ◌++◌, drop, Bool, true, false, ◌↔◌, List, length, take, sym, refl, ap, ◌∙◌, true≢false, arith, Result, Ok, Err}
use Rattle.protocol.specs.declared.Address.{Address}
use Rattle.protocol.specs.declared.Bound.{Bound}
use Rattle.protocol.specs.declared.SocksError.{SocksError}
use Rattle.protocol.specs.declared.SocksError.TheVariants.{ShortText, NotOpen}
use Rattle.protocol.specs.Requests.{kind_of}
use Rattle.protocol.specs.Bound.{endpoint, unbound, address_of}
use Rattle.protocol.specs.declared.Outcome.TheVariants as outcomes
use Rattle.protocol.specs.Client.{outcome_of, bound_in}
use Rattle.client_stages.specs.declared.due.Stage.{Stage}
use Rattle.client_stages.specs.declared.due.Stage.TheVariants.{Awaiting, Open, Failed}
use Rattle.client_stages.specs.due.Stages.{view_at}
use Rattle.address_format.specs.endpoint.Text.{bound_text}
use Rattle.protocol.specs.Answers.{Answer, Accepted, Refused}
use Rattle.address_format.specs.endpoint.Written.{TextCall, unwritten, write_text, with_length, TextResult}
use Rattle.client_session.specs.declared.Session.{Session}
use Rattle.client_stages.specs.outcome.Told.{is_open}
use Rattle.client_session.specs.Session.{held_bytes, outcome, bound, write_bound}
use Rattle.client_delivery.proofs.delivery.Laws.{take_least}

-- by the stage
unnamed : (stage : Stage) (b : Bound) (h : List ℕ) → is_open stage ≡ false → unbound ≡ bound_in (view_at stage b h)
unnamed (Awaiting e) b h q = refl
unnamed Open b h q = absurd (true≢false q)
unnamed (Failed x) b h q = refl

named : (stage : Stage) (b : Bound) (h : List ℕ) → is_open stage ≡ true → endpoint (kind_of b.kind h) b.port ≡ bound_in (view_at stage b h)
named (Awaiting e) b h q = absurd (true≢false (sym q))
named Open b h q = refl
named (Failed x) b h q = absurd (true≢false (sym q))

-- a session whose outcome is open, and only such a one, has that stage
pub open_just : (s : Session) → is_open s.stage ≡ true ↔ (outcome s ≡ outcomes.Open)
open_just s = go s.stage
  where
    go : (stage : Stage) → is_open stage ≡ true ↔ (outcome_of (view_at stage s.bound (held_bytes s)) ≡ outcomes.Open)
    go (Awaiting e) = (λ q. absurd (true≢false (sym q)), λ q. let z : ◌≡◌ {A = ℕ} 0 1 = cc in absurd (omega arith))
    go Open = (λ q. refl, λ q. refl)
    go (Failed x) = (λ q. absurd (true≢false (sym q)), λ q. let z : ◌≡◌ {A = ℕ} 0 1 = cc in absurd (omega arith))

module _ (s : Session) {o : Bool} (e : o ≡ is_open s.stage) where
  pub not_bound : o ≡ false → address_of unbound ≡ bound s
  not_bound q = ap address_of (unnamed s.stage s.bound (take s.held s.hold) (sym e ∙ q))

  pub bound_is : o ≡ true → {n : ℕ} → n ≡ min s.held 261 → length s.hold ≡ 261 → address_of (endpoint (kind_of s.bound.kind (take n s.hold)) s.bound.port) ≡ bound s
  bound_is q p l = rw (p, take_least s.held s.hold l) (ap address_of (named s.stage s.bound (take s.held s.hold) (sym e ∙ q)))

  pub not_written : o ≡ false → (buffer : List ℕ) → TextResult (write_bound s buffer) (Err NotOpen) buffer
  unfolding write_bound
  not_written q buffer = rw (sym e ∙ q) (record { returned = refl; buffer = refl; inside = tt })

  pub written : o ≡ true → (buffer : List ℕ) {buffer' : List ℕ} {a : Address} {r : Result ℕ SocksError} → a ≡ bound s → TextResult (write_text (bound_text a) buffer) r buffer' → TextResult (write_bound s buffer) r buffer'
  unfolding write_bound
  written q buffer p w = rw (sym e ∙ q, ← p) w

-- a text that is accepted has its length
pub accepted_length : (a : Answer) (n : ℕ) {m : ℕ} → Ok m ≡ with_length a n → (a ≡ Accepted) × (n ≡ m)
accepted_length Accepted n h = (refl, cc)
accepted_length (Refused e) n h = absurd (cc)

-- and one that is refused none
abbrev texted : List ℕ → List ℕ → Bool → Bool → TextCall
texted t buffer a b = cond a (cond b (record { answer = Accepted; len = length t; buffer = t ++ drop (length t) buffer }) (unwritten ShortText buffer)) (unwritten NotOpen buffer)

refused_by : (t buffer : List ℕ) (a b : Bool) {e : SocksError} → Err e ≡ with_length (texted t buffer a b).answer (texted t buffer a b).len
    → ((texted t buffer a b).answer ≡ Refused e) × ((texted t buffer a b).len ≡ 0)
refused_by t buffer true true h = absurd (cc)
refused_by t buffer true false h = (cc, refl)
refused_by t buffer false b h = (cc, refl)

pub refused_empty : (s : Session) (buffer : List ℕ) {e : SocksError} → Err e ≡ with_length (write_bound s buffer).answer (write_bound s buffer).len
    → ((write_bound s buffer).answer ≡ Refused e) × ((write_bound s buffer).len ≡ 0)
unfolding write_bound
refused_empty s buffer h = refused_by (bound_text (bound s)) buffer (is_open s.stage) (leb (length (bound_text (bound s))) (length buffer)) h
