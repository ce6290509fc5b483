-- The ways that a delivery goes, as the code finds them, and what is sent.
use Prim.Native.Nat.{ℕ, ◌+◌, ◌-◌, ◌≤◌, min, zero-le}
use native.Mathlib.Omega.{arith}
use mathlib.Core.Path.{◌≡◌, refl, ap, sym, ◌∙◌}
use mathlib.Core.Bool.{Bool, true}
use mathlib.Core.List.{List}
use lib.ListN.{length, take, drop}
use Rattle.std.specs.Prelude.{Ok, Err}
use Rattle.protocol.specs.declared.AuthMethod.TheVariants.{NoAuth, UserPass, NoneAcceptable}
use Rattle.protocol.specs.declared.Reply.{Reply}
use Rattle.protocol.specs.declared.Reply.TheVariants.{NegotiationRes, AuthenticationRes, ProxyRes, Response}
use Rattle.protocol.specs.declared.SocksError.{SocksError}
use Rattle.protocol.specs.declared.Bound.{Bound}
use Rattle.protocol.specs.Client.{room}
use Rattle.buffers.specs.write.Written.{overwrite}
use Rattle.buffers.proofs.write.Parts.{take_min}
use Rattle.client_stages.specs.declared.due.Lengths.{Lengths}
use Rattle.client_stages.specs.declared.due.Stage.{Stage}
use Rattle.client_stages.specs.declared.due.Stage.TheVariants.{Awaiting}
use Rattle.client_stages.specs.due.Parts.{part}
use Rattle.client_stages.specs.due.Due.{still_due}
use Rattle.client_delivery.specs.declared.piece.Taken.{Taken}
use Rattle.client_delivery.specs.piece.Takes.{TakeResult}
use Rattle.client_delivery.specs.delivery.Received.{unchanged, Received, Bounded, Ways, settled, unstarted, short, none, taken, ReceiveResult}

pub take_least : (n : ℕ) (l : List ℕ) → length l ≡ 261 → take (min n 261) l ≡ take n l
take_least n l h = rw (← h) (take_min n l)

-- what may become due fits the output lent
still_room : (e : Reply) → still_due (Awaiting e) ≤ room e
still_room (NegotiationRes NoAuth) = omega arith
still_room (NegotiationRes UserPass) = omega arith
still_room (NegotiationRes NoneAcceptable) = omega arith
still_room AuthenticationRes = omega arith
still_room ProxyRes = omega arith
still_room Response = omega arith

pub empty_bounds : (piece : List ℕ) (lent : ℕ) (s : Stage) (n : ℕ) (x : Bound) → Bounded piece lent (unchanged s n x)
empty_bounds piece lent s n x = record { within = zero-le; fits = zero-le; inside = zero-le }

-- a piece taken behind held bytes
pub receives_taken : (g : Bool) (held : ℕ) (l : Lengths) (hold piece : List ℕ) (lent : ℕ) (x : Bound) (e : Reply) {h : List ℕ} → h ≡ take held hold → {t : Taken} {hold' : List ℕ} → TakeResult l e h piece hold x t hold' → g ≡ true → room e ≤ lent → (length piece ≡ 0 → ⊥)
    → ReceiveResult (Awaiting e) g held l hold piece lent x (Ok t) hold'
receives_taken g held l hold piece lent x e q {t} w j h z =
    let s = w.few in
    record { way = taken e t refl j h z refl (rw q at w); bounds = record { within = w.keeps.within; fits = omega (arith, s, still_room e); inside = w.inside } }

-- ---- what a caller learns by the answer

ok_is : {a b : Taken} → ◌≡◌ {A = Received} (Ok a) (Ok b) → a ≡ b
ok_is q = cc

ok_err : {a : Taken} {y : SocksError} → ◌≡◌ {A = Received} (Ok a) (Err y) → ⊥
ok_err q = let z : ◌≡◌ {A = ℕ} 0 1 = cc in omega arith

module _ {stage : Stage} {g : Bool} {held : ℕ} {l : Lengths} {hold piece : List ℕ} {lent : ℕ} {x : Bound} where
  -- accepted: an empty piece changed nothing, and another was taken
  pub took : (P : Taken → List ℕ → Type 0) → P (unchanged stage held x) hold → ((e : Reply) (t : Taken) (hold' : List ℕ) → stage ≡ Awaiting e → TakeResult l e (take held hold) piece hold x t hold' → P t hold')
      → {t : Taken} {hold' : List ℕ} → Ways stage g held l hold piece lent x (Ok t) hold' → P t hold'
  took P n k (settled z q w) = absurd (ok_err q)
  took P n k (unstarted e s f q w) = absurd (ok_err q)
  took P n k (short e s t h q w) = absurd (ok_err q)
  took P n k (none e s t h z q w) = rw (ok_is q, w) n
  took P n k {hold' = hold'} (taken e y s t h z q w) = rw (ok_is q) (k e y hold' s w)

  -- refused: the hold stays
  pub refused_holds : {y : SocksError} {hold' : List ℕ} → Ways stage g held l hold piece lent x (Err y) hold' → hold' ≡ hold
  refused_holds (settled z q w) = w
  refused_holds (unstarted e s f q w) = w
  refused_holds (short e s t h q w) = w
  refused_holds (none e s t h z q w) = w
  refused_holds (taken e t s g h z q w) = absurd (ok_err (sym q))

pub nothing_sent : (b : List ℕ) (from : ℕ) (out : List ℕ) {n : ℕ} → n ≡ 0 → out ≡ overwrite out 0 (part b from n)
unfolding overwrite
nothing_sent b from out q = rw q

pub sent_part : (b : List ℕ) (from n : ℕ) (out : List ℕ) {out' : List ℕ} → out' ≡ overwrite out 0 (take (from + n - from) (drop from b)) → out' ≡ overwrite out 0 (part b from n)
sent_part b from n out w = let z : from + n - from ≡ n = omega arith in w ∙ ap (λ (k : ℕ). overwrite out 0 (take k (drop from b))) z
