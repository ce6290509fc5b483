-- What a piece comes to: the rest of a stage that waits is held, and one that has ended holds nothing.
use Prim.Native.Nat.{ℕ, ◌+◌, ◌-◌, ◌≤◌, ◌<◌, zero-le}
use native.Mathlib.Nat.{add-zero, zero-add, le_refl}
use native.Mathlib.Omega.{arith}
use mathlib.Core.Path.{◌≡◌, refl, ap, sym, ◌∙◌}
use mathlib.Core.List.{List, ◌++◌, append_assoc}
use lib.ListN.{length, take, drop, length-append, length-drop, length-take}
use Rattle.protocol.specs.declared.Reply.{Reply}
use Rattle.protocol.specs.declared.Reply.TheVariants.{NegotiationRes, AuthenticationRes, ProxyRes, Response}
use Rattle.protocol.specs.declared.SocksError.{SocksError}
use Rattle.protocol.specs.declared.Bound.{Bound}
use Rattle.protocol.specs.Bound.{Endpoint, unbound}
use Rattle.buffers.specs.write.Written.{overwrite}
use Rattle.buffers.specs.declared.hold.Held.{Held}
use Rattle.buffers.specs.hold.Held.{Binds}
use Rattle.replies.specs.unread.Fewest.{fewest}
use Rattle.replies.proofs.unread.Reading.{too_few}
use Rattle.client_stages.specs.declared.due.Lengths.{Lengths}
use Rattle.client_stages.specs.declared.due.Stage.{Stage}
use Rattle.client_stages.specs.declared.due.Stage.TheVariants.{Awaiting, Open, Failed}
use Rattle.client_stages.specs.due.Stages.{session_at}
use Rattle.client_stages.specs.due.Due.{due_from}
use Rattle.client_stages.proofs.due.Sending.{due_inside}
use Rattle.client_delivery.specs.turns.Turns.{kept_in, Rests, named_at, Ready, Worked}
use Rattle.client_delivery.proofs.turns.Steps.{stage_rests, rests_decided}
use Rattle.client_delivery.specs.declared.piece.Taken.{Taken}
use Rattle.client_delivery.specs.piece.Takes.{Keeps, Opens, TakeResult}
use Rattle.talk.specs.Talk.{waiting}

unread : (h p : List ℕ) (place : ℕ) → length (drop place (h ++ p)) ≡ length h + length p - place
unread h p place = length-drop place (h ++ p) ∙ ap (λ (n : ℕ). n - place) (length-append h p)

module _ (place : ℕ) (h p hold : List ℕ) {n from sent decided : ℕ} {bound : Bound} (long : length h ≡ n) (inside : place ≤ n + length p) (x : Endpoint) {r : Taken} {hold' : List ℕ} {stage : Stage} where
  pub keeps_waits : {e : Reply} → stage ≡ Awaiting e → r ≡ record { stage = stage; held = n + length p - place; used = length p; from = from; sent = sent; bound = bound; attempts = decided + 1 } → hold' ≡ overwrite hold 0 (drop place (h ++ p))
      → Keeps (session_at stage x (drop place (h ++ p))) place h p hold bound decided r hold' × (r.from ≡ from) × (r.sent ≡ sent)
  unfolding overwrite
  keeps_waits {e} s q w =
      let u = unread h p place in
      rw (q, s) (
        record {
          staged = refl;
          bounds = refl;
          counts = sym (u ∙ ap (λ (k : ℕ). k + length p - place) long);
          holds = w ∙ ap (λ (k : ℕ). drop place (h ++ p) ++ drop k hold) (zero-add (length (drop place (h ++ p))));
          uses = omega arith;
          within = le_refl (length p);
          tries = refl;
        },
        refl,
        refl,
      )

  pub keeps_failed : {y : SocksError} → stage ≡ Failed y → r ≡ record { stage = stage; held = 0; used = place - n; from = from; sent = sent; bound = bound; attempts = decided } → hold' ≡ hold
      → Keeps (session_at stage x (drop place (h ++ p))) place h p hold bound decided r hold' × (r.from ≡ from) × (r.sent ≡ sent)
  keeps_failed s q w = rw (q, s) (record { staged = refl; bounds = refl; counts = refl; holds = w; uses = omega arith; within = omega arith; tries = sym (add-zero decided) }, refl, refl)

  pub keeps_open : stage ≡ Open → Opens x stage (place - n) from sent decided hold r hold'
      → Keeps (session_at stage x (drop place (h ++ p))) place h p hold bound decided r hold' × (r.from ≡ from) × (r.sent ≡ sent)
  keeps_open s w = rw (w.is, s) (record { staged = refl; bounds = refl; counts = refl; holds = w.holds; uses = omega arith; within = omega arith; tries = sym (add-zero decided) }, refl, refl)

-- what is unread of a stage that waits fits the hold
pub rests_few : {stage : Stage} {e : Reply} (rest : List ℕ) → stage ≡ Awaiting e → Rests stage rest → length rest ≤ 261
rests_few rest q r = (rw q at r).1

pub ready_open : {stage : Stage} (e : Reply) (begin : ℕ) (bytes : List ℕ) → stage ≡ Open → Ready stage e begin bytes → Ready Open e begin bytes
ready_open e begin bytes q r = rw q at r

pub used_is : (stage : Stage) (from sent decided : ℕ) (bound : Bound) {a b : ℕ} → a ≡ b
    → ◌≡◌ {A = Taken} (record { stage = stage; held = 0; used = a; from = from; sent = sent; bound = bound; attempts = decided })
    (record { stage = stage; held = 0; used = b; from = from; sent = sent; bound = bound; attempts = decided })
used_is stage from sent decided bound q = λ i. record { stage = stage; held = 0; used = q i; from = from; sent = sent; bound = bound; attempts = decided }

pub held_long : (n : ℕ) (hold : List ℕ) → length hold ≡ 261 → n ≤ 261 → length (take n hold) ≡ n
held_long n hold l h = length-take n hold ∙ omega arith

-- behind the first n bytes of the hold
module _ (place n : ℕ) (hold p : List ℕ) (long : length hold ≡ 261) (few : n ≤ 261) where
  pub unread_few : length (drop place (take n hold ++ p)) ≤ 261 → n + length p ≤ place + 261
  unread_few h = let m = held_long n hold long few in let u = unread (take n hold) p place in omega arith

pub begin_inside : (n : ℕ) (hold p : List ℕ) → length hold ≡ 261 → n ≤ 261 → {begin : ℕ} → begin ≤ length (take n hold ++ p) → begin ≤ n + length p
begin_inside n hold p l h i = omega (arith, length-append (take n hold) p, held_long n hold l h)

pub opens_as : {x : Endpoint} (stage : Stage) (from sent decided : ℕ) {hold hold' : List ℕ} {k : Held} {used used' : ℕ} → Binds x hold k hold' → used ≡ used'
    → Opens x stage used' from sent decided hold (record { stage = stage; held = k.len; used = used; from = from; sent = sent; bound = k.bound; attempts = decided }) hold'
opens_as stage from sent decided b q = record { is = λ i. record { stage = stage; held = b.long i; used = q i; from = from; sent = sent; bound = b.bound i; attempts = decided }; holds = b.holds }

-- a piece worked through
pub takes_worked : (l : Lengths) (e : Reply) (h p hold : List ℕ) (bound : Bound) (stage : Stage) (begin place sent decided : ℕ) {from : ℕ} {r : Taken} {hold' : List ℕ} → Worked l e (h ++ p) stage begin place sent decided → from ≡ due_from l e
    → Keeps (session_at stage (named_at e begin (h ++ p)) (drop place (h ++ p))) place h p hold bound decided r hold' × (r.from ≡ from) × (r.sent ≡ sent) → TakeResult l e h p hold bound r hold'
takes_worked l e h p hold bound stage begin place sent decided w f k =
    let g = k.1 ∙ f in
    let n = k.2 in
    let s = w.few in
    record {
      session = session_at stage (named_at e begin (h ++ p)) (drop place (h ++ p));
      place = place;
      whole = λ b. rw (g, n) (w.whole b);
      decided = decided;
      decides = w.decides;
      keeps = k.0;
      few = omega arith;
      inside = omega (arith, due_inside l e, s);
    }

pub fewest_small : (e : Reply) → fewest e ≤ 261
fewest_small (NegotiationRes m) = omega arith
fewest_small AuthenticationRes = omega arith
fewest_small ProxyRes = omega arith
fewest_small Response = omega arith

-- bytes put behind the first n are the first n and they, put at the start
from_start : (n : ℕ) (hold p : List ℕ) → n ≤ length hold → overwrite hold 0 (take n hold ++ p) ≡ overwrite hold n p
unfolding overwrite
from_start n hold p h =
    let m : length (take n hold) ≡ n = length-take n hold ∙ omega arith in
    ap (λ (k : ℕ). (take n hold ++ p) ++ drop k hold) (zero-add _ ∙ length-append (take n hold) p ∙ ap (λ (k : ℕ). k + length p) m) ∙ append_assoc (take n hold) p (drop (n + length p) hold)

-- too few bytes to decide anything
pub takes_few : (l : Lengths) (e : Reply) (p hold : List ℕ) (bound : Bound) {n : ℕ} {r : Taken} {hold' : List ℕ} → n ≤ length hold → length hold ≡ 261 → n + length p < fewest e
    → r ≡ record { stage = Awaiting e; held = n + length p; used = length p; from = 0; sent = 0; bound = bound; attempts = 1 } → hold' ≡ overwrite hold n p → TakeResult l e (take n hold) p hold bound r hold'
takes_few l e p hold bound {n} {r} {hold'} h long f q w =
    let m : length (take n hold) ≡ n = length-take n hold ∙ omega arith in
    let y : n + length p ≡ n + length p - 0 = omega arith in
    let z : length (take n hold ++ p) < fewest e = omega (arith, length-append (take n hold) p) in
    record {
      session = waiting e (take n hold ++ p);
      place = 0;
      whole = λ b. rw q (stage_rests (kept_in l b) (Awaiting e) unbound (take n hold ++ p) (too_few e (take n hold ++ p) z, omega (arith, fewest_small e)));
      decided = 0;
      decides = λ b. rests_decided (kept_in l b) (Awaiting e) (take n hold ++ p) (too_few e (take n hold ++ p) z, omega (arith, fewest_small e));
      keeps = (keeps_waits 0 (take n hold) p hold m zero-le unbound refl (q ∙ ap (λ (k : ℕ). record { stage = Awaiting e; held = k; used = length p; from = 0; sent = 0; bound = bound; attempts = 1 }) y) (w ∙ sym (from_start n hold p h))).0;
      few = rw q zero-le;
      inside = rw q zero-le;
    }
