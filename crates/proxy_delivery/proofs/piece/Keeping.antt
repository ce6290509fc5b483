-- What a piece comes to: the rest of a stage that waits is held, a destination that is asked for is held, and one that has failed holds nothing.
use Prim.Native.Nat.{ℕ, ◌+◌, ◌-◌, ◌*◌, ◌≤◌, min}
use native.Mathlib.Nat.{zero-add, le_refl}
use native.Mathlib.Omega.{arith}
use mathlib.Core.Path.{◌≡◌, refl, ap, sym, ◌∙◌}
use mathlib.Core.List.{List, ◌++◌}
use mathlib.Core.Logic.{◌⊎◌, inl, inr}
use lib.ListN.{length, take, drop, length-append, length-drop, length-take}
use Rattle.protocol.specs.declared.SocksError.{SocksError}
use Rattle.protocol.specs.declared.Version.{Version}
use Rattle.protocol.specs.declared.Bound.{Bound}
use Rattle.protocol.specs.Bound.{Endpoint}
use Rattle.buffers.specs.write.Written.{overwrite}
use Rattle.buffers.specs.declared.hold.Held.{Held}
use Rattle.buffers.specs.hold.Held.{Binds}
use Rattle.proxy_spec.specs.declared.Field.{Field}
use Rattle.proxy_spec.specs.declared.Stage.{Stage}
use Rattle.proxy_spec.specs.declared.Stage.TheVariants.{Awaiting, Asked, Open, Failed}
use Rattle.proxy_spec.specs.End.{Setup}
use Rattle.proxy_decisions.specs.decision.Due.{asks_at, session_at, rank}
use Rattle.proxy_decisions.proofs.decision.Laws.{rank_bounds}
use Rattle.proxy_decisions.specs.destination.Last.{Last}
use Rattle.proxy_delivery.specs.declared.turns.Turn.{Turn}
use Rattle.proxy_delivery.specs.turns.Turns.{Rests, Ready, last_in, Worked}
use Rattle.proxy_delivery.specs.declared.piece.Taken.{Taken}
use Rattle.proxy_delivery.specs.piece.Pieces.{Keeps, Asks, TakeResult}

-- what a piece comes to at a stage and a place, with what was said
abbrev pub Came : Stage → Endpoint → ℕ → List ℕ → List ℕ → List ℕ → Bound → ℕ → Taken → List ℕ → Type 0
Came stage x place h p hold bound sent r hold' = Keeps (session_at stage x (drop place (h ++ p))) place h p hold bound r hold' × (r.sent ≡ sent)

unread : (h p : List ℕ) (place : ℕ) → length (drop place (h ++ p)) ≡ length h + length p - place
unread h p place = length-drop place (h ++ p) ∙ ap (λ (n : ℕ). n - place) (length-append h p)

module _ (place : ℕ) (h p hold : List ℕ) {n sent : ℕ} {bound : Bound} (long : length h ≡ n) (inside : place ≤ n + length p) (x : Endpoint) {r : Taken} {hold' : List ℕ} {stage : Stage} where
  pub keeps_waits : {f : Field} → stage ≡ Awaiting f → r ≡ record { stage = stage; held = n + length p - place; used = length p; sent = sent; bound = bound } → hold' ≡ overwrite hold 0 (drop place (h ++ p))
      → Came stage x place h p hold bound sent r hold'
  unfolding overwrite
  keeps_waits s q w =
      let u = unread h p place in
      rw (q, s) (
        record {
          staged = refl;
          bounds = refl;
          counts = sym (u ∙ ap (λ (k : ℕ). k + length p - place) long);
          holds = w ∙ ap (λ (k : ℕ). drop place (h ++ p) ++ drop k hold) (zero-add (length (drop place (h ++ p))));
          uses = omega arith;
          within = le_refl (length p);
        },
        refl,
      )

  pub keeps_asks : {v : Version} → stage ≡ Asked v → Asks x stage (place - n) sent hold r hold' → Came stage x place h p hold bound sent r hold'
  keeps_asks s w = rw (w.is, s) (record { staged = refl; bounds = refl; counts = refl; holds = w.holds; uses = omega arith; within = omega arith }, refl)

  keeps_failed : {e : SocksError} → stage ≡ Failed e → r ≡ record { stage = stage; held = 0; used = place - n; sent = sent; bound = bound } → hold' ≡ hold → Came stage x place h p hold bound sent r hold'
  keeps_failed s q w = rw (q, s) (record { staged = refl; bounds = refl; counts = refl; holds = w; uses = omega arith; within = omega arith }, refl)

  -- none is open by itself
  pub keeps_over : ((v : Version) × (stage ≡ Open v)) ⊎ ((e : SocksError) × (stage ≡ Failed e)) → (last : Field) (m : List ℕ) → Ready stage last m
      → r ≡ record { stage = stage; held = 0; used = place - n; sent = sent; bound = bound } → hold' ≡ hold → Came stage x place h p hold bound sent r hold'
  keeps_over (inl (v, s)) last m y q w = let o : ⊥ = rw s at y in absurd o
  keeps_over (inr (e, s)) last m y q w = keeps_failed s q w

-- what is unread of a stage that waits fits the hold
pub rests_few : {stage : Stage} {f : Field} (rest : List ℕ) → stage ≡ Awaiting f → Rests stage rest → length rest ≤ 1014
rests_few rest q r = rw q at r

-- one that asks has read a last field
pub ready_asked : {stage : Stage} {v : Version} (last : Field) (m : List ℕ) → stage ≡ Asked v → Ready stage last m → Last last m
ready_asked last m q r = rw q at r

pub asks_as : (x : Endpoint) (stage : Stage) (sent : ℕ) {hold hold' : List ℕ} {k : Held} {used m : ℕ} → Binds x hold k hold' → m ≡ used
    → Asks x stage used sent hold (record { stage = stage; held = k.len; used = m; sent = sent; bound = k.bound }) hold'
asks_as x stage sent b q = record { is = λ i. record { stage = stage; held = b.long i; used = q i; sent = sent; bound = b.bound i }; holds = b.holds }

-- behind the first n bytes of the hold
module _ (n : ℕ) (hold p : List ℕ) (long : length hold ≡ 1014) (few : n ≤ 1014) where
  pub held_long : length (take n hold) ≡ n
  held_long = length-take n hold ∙ omega arith

  module _ (place : ℕ) where
    pub unread_few : length (drop place (take n hold ++ p)) ≤ 1014 → n + length p ≤ place + 1014
    unread_few h = let m = held_long in let u = unread (take n hold) p place in omega arith

    pub place_inside : place ≤ length (take n hold ++ p) → place ≤ n + length p
    place_inside i = omega (arith, length-append (take n hold) p, held_long)

-- what may be said from a field on fits an output of 262 bytes
pub room_said : (f : Field) (out : List ℕ) → 262 ≤ length out → 0 + 22 * rank f ≤ length out
room_said f out h = let b = (rank_bounds f).1 in omega arith

-- a piece worked through
pub takes_worked : (c : Setup) (f : Field) (h p hold : List ℕ) (bound : Bound) (out : List ℕ) (t : Turn) {out' : List ℕ} {r : Taken} {hold' : List ℕ} → Worked c f (h ++ p) 0 out 0 t out'
    → Came t.stage (asks_at t.last (last_in t (h ++ p))) t.place h p hold bound t.sent r hold' → TakeResult c f h p hold bound out r hold' out'
takes_worked c f h p hold bound out t w k =
    let m = session_at t.stage (asks_at t.last (last_in t (h ++ p))) (drop t.place (h ++ p)) in
    let z : t.place - 0 ≡ t.place = omega arith in
    record {
      session = m;
      said = w.said;
      place = t.place;
      whole = w.whole ∙ (λ i. record { session = m; sent = w.said; place = z i });
      keeps = k.0;
      wrote = rw k.1 w.wrote;
    }
