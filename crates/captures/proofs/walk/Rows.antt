-- F-10: a walk over the entries: what is left to do at a place is what there was at the start.
use Prim.Native.Nat.{ℕ}
use mathlib.Core.Path.{◌≡◌, refl, ap, sym, ◌∙◌}
use mathlib.Core.Bool.{Bool, true, false, ◌&&◌}
use mathlib.Core.List.{List, []}
use lib.ListN.{take, replicate}
use lib.Seq.{length-take-le}
use lib.Dec.{eqb}
use Rattle.std.specs.Prelude.{None, Some}
use Rattle.client_session.specs.declared.Session.{Session}
use Rattle.client_session.specs.declared.Started.{Started}
use Rattle.client_session.specs.Session.{outcome}
use Rattle.client_session.specs.Calls.{start, StartResult}
use Rattle.captures_spec.specs.declared.Direction.{Direction}
use Rattle.captures_spec.specs.Captures.{Entry, entry}
use Rattle.captures_spec.specs.Reading.{ahead, row_of}
use Rattle.captures.specs.declared.walk.Course.{Course}
use Rattle.captures.specs.Walk.{is_open, walked, held}
use Rattle.captures.specs.Coded.{Fits, carried, Passes}
use Rattle.captures.proofs.entries.Laws.{behind_ahead, row_end}

abbrev pub left : List Entry → Course → List ℕ → Bool
left es c due = walked es c.session (take c.due due) c.sent

-- from what a start returned
pub held_as : (s : Session) (es : List Entry) {r : Started} {due : List ℕ} {b : Bool} → StartResult (start s (replicate 1802 0)) r due
    → b ≡ walked es r.session (take r.sent due) 0 → b ≡ held s es
unfolding held
held_as s es {r} {due} t q = q ∙ (λ i. walked es (t.returned i).session (take (t.returned i).sent (t.output i)) 0)

-- what the rest of a capture tells is what the whole row tells
pub record Walking (capture rest due : List ℕ) (c : Course) (all : List Entry → Bool) : Type 0 where
  pub within : Fits c due
  pub tells : (es : List Entry) → row_of capture ≡ Some es → (fs : List Entry) × (row_of rest ≡ Some fs) × (left fs c due ≡ all es)

pub walking : (capture due : List ℕ) (c : Course) → Fits c due → Walking capture capture due c (λ es. left es c due)
walking capture due c w = record { within = w; tells = λ es e. (es, e, refl) }

module _ {capture rest due : List ℕ} {c : Course} {all : List Entry → Bool} (w : Walking capture rest due c all) where
  module _ {d : Direction} {bs : List ℕ} (behind : List ℕ) (q : row_of rest ≡ ahead (entry d bs) (row_of behind)) where
    passing : {lawful : Bool} {r : Course} {due' : List ℕ} → Passes d bs c due lawful r due' → (es : List Entry) → row_of capture ≡ Some es
        → (fs : List Entry) × (row_of behind ≡ Some fs) × (carried lawful r due' (walked fs) ≡ all es)
    unfolding walked
    passing x es z =
        let (gs, p, t) = w.tells es z in
        let (fs, k, e) = behind_ahead (entry d bs) (row_of behind) gs (sym q ∙ p) in
        (fs, k, sym (x.on (walked fs)) ∙ sym (ap (λ (l : List Entry). left l c due) e) ∙ t)

    pub goes_on : {lawful : Bool} {r : Course} {due' : List ℕ} → lawful ≡ true → Passes d bs c due lawful r due' → Walking capture behind due' r all
    goes_on q x = let y = rw q at x in record { within = y.within refl; tells = passing y }

    pub unlawful : {lawful : Bool} {r : Course} {due' : List ℕ} → lawful ≡ false → Passes d bs c due lawful r due' → (es : List Entry) → row_of capture ≡ Some es → false ≡ all es
    unlawful q x es z = (passing (rw q at x) es z).2

  pub over : ((rest ≡ [] → ⊥) → row_of rest ≡ None) → (es : List Entry) → row_of capture ≡ Some es → (is_open (outcome c.session) && eqb c.sent c.due) ≡ all es
  unfolding walked
  over f es z =
      let (fs, p, t) = w.tells es z in
      let q = row_end rest f fs p in
      ap (λ (n : ℕ). is_open (outcome c.session) && eqb c.sent n) (sym (length-take-le c.due due w.within.0.1))
      ∙ ap (λ (x : List Entry). left x c due) (sym q) ∙ t
