-- The ways that a delivery goes, as the code finds them.
use Prim.Native.Nat.{ℕ, ◌≤◌, ◌<◌, min, zero-le}
use native.Mathlib.Omega.{arith}
use mathlib.Core.Path.{◌≡◌, refl}
use mathlib.Core.List.{List}
use lib.ListN.{length, take}
use Rattle.protocol.specs.declared.SocksError.TheVariants.{ShortOutput, Settled}
use Rattle.std.specs.Prelude.{Ok, Err}
use Rattle.protocol.specs.declared.Bound.{Bound}
use Rattle.buffers.specs.write.Written.{Wrote}
use Rattle.buffers.proofs.write.Laws.{length_overwrite}
use Rattle.buffers.proofs.write.Parts.{take_min}
use Rattle.proxy_spec.specs.declared.Field.{Field}
use Rattle.proxy_spec.specs.declared.Stage.{Stage}
use Rattle.proxy_spec.specs.declared.Stage.TheVariants.{Awaiting}
use Rattle.proxy_spec.specs.End.{Setup}
use Rattle.proxy_delivery.specs.declared.piece.Taken.{Taken}
use Rattle.proxy_delivery.specs.piece.Pieces.{TakeResult}
use Rattle.proxy_delivery.specs.delivery.Received.{untaken, Waits, settled, short, none, taken, ReceiveResult}

take_least : (n : ℕ) (l : List ℕ) {m : ℕ} → length l ≡ 1014 → m ≡ min n 1014 → take m l ≡ take n l
take_least n l h q = rw (q, ← h) (take_min n l)

-- what was written stands in the output
wrote_inside : {out bs out' : List ℕ} {n : ℕ} → Wrote out 0 bs n out' → n ≤ length out'
wrote_inside {out} {bs} w = let i = w.inside in let p = w.place in rw (w.bytes, length_overwrite out 0 bs i) (omega arith)

module _ (held : ℕ) (c : Setup) (hold piece : List ℕ) (x : Bound) (out : List ℕ) where
  pub receives_settled : (stage : Stage) → (Waits stage → ⊥) → ReceiveResult stage held c hold piece x out (Err Settled) hold out
  receives_settled stage z = record { way = settled z refl refl refl; within = tt; inside = tt }

  module _ (f : Field) where
    pub receives_short : length out < 262 → ReceiveResult (Awaiting f) held c hold piece x out (Err ShortOutput) hold out
    receives_short h = record { way = short tt h refl refl refl; within = tt; inside = tt }

    pub receives_none : 262 ≤ length out → length piece ≡ 0 → {t : Taken} → t ≡ untaken (Awaiting f) held x → ReceiveResult (Awaiting f) held c hold piece x out (Ok t) hold out
    receives_none h z q = rw q (record { way = none tt h z refl refl refl; within = zero-le; inside = zero-le })

    -- a piece taken behind held bytes
    pub receives_taken : {m : ℕ} → length hold ≡ 1014 → m ≡ min held 1014 → {t : Taken} {hold' out' : List ℕ} → TakeResult c f (take m hold) piece hold x out t hold' out' → 262 ≤ length out → (length piece ≡ 0 → ⊥)
        → ReceiveResult (Awaiting f) held c hold piece x out (Ok t) hold' out'
    receives_taken l q {t} w h z =
        let e = take_least held hold l q in
        record { way = taken f t refl h z refl (rw e at w); within = w.keeps.within; inside = wrote_inside w.wrote }
