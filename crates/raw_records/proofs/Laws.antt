-- The records that bytes hold, and the one that is taken of them, 17 bytes at a time.
use Prim.Native.Nat.{ℕ, suc, ◌+◌, ◌-◌, ◌/◌, ◌≤◌, ◌<◌}
use native.Mathlib.Numerals.{add-one}
use native.Mathlib.Omega.{arith}
use mathlib.Core.Path.{◌≡◌, refl, sym, ◌∙◌}
use mathlib.Core.Bool.{Bool, true, false, cond, not, ◌||◌}
use mathlib.Core.List.{List, [], ◌∷◌, ◌++◌, append-nil}
use lib.Dec.{eqb}
use lib.ListN.{length, take, drop, replicate, length-drop}
use lib.Seq.{drop-cons, drop-drop, length-take-le}
use Rattle.protocol.specs.declared.Family.{Family}
use Rattle.protocol.specs.declared.Family.TheVariants.{Four, Six}
use Rattle.std.specs.Prelude.{Some, None}
use Rattle.protocol.specs.declared.Record.{Record}
use Rattle.protocol.specs.Bytes.{byte}
use Rattle.buffers.specs.write.Written.{Wrote}
use Rattle.buffers.proofs.write.Laws.{zeros_under}
use Rattle.lookup.specs.Chosen.{chosen_of}
use Rattle.raw_numbers.specs.Numbers.{family_of}
use Rattle.raw_records.specs.Records.{record_in, records_from, records_in, chosen_in, serves_number, Placed}

records_none : (bs : List ℕ) → length bs < 17 → records_in bs ≡ []
unfolding records_in records_from
records_none bs h = let z : length bs / 17 ≡ 0 = omega arith in rw z

records_first : (bs : List ℕ) → 17 ≤ length bs → records_in bs ≡ record_in (take 17 bs) ++ records_in (drop 17 bs)
unfolding records_in records_from
records_first bs h = let z : length bs / 17 ≡ suc (length (drop 17 bs) / 17) = omega (arith, length-drop 17 bs) in rw z

-- ---- the one taken

abbrev record_of : ℕ → List ℕ → Record
record_of n address = record { family = family_of n; address = address }

chosen_first : (four : Bool) (n : ℕ) (address : List ℕ) (rs : List Record)
    → chosen_of four (record_in (n ∷ address) ++ rs) ≡ cond (serves_number four n) (Some (record_of n address)) (chosen_of four rs)
unfolding record_in family_of serves_number
chosen_first four n address rs = go four (eqb n 1) (eqb n 4)
  where
    go : (four one six : Bool)
        → chosen_of four (cond (one || six) (record { family = cond six Six Four; address = address } ∷ []) [] ++ rs)
        ≡ cond (cond six (not four) one) (Some (record { family = cond six Six Four; address = address })) (chosen_of four rs)
    go true true true = refl
    go true true false = refl
    go true false true = refl
    go true false false = refl
    go false true true = refl
    go false true false = refl
    go false false true = refl
    go false false false = refl

-- ---- from a place on

module _ (four : Bool) (bs : List ℕ) (at : ℕ) where
  chosen_none : length bs - at < 17 → chosen_in four (drop at bs) ≡ None
  chosen_none h = let l : length (drop at bs) < 17 = rw (length-drop at bs) h in rw (records_none (drop at bs) l)

  module _ (h : 17 ≤ length bs - at) where
    chosen_at : chosen_in four (drop at bs)
        ≡ cond (serves_number four (byte bs at)) (Some (record_of (byte bs at) (take 16 (drop (at + 1) bs)))) (chosen_in four (drop (at + 17) bs))
    chosen_at =
        let l : 17 ≤ length (drop at bs) = rw (length-drop at bs) h in
        let s : drop at bs ≡ byte bs at ∷ drop (at + 1) bs = rw (add-one at) (drop-cons bs at 0 (omega arith)) in
        let t : take 17 (drop at bs) ≡ byte bs at ∷ take 16 (drop (at + 1) bs) = rw s in
        rw (records_first (drop at bs) l, t, drop-drop 17 at bs) (chosen_first four (byte bs at) (take 16 (drop (at + 1) bs)) (records_in (drop (at + 17) bs)))

    pub skipped : serves_number four (byte bs at) ≡ false → chosen_in four (drop (at + 17) bs) ≡ chosen_in four (drop at bs)
    skipped s = sym (rw s at chosen_at)

  module _ (p : Placed four bs at) where
    pub found_none : length bs - at < 17 → None ≡ chosen_in four bs
    found_none h = sym (chosen_none h) ∙ p.skips

    pub found_at : {f : Family} {address : List ℕ} {next : ℕ} → 17 ≤ length bs - at → Wrote (replicate 16 0) 0 (take (at + 17 - (at + 1)) (drop (at + 1) bs)) next address
        → f ≡ family_of (byte bs at) → Some (record { family = f; address = address }) ≡ chosen_in four bs
    found_at {f} {address} {next} h w e =
        let z : at + 17 - (at + 1) ≡ 16 = omega arith in
        let l : length (take 16 (drop (at + 1) bs)) ≡ 16 = length-take-le 16 (drop (at + 1) bs) (rw (length-drop (at + 1) bs) (omega arith)) in
        let a : address ≡ take 16 (drop (at + 1) bs) = zeros_under 16 (rw z at w) ∙ rw l (append-nil (take 16 (drop (at + 1) bs))) in
        let s = p.serves (omega arith) in
        rw (e, a) (sym (rw s at (chosen_at h)) ∙ p.skips)
