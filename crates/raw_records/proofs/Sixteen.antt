-- Each record that bytes hold has sixteen address bytes.
use Prim.Native.Nat.{ℕ, zero, suc, ◌*◌, ◌/◌, ◌≤◌}
use native.Mathlib.Omega.{arith}
use mathlib.Core.Path.{◌≡◌, ap, ◌∙◌}
use mathlib.Core.Logic.{◌⊎◌, inl, inr}
use mathlib.Core.Bool.{Bool, true, false, cond, ◌||◌}
use mathlib.Core.List.Memᴰ
use mathlib.Core.List.{List, [], ◌∷◌, ◌++◌, Memᴰ}
use lib.Dec.{eqb}
use lib.ListN.{length, drop, length-drop}
use lib.Seq.{length-take-le}
use Rattle.protocol.specs.declared.Record.{Record}
use Rattle.protocol.specs.Opening.{Sixteen}
use Rattle.raw_numbers.specs.Numbers.{family_of}
use Rattle.raw_records.specs.Records.{record_in, records_from, records_in}

one_more : (q : Record) (rs : List Record) → length q.address ≡ 16 → Sixteen rs → (b : Bool) → Sixteen (cond b (q ∷ []) [] ++ rs)
one_more q rs l later true r m = go (Memᴰ.cases_cons m)
  where
    go : (r ≡ q) ⊎ Memᴰ r rs → length r.address ≡ 16
    go (inl e) = ap (λ (x : Record). length x.address) e ∙ l
    go (inr m) = later r m
one_more q rs l later false r m = later r m

sixteen_from : (n : ℕ) (bs : List ℕ) → n * 17 ≤ length bs → Sixteen (records_from n bs)
unfolding records_from record_in
sixteen_from zero bs h = λ r m. absurd (Memᴰ.not-nil m)
sixteen_from (suc n) [] h = absurd (omega arith)
sixteen_from (suc n) (b ∷ bs) h =
    one_more (record { family = family_of b; address = _ }) _ (length-take-le 16 bs (omega arith))
    (sixteen_from n (drop 16 bs) (omega (arith, length-drop 16 bs))) (eqb b 1 || eqb b 4)

pub sixteen : (bs : List ℕ) → Sixteen (records_in bs)
unfolding records_in
sixteen bs = sixteen_from (length bs / 17) bs (omega arith)
