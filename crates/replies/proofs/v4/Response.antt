-- Two bytes and then six: where the six came, all eight came, and the place stands behind them; else the bytes end before.
use mathlib.Core.Path.{◌≡◌, ap, ◌∙◌}
use mathlib.Core.Bool.{true, false}
use mathlib.Core.List.{List}
use Prim.Native.Nat.{ℕ, ◌+◌, ◌≤◌, ◌<◌}
use native.Mathlib.Omega.{arith}
use lib.ListN.{length}
use Rattle.protocol.specs.Bytes.{byte}
use Rattle.reader.specs.declared.Passed.{Passed}
use Rattle.reader.specs.declared.Two.{Two}
use Rattle.reader.specs.Reader.{bytes_at, two_at}
use Rattle.reader.proofs.Came.{CameTwo, byte_stands, byte_near, bytes_came, bytes_short, a, b, second_place, third_place}

abbrev pub joined : Two → Passed → Two
joined p r = record { first = p.first; second = p.second; came = r.came; at = r.at }

module _ (s : List ℕ) (at : ℕ) (p : Two) (e : p ≡ two_at s at) where
  reached : p.at ≡ b s at
  unfolding two_at
  reached = ap (λ (x : Two). x.at) e

  pub near : p.at ≤ at + 2
  near =
      let k = reached in
      let i = byte_near s at in
      let j = byte_near s (a s at) in
      omega arith

  module _ (r : Passed) (f : r ≡ bytes_at s p.at 6) where
    pub response_came : r.came ≡ true → CameTwo s at 8 (joined p r)
    unfolding two_at
    response_came t =
        let k = reached in
        let g = bytes_came s p.at 6 r f t in
        let h : b s at < length s = omega arith in
        let i = third_place s at h in
        let j = second_place s at i.0 in
        record {
          inside = omega arith;
          first = ap (λ (x : Two). x.first) e ∙ byte_stands s at;
          second = ap (λ (x : Two). x.second) e ∙ (byte_stands s (a s at) ∙ ap (byte s) j.1);
          place = omega arith;
        }

    pub response_short : r.came ≡ false → length s < at + 8
    response_short t =
        let h = bytes_short s p.at 6 r f t in
        let n = near in
        omega arith
