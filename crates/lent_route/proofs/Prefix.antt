-- The first 1,306 bytes mean the session that all of them mean, but for the bytes behind its hold.
use Prim.Native.Nat.{ℕ, ◌+◌, ◌-◌, ◌≤◌, ◌<◌}
use native.Mathlib.Omega.{arith}
use mathlib.Core.Path.{◌≡◌, ap, ◌∙◌}
use mathlib.Core.List.{List}
use lib.ListN.{length, take, drop}
use lib.Seq.{take-take, get_or-take, length-take-le}
use Rattle.protocol.specs.Bytes.{byte}
use Rattle.protocol.proofs.Named.{drop_first}
use Rattle.lent_numbers.specs.bytes.Numbers.{number}
use Rattle.lent_session.specs.State.{two_at, stage_at, kind_at, session_at}
use lib.Dec.{eqb}
use Rattle.lent_route.proofs.Writing.{keeping}
use Prim.Native.Nat.{◌/◌, ◌%◌}

module _ (s : List ℕ) (l : 1306 ≤ length s) where
  same_byte : (k : ℕ) → k < 1306 → byte (take 1306 s) k ≡ byte s k
  same_byte k h = get_or-take 1306 s k 0 h

  same_part : (k m : ℕ) → k + m ≤ 1306 → take m (drop k (take 1306 s)) ≡ take m (drop k s)
  same_part k m h = ap (take m) (drop_first 1306 s l k (omega arith)) ∙ take-take m (1306 - k) (drop k s) (omega arith)

  same_two : (k : ℕ) → k + 2 ≤ 1306 → two_at (take 1306 s) k ≡ two_at s k
  same_two k h = ap number (same_part k 2 h)

  pub prefix : session_at (take 1306 s) ≡ keeping (session_at s) (take 1024 (drop 282 s))
  prefix =
      let code = same_byte 18 (omega arith) in
      let error = same_byte 19 (omega arith) in
      let status = same_byte 20 (omega arith) in
      λ i. record {
        stage = stage_at (code i) (error i) (status i);
        started = eqb (code i / 8 % 2) 1;
        held = same_two 8 (omega arith) i;
        hold = same_part 21 261 (omega arith) i;
        bound = record { kind = kind_at (code i); port = same_two 16 (omega arith) i };
        attempts = number (take-take 8 1306 s (omega arith) i);
        requests = record {
          lengths = record { optimistic = eqb (code i / 16 % 2) 1; first = same_two 10 (omega arith) i; authentication = same_two 12 (omega arith) i; proxy = same_two 14 (omega arith) i };
          bytes = drop_first 1306 s l 282 (omega arith) i;
        };
      }

pub first_long : (s : List ℕ) → length s ≡ 8538 → length (take 1306 s) ≡ 1306
first_long s l = length-take-le 1306 s (omega (arith, l))
