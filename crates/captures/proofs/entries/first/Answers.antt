use Prim.Native.Nat.{◌+◌, ◌*◌}
use native.Mathlib.Omega.{arith}
use mathlib.Core.Path.{◌≡◌, ap, ◌∙◌}
use lib.ListN.{length, take, drop}
use borrow.Author.Tests.{le-leb, lt-leb}
use Rattle.std.proofs.lemmas.List.{take_rest}
use Rattle.protocol.specs.Bytes.{byte}
use Rattle.captures_spec.specs.Reading.{direction_by, length_by}
use Rattle.captures.proofs.entries.Laws.{row_short, past_end, next_entry}
use Rattle.captures.proofs.entries.first.Goals.{then-high-lt128, else-high-lt128}
use Rattle.captures.proofs.entries.first.Goals as goal

pub returns-in_default-clause-none : goal.returns-in_default-clause-none
returns-in_default-clause-none c = row_short c.args.capture.now c.in_default.len_below

pub returns-then-rest-n-clause-none : goal.returns-then-rest-n-clause-none
returns-then-rest-n-clause-none c f =
    let k = c.args.capture.now in
    past_end k c.in-len2-up.len_at_least (omega (arith, c.if-rest-n.true, ap length (take_rest k 2), c.from.ensures, c.from-2.ensures))

pub returns-clause-entry : goal.returns-clause-entry
returns-clause-entry c =
    let k = c.args.capture.now in
    let r = take_rest k 2 in
    let n : c.from.result * 256 + c.from-2.result ≡ length_by (byte k 0) (byte k 1) = omega (arith, c.from.ensures, c.from-2.ensures) in
    next_entry k c.in-len2-up.len_at_least way (omega (arith, c.if-rest-n.false, ap length r, n))
    (c.split_at.ensures.front ∙ (λ i. take (n i) (r i)))
    (c.split_at.ensures.back ∙ (λ i. drop (n i) (r i)))
  where
    way : c.if-high-lt128.direction ≡ direction_by (byte c.args.capture.now 0)
    way =
        elim c.if-high-lt128.branch [
          | then-high-lt128 w ↦ w.direction-is ∙ rw (lt-leb 128 (byte c.args.capture.now 0) w.if-high-lt128.true)
          | else-high-lt128 w ↦ w.direction-is ∙ rw (le-leb 128 (byte c.args.capture.now 0) w.if-high-lt128.false)
        ]
