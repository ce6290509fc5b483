use Prim.Native.Nat.{◌-◌}
use borrow.Rule.Slice.PartMut.{same_len_mid}
use Rattle.captures.proofs.walk.Laws.{received_taken}
use Rattle.captures.proofs.walk.receive.Goals as goal

pub returns : goal.returns
returns c =
    let a = c.args in
    received_taken a.course.now a.piece.now a.due.now c.requires.0 c.told-due c.if-from-gt-REQUESTS.false _ c.deliver-taken.ensures.delivers
    (same_len_mid a.course.now.due (1802 - a.course.now.due) a.due.now c.deliver-taken.new.out c.deliver-taken.auto.out) c.deliver-taken.ensures.typed
