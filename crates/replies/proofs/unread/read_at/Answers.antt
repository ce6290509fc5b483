use mathlib.Core.Path.{◌≡◌, subst}
use mathlib.Core.List.{List}
use Prim.Native.Nat.{ℕ, ◌≤◌}
use Rattle.protocol.specs.Bytes.{byte}
use Rattle.protocol.specs.Replies.{decide}
use Rattle.replies.proofs.unread.Reading.{unread_parts}
use Rattle.replies.proofs.unread.read_at.Goals as goal

pub returns : goal.returns
returns c =
    let a = c.args in
    subst (λ (l : List ℕ). (c.read_reply.result ≡ decide a.reply l) × (byte l 4 ≤ 255))
    (unread_parts a.held.now a.piece.now a.place c.min-a.result c.min-a.ensures)
    c.read_reply.ensures
