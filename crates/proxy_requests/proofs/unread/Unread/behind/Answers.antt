use Prim.Native.Nat.{◌-◌}
use mathlib.Core.Path.{refl, ◌∙◌}
use Rattle.buffers.proofs.write.Parts.{drop_two, part_from}
use Rattle.std.proofs.lemmas.List.{drop_min}
use Rattle.proxy_requests.proofs.unread.Unread.behind.Goals as goal

pub returns-clause-rest : goal.returns-clause-rest
returns-clause-rest c =
    let f = c.self.inside in
    c.new.ensures
    ∙ rw (← c.self.view_is, drop_two c.args.count f.held.now f.piece.now c.min-first.result c.min-first.ensures, part_from f.held.now c.min-first.result, part_from f.piece.now c.min-second.result, c.min-second.ensures, drop_min (c.args.count - c.min-first.result) f.piece.now) refl

pub returns-clause-bytes : goal.returns-clause-bytes
returns-clause-bytes c = rw (← c.self.view_is) c.self.invariant
