use mathlib.Core.Path.{◌∙◌}
use Rattle.buffers.proofs.write.Parts.{part_two}
use Rattle.proxy_requests.proofs.unread.Unread.part.Goals as goal

pub returns : goal.returns
returns c =
    let f = c.self.inside in
    c.new.ensures ∙ rw (← c.self.view_is, c.min-3.ensures, ← c.min.ensures, c.min-4.ensures, ← c.min-2.ensures) (part_two f.held.now f.piece.now c.args.begin c.args.end c.min.result c.min-2.result c.requires.0 c.min.ensures c.min-2.ensures)
