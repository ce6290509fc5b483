use lib.Dec.{eqb}
use Rattle.std.proofs.lemmas.List.Folds.{list_any-append}
use Rattle.proxy_requests.proofs.unread.Unread.contains.Goals as goal

pub returns-then-contains : goal.returns-then-contains
returns-then-contains c =
    let f = c.self.inside in
    rw (← c.self.view_is, list_any-append (λ x. eqb x c.args.b) f.held.now f.piece.now, ← c.if-contains.ensures.value) c.if-contains.true

pub returns-else-contains : goal.returns-else-contains
returns-else-contains c =
    let f = c.self.inside in
    rw (← c.self.view_is, list_any-append (λ x. eqb x c.args.b) f.held.now f.piece.now, ← c.if-contains.ensures.value) c.contains-else-contains.ensures.value
