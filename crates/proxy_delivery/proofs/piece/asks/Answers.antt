use mathlib.Core.List.{◌++◌}
use lib.ListN.{take}
use Rattle.proxy_decisions.specs.decision.Due.{asks_at}
use Rattle.proxy_delivery.specs.turns.Turns.{last_in}
use Rattle.proxy_delivery.proofs.piece.Keeping.{asks_as}
use Rattle.proxy_delivery.proofs.piece.asks.Goals as goal

pub returns : goal.returns
returns c =
    let a = c.args in
    asks_as (asks_at a.turn.last (last_in a.turn (take a.n a.hold.now ++ a.piece.now))) a.turn.stage a.turn.sent c.keep-kept.ensures c.saturating_sub.ensures
