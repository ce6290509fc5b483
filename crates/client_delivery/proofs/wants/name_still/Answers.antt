use Rattle.std.proofs.Common.{◌≡◌, ◌+◌, ◌≤◌, rules}
use Rattle.protocol.specs.Bytes.{byte}
use Rattle.client_delivery.proofs.wants.Ways.{name_read}
use Rattle.client_delivery.proofs.wants.name_still.Goals as goal

pub returns : goal.returns
returns c =
    let e : 5 + c.from-end.result ≡ 5 + byte c.args.held.now 4 = search rules in
    let f : 5 + c.from-end.result ≤ 260 = search rules in
    name_read c.args.held.now (e, f) c.requires c.min-to.ensures c.scanned-state.ensures c.ends_within.ensures
