use mathlib.Core.Path.{◌≡◌, refl}
use lib.ListN.{length}
use Rattle.proxy_replies.proofs.write.Laws.{four_counted, four_room, request_written}
use borrow.Author.Rules.{rules}
use Rattle.proxy_replies.proofs.write.put_request_reply.Goals.{Start}
use Rattle.proxy_replies.proofs.write.put_request_reply.Goals as goal

sixteen : (c : Start) → length c.args.bound.address ≡ 16
sixteen c = search rules

pub slice_bounds-copy-end : goal.slice_bounds-copy-end
slice_bounds-copy-end c =
    let start = c.before.before.before.before.before.before.before.before.before.before.before.before in
    four_counted start.args.bound (sixteen start) c.four_of-address.ensures

pub copy-requires : goal.copy-requires
copy-requires c =
    let start = c.before.before.before.before.before.before.before.before.before.before.before.before in
    four_room start.args.bound (sixteen start) c.four_of-address.ensures c.put_two-second.ensures c.put_port-third.ensures refl refl start.requires

pub returns : goal.returns
returns c =
    let start = c.before.before.before.before.before.before.before.before.before.before.before.before.before.before.before.before in
    request_written start.args.bound (sixteen start) c.four_of-address.ensures start.args.status start.args.port c.put_two-second.ensures c.put_port-third.ensures c.copy.ensures
