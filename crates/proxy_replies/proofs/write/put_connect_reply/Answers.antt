use mathlib.Core.Path.{◌≡◌, refl}
use lib.ListN.{length}
use Rattle.proxy_replies.proofs.write.Laws.{counted, address_room, port_room, connect_written}
use borrow.Author.Rules.{rules}
use Rattle.proxy_replies.proofs.write.put_connect_reply.Goals as goal

pub slice_bounds-copy-end : goal.slice_bounds-copy-end
slice_bounds-copy-end c =
    let b = c.args.bound in
    let l : length b.address ≡ 16 = search rules in
    counted b.family b.address l c.size_of-n.ensures

pub copy-last-requires : goal.copy-last-requires
copy-last-requires c =
    let b = c.args.bound in
    let l : length b.address ≡ 16 = search rules in
    address_room b.family b.address l c.size_of-n.ensures c.put_two-second.ensures c.put_two-third.ensures refl refl c.requires

pub put_port-requires : goal.put_port-requires
put_port-requires c =
    let b = c.args.bound in
    let l : length b.address ≡ 16 = search rules in
    port_room b.family b.address l c.size_of-n.ensures c.put_two-second.ensures c.put_two-third.ensures c.copy-last.ensures refl refl c.requires

pub returns : goal.returns
returns c =
    let b = c.args.bound in
    let l : length b.address ≡ 16 = search rules in
    connect_written b c.args.status c.args.port l c.size_of-n.ensures c.type_of.ensures c.put_two-second.ensures c.put_two-third.ensures c.copy-last.ensures c.put_port.ensures
