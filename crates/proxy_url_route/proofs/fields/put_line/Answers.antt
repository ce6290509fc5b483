use borrow.Author.Rules.{rules}
use mathlib.Core.Path.{ap, ◌∙◌}
use Prim.Native.Nat.{◌*◌}
use Rattle.proxy_url.specs.declared.ProxyLine.{ProxyLine}
use Rattle.proxy_url_route.specs.Calls.{proxy_at}
use Rattle.proxy_url_route.proofs.fields.Laws.{user_inside, user_size, password_inside, password_size, rooms, written_line}
use Rattle.proxy_url_route.proofs.fields.put_line.Goals as goal

pub slice_bounds-user-end : goal.slice_bounds-user-end
slice_bounds-user-end c = user_inside _ c.read-read.result c.read-read.ensures

pub slice_bounds-put_fields-end : goal.slice_bounds-put_fields-end
slice_bounds-put_fields-end c = user_size _ c.read-read.result c.read-read.ensures

pub slice_bounds-password-end : goal.slice_bounds-password-end
slice_bounds-password-end c = password_inside _ c.read-read.result c.read-read.ensures

pub slice_bounds-put_fields-end-2 : goal.slice_bounds-put_fields-end-2
slice_bounds-put_fields-end-2 c = password_size _ c.read-read.result c.read-read.ensures

pub put_fields-requires : goal.put_fields-requires
put_fields-requires c =
    (search rules, rooms _ c.read-read.result c.read-read.ensures _ c.host.ensures)

pub returns : goal.returns
returns c =
    let start = c.before.before.before in
    let at = start.args.index * 765 in record { value = c.proxy_at.ensures ∙ ap (λ (r : ProxyLine). proxy_at at r) c.read-read.ensures; buffer_after = written_line _ c.read-read.result c.read-read.ensures at _ _ _ c.host.ensures c.put_fields.ensures }
