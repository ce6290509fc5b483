use mathlib.Core.Path.{◌≡◌, sym, ◌∙◌}
use borrow.Author.Rules.{rules}
use Rattle.std.specs.Prelude.{Ok, Err}
use Rattle.proxy_url.proofs.endpoints.Laws.{host_dies, host_inside, port_inside, port_dies, endpoint_whole}
use Rattle.proxy_url.proofs.endpoints.read_endpoint.Goals as goal

pub returns-in_err-host : goal.returns-in_err-host
returns-in_err-host c =
    let e : c.read_host.result ≡ Err c.in_err-host.field-0.0 = search rules in
    let r : c.from_residual.result ≡ Err c.in_err-host.field-0.0 = search rules in
    r ∙ host_dies c.args.text.now (sym c.read_host.ensures ∙ e)

pub slice_bounds-read_port-count : goal.slice_bounds-read_port-count
slice_bounds-read_port-count c =
    let e : c.read_host.result ≡ Ok (c.in_ok-host.host, c.in_ok-host.at) = search rules in
    host_inside c.args.text.now (sym c.read_host.ensures ∙ e)

pub slice_bounds-read_port-start : goal.slice_bounds-read_port-start
slice_bounds-read_port-start c =
    let e : c.read_host.result ≡ Ok (c.in_ok-host.host, c.in_ok-host.at) = search rules in
    let h = host_inside c.args.text.now (sym c.read_host.ensures ∙ e) in
    search rules

pub overflow_add-result : goal.overflow_add-result
overflow_add-result c =
    let e : c.read_host.result ≡ Ok (c.in_ok-host.host, c.in_ok-host.at) = search rules in
    let h = port_inside c.args.text.now (sym c.read_host.ensures ∙ e) (sym c.read_port.ensures ∙ c.in-Err.is) in
    search rules

pub returns-in-Err : goal.returns-in-Err
returns-in-Err c =
    let e : c.read_host.result ≡ Ok (c.in_ok-host.host, c.in_ok-host.at) = search rules in
    port_dies c.args.text.now (sym c.read_host.ensures ∙ e) (sym c.read_port.ensures ∙ c.in-Err.is)

pub returns : goal.returns
returns c =
    let e : c.read_host.result ≡ Ok (c.in_ok-host.host, c.in_ok-host.at) = search rules in
    endpoint_whole c.args.text.now (sym c.read_host.ensures ∙ e) (sym c.read_port.ensures ∙ c.in-Ok.is)
