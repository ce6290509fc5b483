use mathlib.Core.Path.{◌≡◌, sym, ◌∙◌}
use borrow.Author.Rules.{rules}
use Rattle.std.specs.Prelude.{Ok, Err}
use Rattle.proxy_url.proofs.rests.Laws.{user_dies, user_inside, password_inside, password_dies, behind_inside, endpoint_inside, endpoint_dies, host_inside, with_whole}
use Rattle.proxy_url.proofs.rests.read_with_credentials.Goals as goal

pub returns-in_err-user : goal.returns-in_err-user
returns-in_err-user c =
    let e : c.read_credential.result ≡ Err c.in_err-user.field-0.0 = search rules in
    let r : c.from_residual.result ≡ Err c.in_err-user.field-0.0 = search rules in
    r ∙ user_dies c.args.text.now (sym c.read_credential.ensures ∙ e)

pub slice_bounds-behind_user-count : goal.slice_bounds-behind_user-count
slice_bounds-behind_user-count c =
    let e : c.read_credential.result ≡ Ok (c.in_ok-user.user, c.in_ok-user.at) = search rules in
    user_inside c.args.text.now (sym c.read_credential.ensures ∙ e)

pub slice_bounds-behind_user-start : goal.slice_bounds-behind_user-start
slice_bounds-behind_user-start c =
    let e : c.read_credential.result ≡ Ok (c.in_ok-user.user, c.in_ok-user.at) = search rules in
    let h = user_inside c.args.text.now (sym c.read_credential.ensures ∙ e) in
    search rules

pub overflow_add-result : goal.overflow_add-result
overflow_add-result c =
    let e : c.read_credential.result ≡ Ok (c.in_ok-user.user, c.in_ok-user.at) = search rules in
    let h = password_inside c.args.text.now (sym c.read_credential.ensures ∙ e) (sym c.read_credential-2.ensures ∙ c.in-Err.is) in
    search rules

pub returns-in-Err : goal.returns-in-Err
returns-in-Err c =
    let e : c.read_credential.result ≡ Ok (c.in_ok-user.user, c.in_ok-user.at) = search rules in
    password_dies c.args.text.now (sym c.read_credential.ensures ∙ e) (sym c.read_credential-2.ensures ∙ c.in-Err.is)

pub slice_bounds-read_endpoint-count : goal.slice_bounds-read_endpoint-count
slice_bounds-read_endpoint-count c =
    let e : c.read_credential.result ≡ Ok (c.in_ok-user.user, c.in_ok-user.at) = search rules in
    behind_inside c.args.text.now (sym c.read_credential.ensures ∙ e) (sym c.read_credential-2.ensures ∙ c.in-Ok.is)

pub slice_bounds-read_endpoint-start : goal.slice_bounds-read_endpoint-start
slice_bounds-read_endpoint-start c =
    let e : c.read_credential.result ≡ Ok (c.in_ok-user.user, c.in_ok-user.at) = search rules in
    let h = behind_inside c.args.text.now (sym c.read_credential.ensures ∙ e) (sym c.read_credential-2.ensures ∙ c.in-Ok.is) in
    search rules

pub overflow_add-result-in-Err-read_endpoint : goal.overflow_add-result-in-Err-read_endpoint
overflow_add-result-in-Err-read_endpoint c =
    let e : c.read_credential.result ≡ Ok (c.in_ok-user.user, c.in_ok-user.at) = search rules in
    let h = endpoint_inside c.args.text.now (sym c.read_credential.ensures ∙ e) (sym c.read_credential-2.ensures ∙ c.in-Ok.is) (sym c.read_endpoint.ensures ∙ c.in-Err-read_endpoint.is) in
    search rules

pub overflow_add-result-in-Err-read_endpoint-2 : goal.overflow_add-result-in-Err-read_endpoint-2
overflow_add-result-in-Err-read_endpoint-2 c =
    let e : c.read_credential.result ≡ Ok (c.in_ok-user.user, c.in_ok-user.at) = search rules in
    let h = endpoint_inside c.args.text.now (sym c.read_credential.ensures ∙ e) (sym c.read_credential-2.ensures ∙ c.in-Ok.is) (sym c.read_endpoint.ensures ∙ c.in-Err-read_endpoint.is) in
    search rules

pub returns-in-Err-read_endpoint : goal.returns-in-Err-read_endpoint
returns-in-Err-read_endpoint c =
    let e : c.read_credential.result ≡ Ok (c.in_ok-user.user, c.in_ok-user.at) = search rules in
    endpoint_dies c.args.text.now (sym c.read_credential.ensures ∙ e) (sym c.read_credential-2.ensures ∙ c.in-Ok.is) (sym c.read_endpoint.ensures ∙ c.in-Err-read_endpoint.is)

pub overflow_add-host : goal.overflow_add-host
overflow_add-host c =
    let e : c.read_credential.result ≡ Ok (c.in_ok-user.user, c.in_ok-user.at) = search rules in
    let h = host_inside c.args.text.now (sym c.read_credential.ensures ∙ e) (sym c.read_credential-2.ensures ∙ c.in-Ok.is) (sym c.read_endpoint.ensures ∙ c.in-Ok-read_endpoint.is) in
    search rules

pub overflow_add-host-2 : goal.overflow_add-host-2
overflow_add-host-2 c =
    let e : c.read_credential.result ≡ Ok (c.in_ok-user.user, c.in_ok-user.at) = search rules in
    let h = host_inside c.args.text.now (sym c.read_credential.ensures ∙ e) (sym c.read_credential-2.ensures ∙ c.in-Ok.is) (sym c.read_endpoint.ensures ∙ c.in-Ok-read_endpoint.is) in
    search rules

pub returns : goal.returns
returns c =
    let e : c.read_credential.result ≡ Ok (c.in_ok-user.user, c.in_ok-user.at) = search rules in
    with_whole c.args.text.now (sym c.read_credential.ensures ∙ e) (sym c.read_credential-2.ensures ∙ c.in-Ok.is) (sym c.read_endpoint.ensures ∙ c.in-Ok-read_endpoint.is)
