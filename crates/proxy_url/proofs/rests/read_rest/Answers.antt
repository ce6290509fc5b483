use Prim.Native.Nat.{max}
use mathlib.Core.Path.{◌≡◌, sym, ap, ◌∙◌}
use borrow.Author.Rules.{rules}
use Rattle.std.specs.Prelude.{Err}
use Rattle.proxy_url.proofs.rests.Laws.{later, later_whole, plain_whole, plain_dies, with_later}
use Rattle.proxy_url.proofs.rests.read_rest.Goals as goal

pub returns-in-Ok : goal.returns-in-Ok
returns-in-Ok c = plain_whole c.args.text.now c.args.version (sym c.read_endpoint.ensures ∙ c.in-Ok.is)

pub returns-in-V4 : goal.returns-in-V4
returns-in-V4 c = plain_dies c.args.text.now (sym c.read_endpoint.ensures ∙ c.in-Err.is) c.in-V4.is

pub returns-in-Err-read_with_credentials : goal.returns-in-Err-read_with_credentials
returns-in-Err-read_with_credentials c =
    let m : c.max.result ≡ max c.in-Err.place c.in-Err-read_with_credentials.with = search rules in
    ap Err m ∙ ap (later c.in-Err.place) (sym c.in-Err-read_with_credentials.is ∙ c.read_with_credentials.ensures)
    ∙ with_later c.args.text.now (sym c.read_endpoint.ensures ∙ c.in-Err.is) c.in-V5.is

pub returns-in_default : goal.returns-in_default
returns-in_default c =
    sym (later_whole c.in-Err.place c.read_with_credentials.result c.in_default.not-Err) ∙ ap (later c.in-Err.place) c.read_with_credentials.ensures
    ∙ with_later c.args.text.now (sym c.read_endpoint.ensures ∙ c.in-Err.is) c.in-V5.is
