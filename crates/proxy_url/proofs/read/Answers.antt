use mathlib.Core.Path.{sym, ◌∙◌}
use mathlib.Core.Bool.{true, false}
use borrow.Author.Rules.{rules}
use Rattle.proxy_url.proofs.Lines.{none_given, scheme_dies, scheme_inside, rest_inside, rest_dies, host_inside, line_whole}
use Rattle.proxy_url.proofs.read.Goals as goal

pub returns-in-Err : goal.returns-in-Err
returns-in-Err c = c.refused.ensures ∙ scheme_dies c.args.line.now (sym c.read_scheme.ensures ∙ c.in-Err.is)

pub slice_bounds-read_rest-count : goal.slice_bounds-read_rest-count
slice_bounds-read_rest-count c = scheme_inside c.args.line.now (sym c.read_scheme.ensures ∙ c.in-Ok.is)

pub slice_bounds-read_rest-start : goal.slice_bounds-read_rest-start
slice_bounds-read_rest-start c =
    let h = scheme_inside c.args.line.now (sym c.read_scheme.ensures ∙ c.in-Ok.is) in
    search rules

pub overflow_add-at : goal.overflow_add-at
overflow_add-at c =
    let h = rest_inside c.args.line.now (sym c.read_scheme.ensures ∙ c.in-Ok.is) (sym c.read_rest.ensures ∙ c.in-Err-read_rest.is) in
    search rules

pub returns-in-Err-read_rest : goal.returns-in-Err-read_rest
returns-in-Err-read_rest c = c.refused-in-Err-read_rest.ensures ∙ rest_dies c.args.line.now (sym c.read_scheme.ensures ∙ c.in-Ok.is) (sym c.read_rest.ensures ∙ c.in-Err-read_rest.is)

pub overflow_add-read : goal.overflow_add-read
overflow_add-read c =
    let h = host_inside c.args.line.now (sym c.read_scheme.ensures ∙ c.in-Ok.is) (sym c.read_rest.ensures ∙ c.in-Ok-read_rest.is) in
    search rules

pub returns-in-Some : goal.returns-in-Some
returns-in-Some c =
    line_whole c.args.line.now (sym c.read_scheme.ensures ∙ c.in-Ok.is) (sym c.read_rest.ensures ∙ c.in-Ok-read_rest.is) {both = (c.in-Some.user, c.in-Some.password)} {given = true}
    (rw c.in-Some.is) (rw c.in-Some.is)

pub returns-in_default : goal.returns-in_default
returns-in_default c =
    line_whole c.args.line.now (sym c.read_scheme.ensures ∙ c.in-Ok.is) (sym c.read_rest.ensures ∙ c.in-Ok-read_rest.is) {both = none_given} {given = false}
    (rw c.in_default.is) (rw c.in_default.is)
