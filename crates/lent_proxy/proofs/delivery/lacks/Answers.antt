use Rattle.std.proofs.Common.{refl, sym, ◌∙◌, ◌/◌, ◌%◌, ◌++◌}
use Rattle.lent_proxy.specs.State.{field_of, ports_of}
use Rattle.lent_proxy.proofs.delivery.Texts.{untold, lacks_by, lacks_address, lacks_request, lacks_user_id, lacks_name}
use Rattle.lent_proxy.proofs.delivery.lacks.Goals as goal

pub returns-in-2 : goal.returns-in-2
unfolding field_of
returns-in-2 c e =
    let a = c.args in
    lacks_by a.n 2 a.kept (a.held.now ++ a.piece.now) c.in-2.is refl (sym (rw c.new-bytes.ensures at c.read_methods.ensures) ∙ untold c.read_methods.result c.is_none.ensures e)

pub returns-in-3 : goal.returns-in-3
unfolding field_of
returns-in-3 c e =
    let a = c.args in
    lacks_by a.n 3 a.kept (a.held.now ++ a.piece.now) c.in-3.is refl (sym (rw c.new-bytes.ensures at c.read_user.ensures) ∙ untold c.read_user.result c.is_none-in-3.ensures e)

pub returns-in-4 : goal.returns-in-4
unfolding field_of
returns-in-4 c e =
    let a = c.args in
    lacks_by a.n 4 a.kept (a.held.now ++ a.piece.now) c.in-4.is refl (sym (rw c.new-bytes.ensures at c.read_password.ensures) ∙ untold c.read_password.result c.is_none-in-4.ensures e)

pub returns-in-5 : goal.returns-in-5
unfolding field_of
returns-in-5 c e =
    let a = c.args in
    lacks_by a.n 5 a.kept (a.held.now ++ a.piece.now) c.in-5.is refl (sym (rw c.new-bytes.ensures at c.read_password-in-5.ensures) ∙ untold c.read_password-in-5.result c.is_none-in-5.ensures e)

pub returns-in-6 : goal.returns-in-6
unfolding field_of
returns-in-6 c e =
    let a = c.args in
    lacks_by a.n 6 a.kept (a.held.now ++ a.piece.now) c.in-6.is refl (sym (rw c.new-bytes.ensures at c.read_head.ensures) ∙ untold c.read_head.result c.is_none-in-6.ensures e)

pub returns-in-7 : goal.returns-in-7
unfolding field_of
returns-in-7 c e =
    let a = c.args in
    let bs = a.held.now ++ a.piece.now in
    lacks_by a.n 7 a.kept bs c.in-7.is refl (lacks_address (a.kept % 256) (a.kept / 256 % 256) bs c.low.ensures (rw c.new-bytes.ensures at c.read_address.ensures) (untold c.read_address.result c.is_none-in-7.ensures e))

pub returns-in-8 : goal.returns-in-8
unfolding field_of
returns-in-8 c e =
    let a = c.args in
    lacks_by a.n 8 a.kept (a.held.now ++ a.piece.now) c.in-8.is refl (lacks_request a.held.now a.piece.now e)

pub returns-in-9 : goal.returns-in-9
unfolding field_of
returns-in-9 c e =
    let a = c.args in
    let bs = a.held.now ++ a.piece.now in
    lacks_by a.n 9 a.kept bs c.in-9.is refl (lacks_user_id (ports_of a.kept) bs (c.goes_on.ensures e))

pub returns-in-10 : goal.returns-in-10
unfolding field_of
returns-in-10 c e =
    let a = c.args in
    let bs = a.held.now ++ a.piece.now in
    lacks_by a.n 10 a.kept bs c.in-10.is refl (lacks_name (ports_of a.kept) bs (c.goes_on-in-10.ensures e))
