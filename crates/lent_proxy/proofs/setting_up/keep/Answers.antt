use Prim.Native.Nat.{◌%◌}
use native.Mathlib.Omega.{arith}
use mathlib.Core.Path.{sym, ◌∙◌}
use lib.ListN.{length}
use Rattle.buffers.proofs.write.Laws.{wrote_length}
use Rattle.lent_proxy.proofs.Setting.{kept, sets_long}
use Rattle.lent_proxy.proofs.setting_up.keep.Goals as goal

pub copy-requires : goal.copy-requires
copy-requires c =
    let a = c.args in
    omega (arith, sets_long a.s.now 17 (length a.user.now % 256) (length a.password.now % 256) c.requires.0, c.requires.2)

pub copy-requires-2 : goal.copy-requires-2
copy-requires-2 c =
    let a = c.args in
    omega (arith, wrote_length c.copy.ensures, sets_long a.s.now 17 (length a.user.now % 256) (length a.password.now % 256) c.requires.0, c.requires.3)

pub shape_of-s : goal.shape_of-s
shape_of-s c =
    let a = c.args in
    wrote_length c.copy-2.ensures ∙ wrote_length c.copy.ensures ∙ sets_long a.s.now 17 (length a.user.now % 256) (length a.password.now % 256) c.requires.0 ∙ sym c.requires.0

pub returns : goal.returns
returns c =
    let a = c.args in
    let p = c.requires in
    kept a.user.now a.password.now p.1 p.2 p.3 c.copy.ensures c.copy-2.ensures
