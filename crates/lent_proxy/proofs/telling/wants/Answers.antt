use native.Mathlib.Omega.{arith}
use mathlib.Core.Path.{refl}
use Rattle.protocol.specs.Bytes.{Bytes}
use Rattle.lent_proxy.proofs.Leaving.{text_few, wants_told}
use Rattle.lent_proxy.proofs.telling.wants.Goals as goal

pub wants-requires : goal.wants-requires
wants-requires c =
    let s = c.args.s.now in
    let bytes : Bytes s = λ i. let h = c.shared_slice_known-1.given i in omega arith in
    record { user = text_few s bytes 5 1029 c.text_at-user.ensures; password = text_few s bytes 6 1284 c.text_at-password.ensures }

pub returns : goal.returns
returns c =
    let s = c.args.s.now in
    let bytes : Bytes s = λ i. let h = c.shared_slice_known-1.given i in omega arith in
    wants_told s c.requires bytes c.eight_at-kept.ensures c.stage_at.ensures c.stage_of-stage.ensures c.text_at-user.ensures c.text_at-password.ensures c.two_at.ensures.0 c.min-end.ensures c.authenticates_at-authenticates.ensures refl c.wants.ensures
