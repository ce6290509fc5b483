use mathlib.Core.Path.{ap, ◌∙◌}
use Rattle.endings_spec.specs.declared.Kind.{Kind}
use Rattle.endings_spec.specs.Streams.{stream_of}
use Rattle.endings.specs.Calls.{produced}
use Rattle.lookup.specs.Chosen.{records_of}
use Rattle.endings.proofs.Prepared.{prepared5}
use Rattle.endings.proofs.place.Laws.{as_call}
use Rattle.endings.proofs.v5.stream_chosen.Goals as goal

pub returns : goal.returns
returns c =
    let a = c.args in
    as_call
    (ap (λ (k : Kind). produced c.prepare_chosen-prepared.result.answer (stream_of k a.wanted) a.buffer.now) c.kind_by.ensures
    ∙ prepared5 (record { config = a.config; host = a.host.now; port = a.port; user = a.user.now; password = a.password.now; records = records_of a.chosen }) a.wanted a.buffer.now c.prepare_chosen-prepared.ensures)
    c.answer_with.ensures
