use Rattle.lent_texts.specs.Texts.{unknown_error, error_texts, unassigned, texts5, texts4}
use Rattle.lent_texts.specs.Table.{texts}
use Rattle.lent_texts.proofs.Laws.{joined, all, starts, places, part_starts, part_ends, part_fits, copied}
use Rattle.lent_texts.proofs.text.Goals as goal

pub slice_bounds-copy-start : goal.slice_bounds-copy-start
unfolding places starts texts unknown_error error_texts unassigned texts5 texts4
slice_bounds-copy-start c = part_starts c.args.which c.requires.which_bound

pub slice_bounds-copy-count : goal.slice_bounds-copy-count
unfolding places starts texts unknown_error error_texts unassigned texts5 texts4
slice_bounds-copy-count c = part_starts c.args.which c.requires.which_bound

pub slice_bounds-copy-end : goal.slice_bounds-copy-end
unfolding places starts all joined texts unknown_error error_texts unassigned texts5 texts4
slice_bounds-copy-end c = part_ends c.args.which c.requires.which_bound

pub copy-requires : goal.copy-requires
unfolding places starts all joined texts unknown_error error_texts unassigned texts5 texts4
copy-requires c = part_fits c.args.which c.requires.which_bound c.requires.in_bounds

pub returns : goal.returns
unfolding places starts all joined texts unknown_error error_texts unassigned texts5 texts4
returns c =
    copied c.args.which c.requires.which_bound c.copy.ensures
