use Rattle.std.proofs.Common.{◌+◌, ◌*◌, ◌≤◌, take}
use Rattle.address_format.specs.groups.Groups.{behind_mark}
use Rattle.address_format.specs.numerals.Added.{Adds}
use Rattle.address_format.proofs.groups.put_behind.Given as goal

abbrev pub invariant-loop-value : goal.invariant-loop-value
invariant-loop-value l = (l.end ≤ l.at + 6 * l.value-index) × Adds l.initial.out l.at (behind_mark l.base l.mark (take l.value-index l.values)) l.end l.out
