use Rattle.std.proofs.Common.{◌≡◌, ◌*◌, ◌++◌, length, take, drop}
use Rattle.address_format.specs.groups.Groups.{groups_of}
use Rattle.address_format.proofs.groups.groups_of.Given as goal

abbrev pub invariant-loop-i : goal.invariant-loop-i
invariant-loop-i l = (length l.groups ≡ 8) × (take l.i l.groups ++ groups_of (drop (2 * l.i) l.bytes) ≡ groups_of l.bytes)
