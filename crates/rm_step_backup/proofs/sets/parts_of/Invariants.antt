use Rattle.std.proofs.Common.{◌≡◌, map, take}
use Rattle.rm_machine.specs.Backup.{part_of}
use Rattle.rm_step_backup.proofs.sets.parts_of.Given as goal

abbrev pub invariant-loop-member : goal.invariant-loop-member
invariant-loop-member l = l.parts ≡ map part_of (take l.member-index l.members)
