use Rattle.std.proofs.Common.{◌≡◌, ◌++◌, length, map}
use Rattle.rm_machine.specs.Backup.{cut}
use Rattle.rm_step_backup.specs.declared.reading.Read.TheVariants.{OfSeveral}
use Rattle.rm_step_backup.proofs.reading.groups.Given as goal

abbrev pub invariant-loop-left : goal.invariant-loop-left
invariant-loop-left l = l.reads.items ++ map OfSeveral (cut (length l.left.items) l.most l.left.items) ≡ map OfSeveral (cut (length l.fn.files.items) l.most l.fn.files.items)

abbrev pub decreases-loop-left : goal.decreases-loop-left
decreases-loop-left l = length l.left.items
