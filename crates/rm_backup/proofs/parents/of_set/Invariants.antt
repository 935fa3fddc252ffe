use Rattle.std.proofs.Common.{None, take, All}
use Rattle.rm_catalog.specs.Keys.{part_piece}
use Rattle.rm_backup.specs.Parents.{MayBeParent}
use Rattle.rm_backup.proofs.parents.of_set.Given as goal

abbrev pub invariant-loop-part : goal.invariant-loop-part
invariant-loop-part l = All (λ p. ¬ MayBeParent l.catalog l.file l.cumulative None (part_piece l.set p)) (take l.part-index l.part-items)
