use Rattle.std.{specs.Vec.Iter.{into_iter_items}, proofs.Common.{◌≡◌, ◌++◌, map}}
use Rattle.rm_step_backup.specs.declared.reading.Read.TheVariants.{OfOne}
use Rattle.rm_step_backup.proofs.reading.singles.Given as goal

abbrev pub invariant-loop-file : goal.invariant-loop-file
invariant-loop-file l = l.reads.items ++ map OfOne (into_iter_items l.file-iterator) ≡ map OfOne (into_iter_items l.initial.file-iterator)
