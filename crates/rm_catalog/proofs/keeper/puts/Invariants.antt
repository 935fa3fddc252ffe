use Rattle.std.specs.{Prelude.{◌≡◌, ◌++◌, map}, Vec.Iter.{into_iter_items}}
use Rattle.rm_catalog.specs.declared.record.Edit.TheVariants.{Put}
use Rattle.rm_catalog.proofs.keeper.puts.Given as goal

abbrev pub invariant-loop-row : goal.invariant-loop-row
invariant-loop-row l = (l.edits.items ≡ map Put l.yielded) × (l.fn.records.items ≡ l.yielded ++ into_iter_items l.row-iterator)
