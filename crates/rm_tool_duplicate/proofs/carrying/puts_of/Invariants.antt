use Rattle.std.{specs.Vec.Iter.{into_iter_items}, proofs.Common.{◌≡◌, ◌++◌, map}}
use Rattle.rm_catalog.specs.declared.record.Edit.TheVariants.{Put}
use Rattle.rm_tool_duplicate.proofs.carrying.puts_of.Given as goal

abbrev pub invariant-loop-entry : goal.invariant-loop-entry
invariant-loop-entry l = l.edits ++ map Put (into_iter_items l.entry-iterator) ≡ map Put l.fn.records
