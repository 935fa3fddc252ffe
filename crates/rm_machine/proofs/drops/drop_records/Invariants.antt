use Rattle.std.proofs.Common.{◌≡◌, drop, map, take}
use Rattle.rm_report.specs.declared.line.Line.TheVariants.{Deleted}
use Rattle.rm_catalog_typed.specs.Changes.{EditsFollow}
use Rattle.rm_machine.specs.Upkeep.{with_catalog, without_all}
use Rattle.rm_machine.proofs.drops.drop_records.Given as goal

abbrev pub invariant-loop-id : goal.invariant-loop-id
invariant-loop-id l = record {
  lines : l.lines ≡ map Deleted (take l.id-index l.ids);
  value : with_catalog l.state (without_all (drop l.id-index l.ids) l.state.catalog) ≡ with_catalog l.fn.state (without_all l.ids l.fn.state.catalog);
  edits : EditsFollow l.fn.edits.items l.edits.items l.fn.state.catalog l.state.catalog;
}
