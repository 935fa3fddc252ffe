use Rattle.std.proofs.Common.{◌≡◌, drop, map, take}
use Rattle.rm_catalog_typed.specs.Changes.{EditsFollow}
use Rattle.rm_machine.specs.{Sound.{IsSound}, Upkeep.{with_catalog, with_statuses}}
use Rattle.rm_step_upkeep.specs.Lines.{status_line}
use Rattle.rm_step_upkeep.proofs.crosschecking.set_all.Given as goal

abbrev pub invariant-loop-id : goal.invariant-loop-id
invariant-loop-id l = record {
  lines : l.lines ≡ map status_line (take l.id-index l.statuses);
  value : with_catalog l.state (with_statuses (drop l.id-index l.statuses) l.state.catalog) ≡ with_catalog l.fn.state (with_statuses l.statuses l.fn.state.catalog);
  edits : EditsFollow l.fn.edits.items l.edits.items l.fn.state.catalog l.state.catalog;
  sound : IsSound l.state;
}
