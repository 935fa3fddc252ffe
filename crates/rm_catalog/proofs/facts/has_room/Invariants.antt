use Rattle.std.{specs.Prelude.{sum_by}, proofs.Common.{◌≡◌, ◌≤◌, take}}
use Rattle.rm_catalog.specs.Facts.{blocks_to}
use Rattle.rm_catalog.proofs.facts.has_room.Given as goal

abbrev pub invariant-loop-r : goal.invariant-loop-r
invariant-loop-r l = record {
  sum : l.total ≡ sum_by (blocks_to l.file) (take l.r-index l.records);
  small : l.total ≤ 131072;
}
