use Rattle.std.{specs.Prelude.{count_by}, proofs.Common.{◌≡◌, ◌≤◌, take}}
use Rattle.rm_catalog.specs.Saved.{is_part_of}
use Rattle.rm_catalog.proofs.saved.is_alone.Given as goal

abbrev pub invariant-loop-r : goal.invariant-loop-r
invariant-loop-r l = record {
  count : l.count ≡ count_by (is_part_of l.p.file l.p.thread) (take l.r-index l.records);
  small : l.count ≤ 1;
}
