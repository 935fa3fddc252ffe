use Rattle.std.proofs.Common.{◌≡◌, take}
use Rattle.rm_merge.specs.Merge.{merged_rows}
use Rattle.rm_merge.proofs.merging.merged_rows.Given as goal

abbrev pub invariant-loop-new : goal.invariant-loop-new
invariant-loop-new l = l.rows.items ≡ merged_rows l.fn.copy.items (take l.new-index l.level1)
