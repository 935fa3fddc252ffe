use Rattle.std.proofs.Common.{◌≡◌}
use Rattle.rm_blocks.specs.File.{created_rows}
use Rattle.rm_blocks.proofs.file.DataFile.empty.Given as goal

abbrev pub invariant-loop-block : goal.invariant-loop-block
invariant-loop-block l = l.rows.items ≡ created_rows l.creation l.block
