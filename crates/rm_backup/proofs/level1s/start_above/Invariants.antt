use Rattle.std.proofs.Common.{take}
use Rattle.rm_backup.specs.Level1s.{StartAbove}
use Rattle.rm_backup.proofs.level1s.start_above.Given as goal

abbrev pub invariant-loop-row : goal.invariant-loop-row
invariant-loop-row l = StartAbove (take l.row-index l.records) l.file l.tag l.checkpoint l.found.items
