use Rattle.std.proofs.Common.{take}
use Rattle.rm_backup.specs.{Looking.{TellsFirst}, Records.{pieces}, Taken.{MayBeTaken}}
use Rattle.rm_backup.proofs.copies.last_copy.Given as goal

abbrev pub invariant-loop-row : goal.invariant-loop-row
invariant-loop-row l = TellsFirst (MayBeTaken l.catalog l.file l.tag) (pieces (take l.row-index l.records)) l.best
