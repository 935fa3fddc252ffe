use Rattle.std.{specs.Option.{option_copied}, proofs.Common.{take}}
use Rattle.rm_backup.specs.{Looking.{TellsFirst}, Parents.{MayBeParent, among}}
use Rattle.rm_backup.proofs.parents.last.Given as goal

abbrev pub invariant-loop-row : goal.invariant-loop-row
invariant-loop-row l = TellsFirst (MayBeParent l.catalog l.file l.cumulative (option_copied l.tag)) (among (option_copied l.tag) (take l.row-index l.records)) l.best
