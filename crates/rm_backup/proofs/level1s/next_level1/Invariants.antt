use Rattle.std.{specs.Option.{option_copied}, proofs.Common.{take}}
use Rattle.rm_backup.specs.Level1s.{IsNext}
use Rattle.rm_backup.proofs.level1s.next_level1.Given as goal

abbrev pub invariant-loop-level1 : goal.invariant-loop-level1
invariant-loop-level1 l = IsNext l.catalog l.file l.tag l.until (take l.level1-index l.level1s) l.copy (option_copied l.best)
