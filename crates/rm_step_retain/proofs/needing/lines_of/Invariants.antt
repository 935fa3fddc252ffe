use Rattle.std.proofs.Common.{◌≡◌, map, take}
use Rattle.rm_report.specs.declared.line.Line.TheVariants.{NeedsBackup}
use Rattle.rm_step_retain.proofs.needing.lines_of.Given as goal

abbrev pub invariant-loop-file : goal.invariant-loop-file
invariant-loop-file l = l.lines ≡ map NeedsBackup (take l.file-index l.files)
