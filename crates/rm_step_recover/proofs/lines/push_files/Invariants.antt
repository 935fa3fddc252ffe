use Rattle.std.proofs.Common.{◌≡◌, ◌++◌, drop}
use Rattle.rm_machine.specs.{RecoverTest.{files_lines}, State.{world}}
use Rattle.rm_step_recover.proofs.lines.push_files.Given as goal

abbrev pub invariant-loop-file : goal.invariant-loop-file
invariant-loop-file l = l.lines ++ files_lines (world l.state) (drop l.file-index l.files) ≡ l.fn.lines ++ files_lines (world l.state) l.files
