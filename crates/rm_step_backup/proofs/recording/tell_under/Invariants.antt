use Rattle.std.proofs.Common.{◌≡◌, ◌++◌, map, take}
use Rattle.rm_machine.specs.MadePieces.{line_under}
use Rattle.rm_step_backup.proofs.recording.tell_under.Given as goal

abbrev pub invariant-loop-each : goal.invariant-loop-each
invariant-loop-each l = l.lines ≡ l.fn.lines ++ map (line_under l.id) (take l.each-index l.told)
