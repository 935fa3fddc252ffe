use Rattle.std.proofs.Common.{◌≡◌, take}
use Rattle.rm_machine.specs.Recovery.{skipped_lines}
use Rattle.rm_machine.proofs.replies.skipped_lines.Given as goal

abbrev pub invariant-loop-id : goal.invariant-loop-id
invariant-loop-id l = l.lines ≡ skipped_lines (take l.id-index l.skipped)
