use Rattle.std.proofs.Common.{◌≡◌, ◌++◌, drop}
use Rattle.rm_tool_standby.specs.Done.{dump_lines, members_lines}
use Rattle.rm_tool_standby.proofs.telling.dump_lines.Given as goal

abbrev pub invariant-loop-member : goal.invariant-loop-member
invariant-loop-member l = l.lines ++ members_lines (drop l.member-index l.standby.members) ≡ dump_lines l.standby
