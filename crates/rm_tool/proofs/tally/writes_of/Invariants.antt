use Rattle.std.proofs.Common.{◌≡◌, take, sum_by}
use Rattle.rm_tool.specs.Drill.{capped, writes_in}
use Rattle.rm_tool.proofs.tally.writes_of.Given as goal

abbrev pub invariant-loop-line : goal.invariant-loop-line
invariant-loop-line l = l.writes ≡ capped (sum_by writes_in (take l.line-index l.lines))
