use Rattle.std.proofs.Common.{All, take}
use Rattle.rm_report.specs.Reply.{LineHasDate}
use Rattle.rm_report.proofs.dates.has_dates.Given as goal

abbrev pub invariant-loop-line : goal.invariant-loop-line
invariant-loop-line l = All LineHasDate (take l.line-index l.line-items)
