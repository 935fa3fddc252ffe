use Rattle.std.proofs.Common.{List, take}
use Rattle.rm_machine.specs.Lists.{IsListed}
use Rattle.rm_report.specs.declared.line.Line.{Line}
use Rattle.rm_verify.proofs.Growing.{Has}
use Rattle.rm_step_tell.proofs.listing.all_listed.Given as goal

abbrev pub invariant-loop-row : goal.invariant-loop-row
invariant-loop-row l = Has (List Line) (IsListed (take l.row-index l.records) l.class) l.list
