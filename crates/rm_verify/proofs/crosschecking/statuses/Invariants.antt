use Rattle.std.proofs.Common.{take}
use Rattle.rm_base.specs.declared.kinds.Status.{Status}
use Rattle.rm_verify.{specs.Crosscheck.{IsChecked, is_among}, proofs.Growing.{Has}}
use Rattle.rm_verify.proofs.crosschecking.statuses.Given as goal

abbrev pub invariant-loop-row : goal.invariant-loop-row
invariant-loop-row l = Has Status (IsChecked (is_among l.names) (take l.row-index l.records) l.class) l.list
