use Rattle.std.specs.List.{AllWithin}
use Rattle.rm_evidence.specs.Known.{FitsLog}
use Rattle.rm_test_plan.proofs.asked.are_logs.Given as goal

abbrev pub invariant-loop-log : goal.invariant-loop-log
invariant-loop-log l = AllWithin (λ x. FitsLog l.tree x.1) l.logs 0 l.log-index
