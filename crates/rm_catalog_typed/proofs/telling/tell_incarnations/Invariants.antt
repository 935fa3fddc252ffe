use Rattle.std.proofs.Common.{◌≡◌, ◌+◌, ◌++◌, drop}
use Rattle.rm_catalog_typed.specs.Ledger.{incarnation_record, numbered}
use Rattle.rm_catalog_typed.proofs.telling.tell_incarnations.Given as goal

abbrev pub invariant-loop-k : goal.invariant-loop-k
invariant-loop-k l = l.records.items ++ numbered incarnation_record (l.k + 1) (drop l.k l.tree) ≡ l.fn.records.items ++ numbered incarnation_record 1 l.tree
