use Rattle.std.proofs.Common.{◌≡◌, ◌++◌, map, take}
use Rattle.rm_catalog.specs.declared.record.Record.TheVariants as kind
use Rattle.rm_catalog_typed.proofs.telling.tell_logs.Given as goal

abbrev pub invariant-loop-log : goal.invariant-loop-log
invariant-loop-log l = l.records.items ≡ l.fn.records.items ++ map kind.Log (take l.log-index l.logs)
