use Rattle.std.proofs.Common.{◌≡◌, ◌+◌, ◌++◌, drop}
use Rattle.rm_catalog_typed.specs.Ledger.{switch_record, numbered}
use Rattle.rm_catalog_typed.proofs.telling.tell_switches.Given as goal

abbrev pub invariant-loop-switch : goal.invariant-loop-switch
invariant-loop-switch l = record {
  next : l.id ≡ 1 + l.switch-index;
  told : l.records.items ++ numbered switch_record l.id (drop l.switch-index l.switches) ≡ l.fn.records.items ++ numbered switch_record 1 l.switches;
}
