use Rattle.std.proofs.Common.{◌≡◌, ◌+◌, ◌++◌, drop}
use Rattle.rm_catalog_typed.specs.Ledger.{mark_record, numbered}
use Rattle.rm_catalog_typed.proofs.telling.tell_marks.Given as goal

abbrev pub invariant-loop-mark : goal.invariant-loop-mark
invariant-loop-mark l = record {
  next : l.id ≡ 1 + l.mark-index;
  told : l.records.items ++ numbered mark_record l.id (drop l.mark-index l.marks) ≡ l.fn.records.items ++ numbered mark_record 1 l.marks;
}
