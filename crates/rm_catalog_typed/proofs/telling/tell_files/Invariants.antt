use Rattle.std.proofs.Common.{◌≡◌, ◌+◌, ◌++◌, drop}
use Rattle.rm_catalog_typed.specs.Ledger.{datafile_record, numbered}
use Rattle.rm_catalog_typed.proofs.telling.tell_files.Given as goal

abbrev pub invariant-loop-file : goal.invariant-loop-file
invariant-loop-file l = record {
  next : l.number ≡ 1 + l.file-index;
  told : l.records.items ++ numbered datafile_record l.number (drop l.file-index l.files) ≡ l.fn.records.items ++ numbered datafile_record 1 l.files;
}
