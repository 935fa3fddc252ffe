use Rattle.std.proofs.Common.{◌≡◌, ◌+◌, ◌++◌, drop, map}
use Rattle.rm_catalog_typed.specs.Ledger.{datafile_record, numbered}
use Rattle.rm_evidence.specs.Database.{world_of}
use Rattle.rm_dup.specs.Copies.{as_first}
use Rattle.rm_dup.proofs.recording.push_files.Given as goal

abbrev pub invariant-loop-file : goal.invariant-loop-file
invariant-loop-file l = record {
  next : l.number ≡ 1 + l.file-index;
  told : l.records.items ++ numbered datafile_record l.number (map (λ x. as_first (world_of l.catalog) x.file) (drop l.file-index l.files)) ≡ l.fn.records.items ++ numbered datafile_record 1 (map (λ x. as_first (world_of l.catalog) x.file) l.files);
}
