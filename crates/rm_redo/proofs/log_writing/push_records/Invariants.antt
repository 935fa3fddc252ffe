use Rattle.std.{specs.List.{flat_map}, proofs.Common.{◌≡◌, ◌++◌, take}}
use Rattle.rm_redo.specs.LogFormat.{record_bytes}
use Rattle.rm_redo.proofs.log_writing.push_records.Given as goal

abbrev pub invariant-loop-entry : goal.invariant-loop-entry
invariant-loop-entry l = l.out.items ≡ l.fn.out.items ++ flat_map record_bytes (take l.entry-index l.records)
