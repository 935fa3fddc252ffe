use Rattle.std.proofs.Common.{◌≡◌, ◌<◌, ℕ, take, fold, length, slice_index_or}
use Rattle.rm_plan.specs.Entries.{after_record, no_entry}
use Rattle.rm_plan.proofs.entry.note_log.Given as goal

abbrev pub invariant-loop-change : goal.invariant-loop-change
invariant-loop-change l = record {
  len : length l.entries.items ≡ length l.fn.entries.items;
  each : (b : ℕ) → b < length l.fn.entries.items → slice_index_or l.entries.items b no_entry ≡ fold (after_record l.way l.file b) (slice_index_or l.fn.entries.items b no_entry) (take l.change-index l.records);
}
