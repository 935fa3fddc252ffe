use Rattle.std.proofs.Common.{◌≡◌, ◌<◌, ℕ, take, length, slice_index_or}
use Rattle.rm_plan.specs.Entries.{after_logs, no_entry}
use Rattle.rm_plan.proofs.entry.note_logs.Given as goal

abbrev pub invariant-loop-log : goal.invariant-loop-log
invariant-loop-log l = record {
  len : length l.entries.items ≡ length l.fn.entries.items;
  each : (b : ℕ) → b < length l.fn.entries.items → slice_index_or l.entries.items b no_entry ≡ after_logs l.ways l.file b (slice_index_or l.fn.entries.items b no_entry) (take l.log-index l.logs);
}
