use Rattle.std.proofs.Common.{◌≡◌, ◌<◌, ℕ, take, fold, length, slice_index_or}
use Rattle.rm_plan.specs.Entries.{after_row, no_entry}
use Rattle.rm_plan.proofs.entry.note_rows.Given as goal

abbrev pub invariant-loop-row : goal.invariant-loop-row
invariant-loop-row l = record {
  len : length l.entries.items ≡ length l.fn.entries.items;
  each : (b : ℕ) → b < length l.fn.entries.items → slice_index_or l.entries.items b no_entry ≡ fold (after_row l.has_looked l.end l.checkpoint b) (slice_index_or l.fn.entries.items b no_entry) (take l.row-index l.rows);
}
