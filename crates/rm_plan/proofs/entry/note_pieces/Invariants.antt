use Rattle.std.proofs.Common.{◌≡◌, ◌<◌, ℕ, take, length, slice_index_or}
use Rattle.rm_plan.specs.Entries.{after_pieces, no_entry}
use Rattle.rm_plan.proofs.entry.note_pieces.Given as goal

abbrev pub invariant-loop-piece : goal.invariant-loop-piece
invariant-loop-piece l = record {
  len : length l.entries.items ≡ length l.fn.entries.items;
  each : (b : ℕ) → b < length l.fn.entries.items → slice_index_or l.entries.items b no_entry ≡ after_pieces l.is_level1 l.ways l.file b (slice_index_or l.fn.entries.items b no_entry) (take l.piece-index l.pieces);
}
