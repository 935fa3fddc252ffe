use Rattle.std.{specs.Vec.{vec_len, vec_capacity, Iter.{into_iter_items, into_iter_len}}, proofs.Common.{◌≡◌, ◌+◌, ◌≤◌, length, reverse}}
use Rattle.rm_catalog.{specs.Edits.{after_edits}, proofs.Passing.{Stands}}
use Rattle.rm_catalog.proofs.edits.merge.Given as goal

abbrev pub invariant-loop-row : goal.invariant-loop-row
invariant-loop-row l = record {
  len : into_iter_len l.row-iterator ≡ length (into_iter_items l.row-iterator);
  stands : Stands l.to.items (reverse l.edits.items) (into_iter_items l.row-iterator) (after_edits (reverse l.fn.edits.items) l.fn.records.items);
  room : vec_len l.to + into_iter_len l.row-iterator + vec_len l.edits ≤ vec_capacity l.to;
}
