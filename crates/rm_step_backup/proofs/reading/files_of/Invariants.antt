use Rattle.std.{specs.Vec.Iter.{into_iter_items}, proofs.Common.{◌≡◌, ◌+◌, ◌++◌, drop, length, vec_len}}
use Rattle.rm_channel.specs.Jobs.{lists}
use Rattle.rm_step_backup.specs.Making.{files_of}
use Rattle.rm_step_backup.proofs.reading.files_of.Given as goal

abbrev pub invariant-loop-rows : goal.invariant-loop-rows
invariant-loop-rows l = record {
  files : l.files.items ++ files_of (drop (vec_len l.files) l.jobs) (lists (into_iter_items l.rows-iterator)) ≡ files_of l.jobs (lists (into_iter_items l.initial.rows-iterator));
  many : vec_len l.files + length (into_iter_items l.rows-iterator) ≡ length l.jobs;
}
