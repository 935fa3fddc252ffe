use Rattle.std.{specs.Vec.Iter.{into_iter_items, into_iter_len}, proofs.Common.{◌≡◌, All, length}}
use Rattle.rm_machine.specs.Recovery.{put_over}
use Rattle.rm_step_recover.specs.Placing.{HasPlace}
use Rattle.rm_step_recover.proofs.placing.put_all.Given as goal

abbrev pub invariant-loop-file : goal.invariant-loop-file
invariant-loop-file l = record {
  over : put_over (into_iter_items l.file-iterator) l.place.items ≡ put_over (into_iter_items l.initial.file-iterator) l.fn.place.items;
  each : All (HasPlace (length l.place.items)) (into_iter_items l.file-iterator);
  left : into_iter_len l.file-iterator ≡ length (into_iter_items l.file-iterator);
}
