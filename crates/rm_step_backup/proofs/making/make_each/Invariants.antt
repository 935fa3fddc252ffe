use Rattle.std.{specs.Vec.Iter.{into_iter_items}, proofs.Common.{◌≡◌, ◌++◌, All, map}}
use Rattle.rm_step_backup.specs.Making.{CanMake, made_by}
use Rattle.rm_step_backup.proofs.making.make_each.Given as goal

abbrev pub invariant-loop-read : goal.invariant-loop-read
invariant-loop-read l = record {
  made : l.all.items ++ map (made_by l.state l.form l.tag l.checkpoint) (into_iter_items l.read-iterator) ≡ map (made_by l.state l.form l.tag l.checkpoint) (into_iter_items l.initial.read-iterator);
  valid : All (CanMake l.state l.form l.checkpoint) (into_iter_items l.read-iterator);
}
