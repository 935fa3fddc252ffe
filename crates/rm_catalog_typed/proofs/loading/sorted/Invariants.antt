use Rattle.std.specs.{Prelude.{◌≡◌, ◌++◌, All}, Vec.Iter.{into_iter_items}}
use Rattle.rm_catalog_typed.specs.Kinds.{IsSmall, told_by}
use Rattle.rm_catalog_typed.proofs.loading.sorted.Given as goal

abbrev pub invariant-loop-record : goal.invariant-loop-record
invariant-loop-record l = (l.kinds ≡ told_by l.yielded) × (l.fn.records.items ≡ l.yielded ++ into_iter_items l.record-iterator) × All IsSmall l.yielded
