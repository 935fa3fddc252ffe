use Rattle.std.{specs.Vec.Iter.{into_iter_items}, proofs.Common.{◌≡◌, ◌+◌, drop, length, map, take}}
use Rattle.rm_evidence.specs.{Database.{database_in}, Telling.{TellAll}}
use Rattle.rm_evidence.proofs.telling.told_of_each.Given as goal

abbrev pub invariant-loop-told : goal.invariant-loop-told
invariant-loop-told g l = record {
  all : TellAll (database_in l.catalog) (map (λ x. x.1.now) (take (length l.all) l.rows)) (take (length l.all) l.stand) l.all;
  left : drop (length l.all) (into_iter_items l.initial.told-iterator) ≡ into_iter_items l.told-iterator;
  many : length l.all + length (into_iter_items l.told-iterator) ≡ length l.rows;
}
