use Rattle.std.{specs.Vec.Iter.{into_iter_items, into_iter_len}, proofs.Common.{◌≡◌, ◌≤◌, drop, length, map, take}}
use Rattle.rm_evidence.{specs.{Database.{database_in}, Seen.{IsSeen}, Taking.{Adds}, Telling.{AreTold}}, proofs.Ordered.{rows_of}}
use Rattle.rm_evidence.proofs.gathering.gather_by.Given as goal

abbrev pub invariant-loop-told : goal.invariant-loop-told
invariant-loop-told g l = record {
  within : l.index ≤ length l.rows;
  adds : IsSeen (g.D.Store.held l.fn.store) (λ h. Adds h (database_in l.fn.catalog) (rows_of (take l.index (map (λ x. (x.0, x.1.now)) l.rows))) l.initial.evidence l.evidence);
  told : AreTold (g.D.Store.held l.fn.store) (database_in l.fn.catalog) (drop l.index (map (λ x. x.1.now) l.rows)) (into_iter_items l.told-iterator);
  left : into_iter_len l.told-iterator ≡ length (into_iter_items l.told-iterator);
}
