use Rattle.std.{specs.Slice.Iter.{chunks_rest}, proofs.Common.{◌≡◌, ◌≤◌}}
use Rattle.rm_evidence.{specs.Database.{database_in}, proofs.Tells.{IsToldBefore}}
use Rattle.rm_evidence.proofs.telling.tell_by.Given as goal

abbrev pub invariant-loop-part : goal.invariant-loop-part
invariant-loop-part g l = record {
  told : IsToldBefore (λ x. x.1.now) l.rows (database_in l.catalog) (g.D.Store.held l.fn.store) (chunks_rest l.part-iterator) l.all.items;
  same : g.D.Store.held l.store ≡ g.D.Store.held l.fn.store;
  never_falls : g.D.Store.faults l.fn.store ≤ g.D.Store.faults l.store;
}
