use Rattle.std.{specs.Slice.Iter.{chunks_rest}, proofs.Common.{◌≡◌, ◌≤◌}}
use Rattle.rm_verify.proofs.Skipping.{HasTold}
use Rattle.rm_verify.proofs.validating.validate.Given as goal

abbrev pub invariant-loop-part : goal.invariant-loop-part
invariant-loop-part g l = record {
  told : HasTold (λ x. (x.0, x.1.now)) l.catalog (chunks_rest l.initial.part-iterator) (g.D.Store.held l.fn.store) (chunks_rest l.part-iterator) l.list;
  same : g.D.Store.held l.store ≡ g.D.Store.held l.fn.store;
  never_falls : g.D.Store.faults l.fn.store ≤ g.D.Store.faults l.store;
}
