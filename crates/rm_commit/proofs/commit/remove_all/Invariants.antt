use Rattle.std.proofs.Common.{◌≤◌, drop}
use Rattle.rm_base.specs.Store.{Both}
use Rattle.rm_commit.{specs.Names.{itself, nothing}, proofs.Named.{Ahead}}
use Rattle.rm_commit.proofs.commit.remove_all.Given as goal

abbrev pub invariant-loop-name : goal.invariant-loop-name
invariant-loop-name g l = record {
  told : Both (Ahead itself nothing (drop l.name-index l.names) l.names) (g.D.Store.held l.fn.store) (g.D.Store.held l.store);
  faults : g.D.Store.faults l.fn.store ≤ g.D.Store.faults l.store;
}
