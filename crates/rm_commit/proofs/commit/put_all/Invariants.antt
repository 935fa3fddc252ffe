use Rattle.std.proofs.Common.{◌≤◌, drop, take}
use Rattle.rm_base.specs.Store.{Both}
use Rattle.rm_commit.{specs.Names.{HasPuts, name_of, bytes_of}, proofs.Named.{Ahead}}
use Rattle.rm_commit.proofs.commit.put_all.Given as goal

abbrev pub invariant-loop-object : goal.invariant-loop-object
invariant-loop-object g l = record {
  told : Both (Ahead name_of bytes_of (drop l.object-index l.objects) l.objects) (g.D.Store.held l.fn.store) (g.D.Store.held l.store);
  front : Both (HasPuts (take l.object-index l.objects)) (g.D.Store.held l.fn.store) (g.D.Store.held l.store);
  faults : g.D.Store.faults l.fn.store ≤ g.D.Store.faults l.store;
}
