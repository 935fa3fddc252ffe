use Rattle.std.proofs.Common.{◌≡◌, ◌≤◌, map, take}
use Rattle.rm_evidence.{specs.{Database.{database_in}, Seen.{IsSeen}, Taking.{Adds}}, proofs.Ordered.{rows_of}}
use Rattle.rm_evidence.proofs.gathering.gather.Given as goal

abbrev pub invariant-loop-object : goal.invariant-loop-object
invariant-loop-object g l = record {
  adds : IsSeen (g.D.Store.held l.fn.store) (λ h. Adds h (database_in l.fn.catalog) (rows_of (take l.object-index (map (λ x. (x.0, x.1.now)) l.object-items))) l.initial.evidence l.evidence);
  same : g.D.Store.held l.store ≡ g.D.Store.held l.fn.store;
  never_falls : g.D.Store.faults l.fn.store ≤ g.D.Store.faults l.store;
}
