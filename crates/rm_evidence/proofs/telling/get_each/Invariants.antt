use Rattle.std.proofs.Common.{◌≡◌, ◌≤◌, length, map, take}
use Rattle.rm_evidence.specs.Telling.{StandUnder}
use Rattle.rm_evidence.proofs.telling.get_each.Given as goal

abbrev pub invariant-loop-row : goal.invariant-loop-row
invariant-loop-row g l = record {
  stand : StandUnder (g.D.Store.held l.fn.store) (map (λ x. x.1.now) (take l.row-index l.rows)) l.stand;
  many : length l.stand ≡ l.row-index;
  same : g.D.Store.held l.store ≡ g.D.Store.held l.fn.store;
  never_falls : g.D.Store.faults l.fn.store ≤ g.D.Store.faults l.store;
}
