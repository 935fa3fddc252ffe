use Rattle.std.{specs.Prelude.{IfSome}, proofs.Common.{◌≡◌, ◌≤◌, take}}
use Rattle.rm_piece.specs.Sets.{IsSet}
use Rattle.rm_standby_store.specs.Names.{IsAmong}
use Rattle.rm_standby_store.proofs.finding.find_standby.Given as goal

abbrev pub invariant-loop-name : goal.invariant-loop-name
invariant-loop-name g l = record {
  among : IfSome (g.D.Store.held l.fn.store) (λ held. IsAmong held (take l.name-index l.name-items) l.best);
  valid : IfSome l.best (λ x. IsSet x.1);
  same : g.D.Store.held l.store ≡ g.D.Store.held l.fn.store;
  never_falls : g.D.Store.faults l.fn.store ≤ g.D.Store.faults l.store;
}
