use Rattle.std.specs.Prelude.{◌≡◌, ◌≤◌, IfSome, length}
use Rattle.rm_session.specs.Fit.{AllAt, IsLogAt, LogFitsAt}
use Rattle.rm_session.proofs.threads.load_logs.Given as goal

abbrev pub invariant-loop-index : goal.invariant-loop-index
invariant-loop-index g l = record {
  many : length l.logs ≡ l.index;
  told : IfSome (g.D.Store.held l.fn.store) (λ h. AllAt (IsLogAt h l.catalog.ledger l.site) l.logs);
  fits : AllAt (LogFitsAt l.catalog.ledger l.site.head.opened) l.logs;
  same : g.D.Store.held l.store ≡ g.D.Store.held l.fn.store;
  never_falls : g.D.Store.faults l.fn.store ≤ g.D.Store.faults l.store;
}
