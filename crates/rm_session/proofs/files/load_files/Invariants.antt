use Rattle.std.specs.Prelude.{◌≡◌, ◌≤◌, IfSome, length}
use Rattle.rm_session.specs.Fit.{AllAt, FitsAt, IsLoadedAt}
use Rattle.rm_session.proofs.files.load_files.Given as goal

abbrev pub invariant-loop-index : goal.invariant-loop-index
invariant-loop-index g l = record {
  many : length l.place ≡ l.index;
  told : IfSome (g.D.Store.held l.fn.store) (λ h. AllAt (IsLoadedAt h l.catalog.ledger l.site) l.place);
  fits : AllAt (FitsAt l.catalog.ledger l.site.head.opened) l.place;
  same : g.D.Store.held l.store ≡ g.D.Store.held l.fn.store;
  never_falls : g.D.Store.faults l.fn.store ≤ g.D.Store.faults l.store;
}
