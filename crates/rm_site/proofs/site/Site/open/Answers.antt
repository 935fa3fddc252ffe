use Rattle.rm_catalog.specs.Rules.{IsValid}
use Rattle.rm_catalog_typed.specs.TypedCatalog.{all_records}
use Rattle.rm_site.specs.Faults.{IsBadFirst, fault_at, fault_in}
use Rattle.rm_site.proofs.Opening.{of-kept, opened-none, opened-some, shows-none, shows-some, told-bad, told-err, told-valid}
use Rattle.rm_site.proofs.site.Site.open.Goals.{in-Some+in_ok-load_place-in-Some, in-None}
use Rattle.rm_site.proofs.site.Site.open.Goals as goal
use Rattle.std.specs.Prelude.{IfSome}

pub returns-in_err-catalog-clause-bad : goal.returns-in_err-catalog-clause-bad
returns-in_err-catalog-clause-bad g c =
    told-err c.from_residual-in_err-catalog.result (fault_at c.in_err-catalog.field-0.0) (λ fault. IfSome (g.C.Keeper.kept c.args.keeper.now) (IsBadFirst fault)) c.from_residual-in_err-catalog.ensures.1
    (told-bad c.in_err-catalog.field-0.0 (g.C.Keeper.kept c.args.keeper.now) c.in_ok-records.records c.in_ok-records.ensures.records c.in_err-catalog.ensures.bad)

pub returns-in_err-load_place-in-Some-clause-bad : goal.returns-in_err-load_place-in-Some-clause-bad
returns-in_err-load_place-in-Some-clause-bad g c =
    told-err c.from_residual-in_err-load_place-in-Some.result (fault_in c.in_err-load_place-in-Some.field-0.0) (λ fault. IfSome (g.C.Keeper.kept c.args.keeper.now) (IsBadFirst fault)) c.from_residual-in_err-load_place-in-Some.ensures.1
    (told-valid c.in_err-load_place-in-Some.field-0.0 (g.C.Keeper.kept c.args.keeper.now)
    (of-kept IsValid (g.C.Keeper.kept c.args.keeper.now) c.in_ok-records.records (all_records c.in_ok-catalog.field-0) c.in_ok-records.ensures.records c.in_ok-catalog.ensures.order c.in_ok-catalog.ensures.valid))

pub returns-clause-opened : goal.returns-clause-opened
returns-clause-opened g c = elim c.match-branch-3.branch [
  | in-Some+in_ok-load_place-in-Some w ↦
      opened-some (g.D.Store.held c.args.store.now) (g.C.Keeper.kept c.args.keeper.now) c.in_ok-records.records c.from_records.result c.match-branch-3.state w.in_ok-load_place-in-Some.field-0 c.in_ok-catalog.field-0 w.in-Some.catalog
      c.in_ok-records.ensures.records c.from_records.ensures.only (c.in_ok-catalog.was) w.in-Some.is w.state-is w.in_ok-load_place-in-Some.ensures.catalog w.in_ok-load_place-in-Some.ensures.loaded w.in_ok-load_place-in-Some.ensures.sound
  | in-None w ↦
      opened-none (g.D.Store.held c.args.store.now) (g.C.Keeper.kept c.args.keeper.now) c.in_ok-records.records c.from_records.result c.match-branch-3.state c.in_ok-catalog.field-0
      c.in_ok-records.ensures.records c.from_records.ensures.only (c.in_ok-catalog.was) w.in-None.is w.state-is
]

pub returns-clause-shows : goal.returns-clause-shows
returns-clause-shows g c = elim c.match-branch-3.branch [
  | in-Some+in_ok-load_place-in-Some w ↦
      shows-some (g.D.Store.held c.args.store.now) (g.C.Keeper.kept c.args.keeper.now) c.in_ok-records.records c.match-branch-3.state w.in_ok-load_place-in-Some.field-0 c.in_ok-catalog.field-0 w.in-Some.catalog
      c.in_ok-records.ensures.records c.in_ok-records.ensures.ascends c.in_ok-catalog.ensures.order w.in-Some.is w.state-is w.in_ok-load_place-in-Some.ensures.catalog w.in_ok-load_place-in-Some.ensures.loaded
  | in-None w ↦
      shows-none (g.D.Store.held c.args.store.now) (g.C.Keeper.kept c.args.keeper.now) c.in_ok-records.records c.match-branch-3.state c.in_ok-catalog.field-0
      c.in_ok-records.ensures.records c.in_ok-records.ensures.ascends c.in_ok-catalog.ensures.order w.in-None.is w.state-is
]

pub returns-clause-valid : goal.returns-clause-valid
returns-clause-valid g c = of-kept IsValid (g.C.Keeper.kept c.args.keeper.now) c.in_ok-records.records (all_records c.in_ok-catalog.field-0) c.in_ok-records.ensures.records c.in_ok-catalog.ensures.order c.in_ok-catalog.ensures.valid
