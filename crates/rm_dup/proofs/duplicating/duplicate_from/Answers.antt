use Rattle.std.proofs.Common.{◌≤◌, ◌∙◌, List, All, length, ap, sym, subst}
use Rattle.rm_blocks.specs.File.{File}
use Rattle.rm_catalog.specs.{Rules.{IsCatalog}, declared.record.Record.{Record}}
use Rattle.rm_catalog_typed.specs.TypedCatalog.{records_of}
use Rattle.rm_evidence.specs.Database.{world_of}
use Rattle.rm_piece.specs.{Valid.{IsPiece}, declared.piece.Piece.{Piece}}
use Rattle.rm_dup.{specs.{Copies.{copies_of}, Entries.{catalog_of, moment_in}}, proofs.Whole.{few-rows, pieces-valid, records-valid}}
use Rattle.rm_dup.proofs.duplicating.duplicate_from.Goals as goal

pub copies-requires-clause-rows : goal.copies-requires-clause-rows
copies-requires-clause-rows g c =
    subst (λ (fs : List File). All (λ (x : File). length x.rows ≤ 65536) fs) (sym c.as_slice-files.ensures)
    (few-rows c.args.catalog.now c.records.ensures.catalog c.requires.database (g.D.Store.held c.args.store.now) c.args.place c.args.i c.args.s c.args.dbid c.requires.there (sym c.in-Ok.ensures.until)
    (c.requires.dbid, c.ranges.dbid.fits) c.in-Ok.recovered c.in-Ok.ensures.files)

pub records_of_copies-requires-clause-valid : goal.records_of_copies-requires-clause-valid
records_of_copies-requires-clause-valid g c =
    subst (λ (ps : List Piece). All IsPiece ps) (sym (c.as_slice.ensures ∙ c.in_ok-pieces.ensures ∙ ap (λ (fs : List File). copies_of c.args.dbid c.args.s fs) c.as_slice-files.ensures))
    (pieces-valid c.args.catalog.now c.records.ensures.catalog c.requires.database (g.D.Store.held c.args.store.now) c.args.place c.args.i c.args.s c.args.dbid c.requires.there (sym c.in-Ok.ensures.until)
    (c.requires.dbid, c.ranges.dbid.fits) c.in-Ok.recovered c.in-Ok.ensures.files)

pub returns-clause-pieces : goal.returns-clause-pieces
returns-clause-pieces g c =
    subst (λ (ps : List Piece). All IsPiece ps) (sym (c.in_ok-pieces.ensures ∙ ap (λ (fs : List File). copies_of c.args.dbid c.args.s fs) c.as_slice-files.ensures))
    (pieces-valid c.args.catalog.now c.records.ensures.catalog c.requires.database (g.D.Store.held c.args.store.now) c.args.place c.args.i c.args.s c.args.dbid c.requires.there (sym c.in-Ok.ensures.until)
    (c.requires.dbid, c.ranges.dbid.fits) c.in-Ok.recovered c.in-Ok.ensures.files)

pub returns-clause-records : goal.returns-clause-records
returns-clause-records g c =
    subst (λ (rs : List Record). IsCatalog rs)
    (sym (c.in_ok-records.ensures ∙ ap (λ (fs : List File). records_of (catalog_of (world_of c.args.catalog.now) c.args.dbid (moment_in c.args.catalog.now) c.args.s fs)) c.as_slice-files.ensures))
    (records-valid c.args.catalog.now c.records.ensures.catalog c.requires.database (g.D.Store.held c.args.store.now) c.args.place c.args.i c.args.s c.args.dbid c.requires.there (sym c.in-Ok.ensures.until)
    (c.requires.dbid, c.ranges.dbid.fits) c.in-Ok.recovered c.in-Ok.ensures.files)
