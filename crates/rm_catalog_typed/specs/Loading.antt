-- What loading answers.
use Rattle.std.specs.Prelude.{List, Option, Result, Ok, Err}
use Rattle.rm_catalog.specs.{declared.catalog.CatalogFault.{CatalogFault}, declared.record.{BaseEntry.{BaseEntry}, Record.{Record}}}
use Rattle.rm_history.specs.declared.tree.Incarnation.{Incarnation}
use Rattle.rm_catalog_typed.specs.{Kinds.{Told, saved_in}, TypedCatalog.{TypedCatalog, all_records}}

-- the records of what was loaded
abbrev pub records_in : Result (Option TypedCatalog) CatalogFault → Result (List Record) CatalogFault
records_in (Ok c) = Ok (all_records c)
records_in (Err fault) = Err fault

-- what is told, as one typed catalog
abbrev pub gathered : BaseEntry → List Incarnation → Told → TypedCatalog
gathered b tree t =
    record {
      ledger = record { base = b; tree = tree; files = t.files; logs = t.logs; pieces = t.pieces; sets = t.sets; marks = t.marks; switches = t.switches };
      saved = saved_in t.parts t.heads;
    }
