-- The records of a catalog, kind by kind.
use Rattle.std.specs.{Prelude.{◌++◌, List, [], ◌∷◌, Option, Some, None, All, map, ◌≤◌}, List.{filter_map}}
use Rattle.rm_base.specs.declared.block.Mark.{Mark}
use Rattle.rm_catalog.specs.Keys.{base_in, datafile_in, head_in, incarnation_in, log_in, mark_in, part_in, piece_in, set_in, switch_in}
use Rattle.rm_catalog.specs.{Trees.{nodes}, declared.record.{BaseEntry.{BaseEntry}, HeadEntry.{HeadEntry}, LogEntry.{LogEntry}}}
use Rattle.rm_catalog.specs.declared.record.{MarkEntry.{MarkEntry}, PartEntry.{PartEntry}, PieceEntry.{PieceEntry}, Record.{Record}}
use Rattle.rm_catalog.specs.declared.record.{SetEntry.{SetEntry}, SwitchEntry.{SwitchEntry}}
use Rattle.rm_catalog.specs.declared.record.Record.TheVariants as kind
use Rattle.rm_history.specs.declared.world.Datafile.{Datafile}
use Rattle.rm_catalog_typed.specs.{Ledger.{Ledger}, TypedCatalog.{TypedCatalog, Saved}, declared.thread_switch.ThreadSwitch.{ThreadSwitch}}
use Rattle.rm_evidence.specs.Database.{created_by, datafiles}

-- the records of each kind, one kind after the other
abbrev pub by_kind : List Record → List Record
by_kind rs =
    map kind.Base (filter_map base_in rs) ++ (map kind.Incarnation (filter_map incarnation_in rs) ++ (map kind.Datafile (filter_map datafile_in rs)
    ++ (map kind.Log (filter_map log_in rs) ++ (map kind.Piece (filter_map piece_in rs) ++ (map kind.Mark (filter_map mark_in rs)
    ++ (map kind.Part (filter_map part_in rs) ++ (map kind.Head (filter_map head_in rs) ++ (map kind.Set (filter_map set_in rs)
    ++ map kind.Switch (filter_map switch_in rs)))))))))

-- a mark without its number
abbrev pub marked_by : MarkEntry → Mark
marked_by m = record { moment = m.moment; inc = m.inc; scn = m.scn }

-- a switch without its number
abbrev pub switched_by : SwitchEntry → ThreadSwitch
switched_by x = record { thread = x.thread; inc = x.inc; scn = x.scn; on = x.on; sequence = x.sequence }

-- what the records tell
abbrev pub ledger_in : BaseEntry → List Record → Ledger
ledger_in b rs =
    record {
      base = b;
      tree = nodes rs;
      files = datafiles rs;
      logs = filter_map log_in rs;
      pieces = filter_map piece_in rs;
      sets = filter_map set_in rs;
      marks = map marked_by (filter_map mark_in rs);
      switches = map switched_by (filter_map switch_in rs);
    }

abbrev pub saved_in : List PartEntry → List HeadEntry → Option Saved
saved_in parts [] = None
saved_in parts (h ∷ hs) = Some (record { parts = parts; head = h })

abbrev pub typed_catalog_in : BaseEntry → List Record → TypedCatalog
typed_catalog_in b rs = record { ledger = ledger_in b rs; saved = saved_in (filter_map part_in rs) (filter_map head_in rs) }

-- its number fits into 32 bits, where it is a mark or a switch, and so does a switch's sequence number
abbrev pub IsSmall : Record → Type 0
IsSmall (kind.Mark m) = m.id ≤ 4294967295
IsSmall (kind.Switch x) = (x.id ≤ 4294967295) × (x.sequence ≤ 4294967295)
IsSmall _ = Unit {0}

-- those of all do
abbrev pub AreSmall : List Record → Type 0
AreSmall rs = All IsSmall rs

-- what records of each kind say
pub record Told : Type 0 where
  pub bases : List BaseEntry
  pub files : List Datafile
  pub logs : List LogEntry
  pub pieces : List PieceEntry
  pub marks : List Mark
  pub parts : List PartEntry
  pub heads : List HeadEntry
  pub sets : List SetEntry
  pub switches : List ThreadSwitch

abbrev pub told_by : List Record → Told
told_by rs =
    record {
      bases = filter_map base_in rs;
      files = datafiles rs;
      logs = filter_map log_in rs;
      pieces = filter_map piece_in rs;
      marks = map marked_by (filter_map mark_in rs);
      parts = filter_map part_in rs;
      heads = filter_map head_in rs;
      sets = filter_map set_in rs;
      switches = map switched_by (filter_map switch_in rs);
    }

-- one record more
abbrev pub with_record : Record → Told → Told
with_record (kind.Base x) t = record t { bases = t.bases ++ x ∷ [] }
with_record (kind.Incarnation x) t = t
with_record (kind.Datafile x) t = record t { files = t.files ++ created_by x ∷ [] }
with_record (kind.Log x) t = record t { logs = t.logs ++ x ∷ [] }
with_record (kind.Piece x) t = record t { pieces = t.pieces ++ x ∷ [] }
with_record (kind.Mark x) t = record t { marks = t.marks ++ marked_by x ∷ [] }
with_record (kind.Part x) t = record t { parts = t.parts ++ x ∷ [] }
with_record (kind.Head x) t = record t { heads = t.heads ++ x ∷ [] }
with_record (kind.Set x) t = record t { sets = t.sets ++ x ∷ [] }
with_record (kind.Switch x) t = record t { switches = t.switches ++ switched_by x ∷ [] }
