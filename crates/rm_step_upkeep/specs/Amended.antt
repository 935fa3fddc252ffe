-- What a statement changes of the record of a log, a piece or a set.
use Rattle.std.specs.Prelude.{ℕ}
use Rattle.rm_catalog.specs.declared.record.{LogEntry.{LogEntry}, PieceEntry.{PieceEntry}, SetEntry.{SetEntry}}
use Rattle.rm_machine.specs.Upkeep.{log_changed, piece_changed, set_changed}
use Rattle.rm_catalog_typed.specs.TypedCatalog.{TypedCatalog}
use Rattle.rm_step_upkeep.specs.declared.amending.Amendment.{Amendment, TheVariants.{Keep, Status}}

-- the log, changed so
abbrev pub log_by : Amendment → LogEntry → LogEntry
log_by (Status st) e = record e { status = st }
log_by (Keep keep) e = record e { keep = keep }

-- the piece, changed so
abbrev pub piece_by : Amendment → PieceEntry → PieceEntry
piece_by (Status st) p = record p { status = st }
piece_by (Keep keep) p = record p { keep = keep }

-- the set, changed so
abbrev pub set_by : Amendment → SetEntry → SetEntry
set_by (Status st) e = record e { status = st }
set_by (Keep keep) e = record e { keep = keep }

-- the catalog where the record of this id is changed so
abbrev pub amended : Amendment → ℕ → TypedCatalog → TypedCatalog
amended a n r = set_changed (set_by a) n (piece_changed (piece_by a) n (log_changed (log_by a) n r))
