-- The names of the objects of which records tell.
use Rattle.std.specs.Prelude.{ℕ, List, Contains}
use Rattle.rm_catalog.specs.declared.record.{LogEntry.{LogEntry}, PieceEntry.{PieceEntry}, SetEntry.{SetEntry}}
use Rattle.rm_catalog_typed.specs.Ledger.{Ledger}
use Rattle.rm_evidence.specs.Names.{log_name, piece_name, set_name}

-- the object of one of the records has this name
pub data IsObjectName (l : Ledger) : List ℕ → Type 0 where
  of_log : (e : LogEntry) → Contains l.logs e → IsObjectName l (log_name e.id)
  of_piece : (e : PieceEntry) → Contains l.pieces e → IsObjectName l (piece_name e.copy e.id)
  of_set : (e : SetEntry) → Contains l.sets e → IsObjectName l (set_name e.id)
