-- The records and the objects before and after obsolete records went.
use Rattle.std.specs.Prelude.{◌≡◌, ◌⊎◌, List, Contains}
use Rattle.rm_base.specs.Store.{Held}
use Rattle.rm_catalog.specs.declared.record.{LogEntry.{LogEntry}, PieceEntry.{PieceEntry}, Record.{Record}, SetEntry.{SetEntry}}
use Rattle.rm_catalog.specs.declared.record.Record.TheVariants as records
use Rattle.rm_evidence.specs.Names.{log_name, piece_name, set_name}
use Rattle.rm_retain.specs.{Chosen.{Retention}, Catalogued.{IsObsoleteRecord}}

-- no record is new, only obsolete ones went, and each object of those that are left stands as before
pub record IsCleared (r : Retention) (rs left : List Record) (held now : Held) : Type 0 where
  pub had : (row : Record) → Contains left row → Contains rs row
  pub stays : (row : Record) → Contains rs row → Contains left row ⊎ IsObsoleteRecord r row
  pub logs : (l : LogEntry) → Contains left (records.Log l) → now (log_name l.id) ≡ held (log_name l.id)
  pub pieces : (p : PieceEntry) → Contains left (records.Piece p) → now (piece_name p.copy p.id) ≡ held (piece_name p.copy p.id)
  pub sets : (e : SetEntry) → Contains left (records.Set e) → now (set_name e.id) ≡ held (set_name e.id)
