-- Retention by the records of a catalog and the evidence at hand.
use Rattle.std.specs.Prelude.{ℕ, ◌≡◌, ◌↔◌, nat_lt, List, map, filter, Contains}
use Rattle.rm_base.specs.declared.kinds.Policy.{Policy}
use Rattle.rm_catalog.specs.{Keys.{key_of, part_piece}, declared.record.{PieceEntry.{PieceEntry}, Record.{Record}}}
use Rattle.rm_catalog.specs.declared.record.{Record.TheVariants.{Log, Piece, Set}, SetEntry.{SetEntry}}
use Rattle.rm_evidence.specs.{Database.{current_in, world_of}, declared.evidence.Evidence.{Evidence}}
use Rattle.rm_piece.specs.declared.piece as artefact
use Rattle.rm_retain.specs.{Chosen.{Retention}, Obsolete.{IsObsoleteBackup, IsObsoleteLog, IsObsoleteSet}, declared.copies.Backup.{Backup}}

-- a piece at hand, as its record describes it
abbrev pub backup_of : (ℕ × artefact.Piece.Piece) → Backup
backup_of x = record { id = x.0; inc = x.1.inc; file = x.1.file; checkpoint = x.1.checkpoint; high = x.1.high }

-- the backup that the record of a piece describes
abbrev pub backup_in : PieceEntry → Backup
backup_in p = record { id = p.id; inc = p.inc; file = p.file; checkpoint = p.checkpoint; high = p.high }

-- the backups that the parts of a set describe
abbrev pub backups_of : SetEntry → List Backup
backups_of e = map (λ p. backup_in (part_piece e p)) e.parts

-- the copies at hand that have a record; what is in place has the id 0
abbrev pub copies_in : Evidence → List Backup
copies_in e = map backup_of (filter (λ x. nat_lt 0 x.0) e.bases)

-- retention by records, and by these copies
abbrev pub on_copies : List Record → Policy → ℕ → List Backup → Retention
on_copies rs policy start copies =
    record { world = world_of rs; current = current_in rs; policy = policy; start = start; copies = copies }

abbrev pub by_records : List Record → Evidence → Policy → ℕ → Retention
by_records rs e policy start = on_copies rs policy start (copies_in e)

-- the record is one of a log, a piece or a set, and is obsolete
abbrev pub IsObsoleteRecord : Retention → Record → Type 0
IsObsoleteRecord r (Log l) = IsObsoleteLog r l.inc l.next l.keep
IsObsoleteRecord r (Piece p) = IsObsoleteBackup r (backup_in p) p.keep
IsObsoleteRecord r (Set e) = IsObsoleteSet r (backups_of e) e.keep
IsObsoleteRecord r _ = ⊥

-- one of the records has this id, and is obsolete
pub record IsObsolete (rs : List Record) (r : Retention) (id : ℕ) : Type 0 where
  pub row : Record
  pub held : Contains rs row
  pub is : IsObsoleteRecord r row
  pub number : (key_of row).id ≡ id

-- these are the ids of the records that are obsolete
abbrev pub AreObsolete : List Record → Retention → List ℕ → Type 0
AreObsolete rs r ids = (id : ℕ) → Contains ids id ↔ IsObsolete rs r id
