-- What is true of each typed catalog: its records are valid, and these are the rules in its own words.
use Rattle.std.specs.Prelude.{◌≡◌, ◌≢◌, ◌<◌, ◌≤◌, Contains, IfSome, All, AllPairs, length}
use Rattle.rm_base.specs.Numbers.{most_bytes}
use Rattle.rm_catalog.specs.declared.record.{PartEntry.{PartEntry}, LogEntry.{LogEntry}, PieceEntry.{PieceEntry}, SetEntry.{SetEntry}}
use Rattle.rm_history.specs.Tree.{IsThere}
use Rattle.rm_catalog_typed.specs.{LedgerFacts.{IsLedger}, Ledger.{Ledger}, TypedCatalog.{TypedCatalog, Saved}}

-- a part is of a redo thread from 1 to 4, or of a datafile that is there
pub record IsPartEntry (l : Ledger) (p : PartEntry) : Type 0 where
  pub id : (1 ≤ p.id) × (p.id < l.base.next_id)
  pub size : p.size ≤ most_bytes
  pub thread : p.file ≡ 0 → (1 ≤ p.thread) × (p.thread ≤ 4)
  pub file : 0 < p.file → (p.thread ≡ 0) × (p.file ≤ length l.files)

-- ids ascend, and no two parts are of the same thread or datafile
pub record AreApart (p q : PartEntry) : Type 0 where
  pub ids : p.id < q.id
  pub things : p.file ≡ q.file → p.thread ≢ q.thread

-- a saved site of the database of a ledger, whose objects have other ids
pub record IsSaved (l : Ledger) (s : Saved) : Type 0 where
  pub parts : All (IsPartEntry l) s.parts
  pub apart : AllPairs AreApart s.parts
  pub logs : (e : LogEntry) (p : PartEntry) → Contains l.logs e → Contains s.parts p → e.id ≢ p.id
  pub pieces : (e : PieceEntry) (p : PartEntry) → Contains l.pieces e → Contains s.parts p → e.id ≢ p.id
  pub sets : (e : SetEntry) (p : PartEntry) → Contains l.sets e → Contains s.parts p → e.id ≢ p.id
  pub point : 0 < s.head.inc → IsThere l.tree s.head.inc

pub record IsTypedCatalog (r : TypedCatalog) : Type 0 where
  pub ledger : IsLedger r.ledger
  pub saved : IfSome r.saved (IsSaved r.ledger)
