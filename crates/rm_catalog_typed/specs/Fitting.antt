-- What may be added to a typed catalog, or come in place of what it has.
use Rattle.std.specs.Prelude.{◌≡◌, ◌≢◌, ◌⊎◌, ◌+◌, ℕ, ◌<◌, ◌≤◌, All, Contains, IfSome, List, length, sum_by}
use Rattle.rm_base.specs.declared.block.Mark.{Mark}
use Rattle.rm_catalog.specs.declared.record.{BaseEntry.{BaseEntry}, LogEntry.{LogEntry}, PieceEntry.{PieceEntry}, SetEntry.{SetEntry}}
use Rattle.rm_history.specs.{Tree.{IsThere, reset_of, end_of}, declared.world.Datafile.{Datafile}}
use Rattle.rm_catalog_typed.specs.{LedgerFacts.{IsBase, IsCreated, IsLogEntry, IsMark, IsPieceEntry, IsSetEntry}, Ledger.{ledger_records}}
use Rattle.rm_catalog_typed.specs.{Switches.{IsNextSwitch}, TypedCatalog.{TypedCatalog}, declared.thread_switch.ThreadSwitch.{ThreadSwitch}}

-- n records more are not too many
abbrev pub HasRoomFor : TypedCatalog → ℕ → Type 0
HasRoomFor r n = length (ledger_records r.ledger) + n ≤ 65536

-- base facts: the next id and the latest moment do not fall
pub record FitsBase (r : TypedCatalog) (b : BaseEntry) : Type 0 where
  pub facts : IsBase b
  pub current : IsThere r.ledger.tree b.current
  pub threads : b.threads ≡ r.ledger.base.threads
  pub next_id : r.ledger.base.next_id ≤ b.next_id
  pub moment : r.ledger.base.moment ≤ b.moment

-- one datafile more
pub record FitsFile (r : TypedCatalog) (d : Datafile) : Type 0 where
  pub created : IsCreated r.ledger.tree d
  pub few : length r.ledger.files < 64
  pub blocks : sum_by (λ f. f.blocks) r.ledger.files + d.blocks ≤ 131072
  pub room : HasRoomFor r 1

-- no mark is later than this moment, and the latest moment is none before it
abbrev pub IsNextMoment : TypedCatalog → ℕ → Type 0
IsNextMoment r moment = All (λ m. m.moment ≤ moment) r.ledger.marks × (moment ≤ r.ledger.base.moment)

-- one mark more
pub record FitsMark (r : TypedCatalog) (m : Mark) : Type 0 where
  pub mark : IsMark r.ledger.tree r.ledger.base.moment m
  pub moment : IsNextMoment r m.moment
  pub room : HasRoomFor r 1

-- one switch of a redo thread more
pub record FitsSwitch (r : TypedCatalog) (x : ThreadSwitch) : Type 0 where
  pub next : IsNextSwitch r.ledger.tree r.ledger.base.threads r.ledger.switches x
  pub room : HasRoomFor r 1

-- one incarnation more, with its first mark at this moment
pub record FitsBranch (r : TypedCatalog) (parent at moment : ℕ) : Type 0 where
  pub there : IsThere r.ledger.tree parent
  pub begins : (reset_of r.ledger.tree parent ≤ at) × (at ≤ end_of r.ledger.tree parent)
  pub few : length r.ledger.tree < 256
  pub next : IsNextMoment r moment
  pub room : HasRoomFor r 2

-- one of them has this id
abbrev pub HasId : {A : Type 0} → (A → ℕ) → ℕ → List A → Type 0
HasId {A} id n xs = (x : A) × Contains xs x × (id x ≡ n)

-- none of them has it
abbrev pub LacksId : {A : Type 0} → (A → ℕ) → ℕ → List A → Type 0
LacksId id n xs = All (λ x. id x ≢ n) xs

-- an id below the next one, which no part of a saved site has
pub record IsObjectId (r : TypedCatalog) (n : ℕ) : Type 0 where
  pub range : (1 ≤ n) × (n < r.ledger.base.next_id)
  pub parts : IfSome r.saved (λ s. LacksId (λ p. p.id) n s.parts)

-- a log, which comes in place of that of its id, or for which there is room
pub record FitsLog (r : TypedCatalog) (e : LogEntry) : Type 0 where
  pub log : IsLogEntry r.ledger.tree e
  pub id : IsObjectId r e.id
  pub pieces : LacksId (λ p. p.id) e.id r.ledger.pieces
  pub sets : LacksId (λ x. x.id) e.id r.ledger.sets
  pub room : HasId (λ x. x.id) e.id r.ledger.logs ⊎ HasRoomFor r 1

-- a log more, which takes the next id
pub record FitsNewLog (r : TypedCatalog) (e : LogEntry) : Type 0 where
  pub log : IsLogEntry r.ledger.tree e
  pub id : e.id ≡ r.ledger.base.next_id
  pub last : e.id < 4294967295
  pub room : HasRoomFor r 1

-- a piece, which comes in place of that of its id, or for which there is room
pub record FitsPiece (r : TypedCatalog) (p : PieceEntry) : Type 0 where
  pub piece : IsPieceEntry r.ledger.tree r.ledger.files p
  pub id : IsObjectId r p.id
  pub logs : LacksId (λ e. e.id) p.id r.ledger.logs
  pub sets : LacksId (λ x. x.id) p.id r.ledger.sets
  pub room : HasId (λ x. x.id) p.id r.ledger.pieces ⊎ HasRoomFor r 1

-- a piece more, which takes the next id
pub record FitsNewPiece (r : TypedCatalog) (p : PieceEntry) : Type 0 where
  pub piece : IsPieceEntry r.ledger.tree r.ledger.files p
  pub id : p.id ≡ r.ledger.base.next_id
  pub last : p.id < 4294967295
  pub room : HasRoomFor r 1

-- a set, which comes in place of that of its id, or for which there is room
pub record FitsSet (r : TypedCatalog) (e : SetEntry) : Type 0 where
  pub set : IsSetEntry r.ledger.tree r.ledger.files e
  pub id : IsObjectId r e.id
  pub logs : LacksId (λ x. x.id) e.id r.ledger.logs
  pub pieces : LacksId (λ p. p.id) e.id r.ledger.pieces
  pub room : HasId (λ x. x.id) e.id r.ledger.sets ⊎ HasRoomFor r 1

-- a set more, which takes the next id
pub record FitsNewSet (r : TypedCatalog) (e : SetEntry) : Type 0 where
  pub set : IsSetEntry r.ledger.tree r.ledger.files e
  pub id : e.id ≡ r.ledger.base.next_id
  pub last : e.id < 4294967295
  pub room : HasRoomFor r 1
