-- What is true of each ledger: its records are valid, and these are the rules in its own words.
use Rattle.std.specs.Prelude.{◌≡◌, ◌≢◌, ℕ, ◌-◌, ◌<◌, ◌≤◌, Some, List, All, AllPairs, Contains, length, slice_get, sum_by}
use Rattle.rm_base.specs.{Numbers.{last_scn, last_moment, most_bytes}, declared.block.Mark.{Mark}}
use Rattle.rm_catalog.specs.{Facts.{IsPolicy}, Objects.{FitsKind, FitsRows, IsTag}, SetRules.{FitsPartKind, IsBeforePart}}
use Rattle.rm_catalog.specs.declared.record.{BaseEntry.{BaseEntry}, LogEntry.{LogEntry}, PieceEntry.{PieceEntry}, SetEntry.{SetEntry}}
use Rattle.rm_catalog.specs.declared.record.SetPart.{SetPart}
use Rattle.rm_history.specs.{Tree.{IsThere, parent_of, reset_of, end_of, owner}, declared.tree.Incarnation.{Incarnation}}
use Rattle.rm_history.specs.declared.world.Datafile.{Datafile}
use Rattle.rm_catalog_typed.specs.{Ledger.{Ledger, ledger_records}, Switches.{ComeInTurn}}

-- the base facts, the current incarnation left aside
pub record IsBase (b : BaseEntry) : Type 0 where
  pub dbid : 1 ≤ b.dbid
  pub threads : (1 ≤ b.threads) × (b.threads ≤ 4)
  pub next_id : (1 ≤ b.next_id) × (b.next_id ≤ 4294967295)
  pub moment : b.moment ≤ last_moment
  pub policy : IsPolicy b.policy
  pub parallelism : (1 ≤ b.parallelism) × (b.parallelism ≤ 16)

-- incarnation i branched off a lower one, within its range
pub record IsBranch (tree : List Incarnation) (i : ℕ) : Type 0 where
  pub parent : (0 < parent_of tree i) × (parent_of tree i < i)
  pub reset : reset_of tree (parent_of tree i) ≤ reset_of tree i
  pub end : reset_of tree i ≤ end_of tree (parent_of tree i)

pub record AreIncarnations (tree : List Incarnation) : Type 0 where
  pub some : 0 < length tree
  pub few : length tree ≤ 256
  pub first : parent_of tree 1 ≡ 0
  pub branches : (i : ℕ) → 1 < i → i ≤ length tree → IsBranch tree i
  pub ranges : (i : ℕ) → IsThere tree i → (1 ≤ reset_of tree i) × (reset_of tree i ≤ end_of tree i) × (end_of tree i ≤ last_scn)

-- a datafile was created in an incarnation that is there
pub record IsCreated (tree : List Incarnation) (d : Datafile) : Type 0 where
  pub there : IsThere tree d.inc
  pub creation : (reset_of tree d.inc ≤ d.creation) × (d.creation < end_of tree d.inc)
  pub blocks : (1 ≤ d.blocks) × (d.blocks ≤ 65536)

pub record AreDatafiles (tree : List Incarnation) (files : List Datafile) : Type 0 where
  pub each : All (IsCreated tree) files
  pub few : length files ≤ 64
  pub room : sum_by (λ d. d.blocks) files ≤ 131072

-- a log holds some SCNs of its incarnation
pub record IsLogEntry (tree : List Incarnation) (l : LogEntry) : Type 0 where
  pub there : IsThere tree l.inc
  pub thread : (1 ≤ l.thread) × (l.thread ≤ 4)
  pub sequence : 1 ≤ l.sequence
  pub range : (reset_of tree l.inc ≤ l.first) × (l.first < l.next) × (l.next ≤ end_of tree l.inc)
  pub size : l.size ≤ most_bytes

-- the piece is of a datafile on the path of its incarnation
pub record IsOfFile (tree : List Incarnation) (files : List Datafile) (p : PieceEntry) : Type 0 where
  pub number : 0 < p.file
  pub datafile : Datafile
  pub is : slice_get files (p.file - 1) ≡ Some datafile
  pub path : owner tree p.inc datafile.creation ≡ datafile.inc
  pub rows : FitsRows p.kind p.rows datafile.blocks

pub record IsPieceEntry (tree : List Incarnation) (files : List Datafile) (p : PieceEntry) : Type 0 where
  pub there : IsThere tree p.inc
  pub file : IsOfFile tree files p
  pub checkpoint : (1 ≤ p.checkpoint) × (p.checkpoint ≤ p.high)
  pub high : p.high ≤ end_of tree p.inc
  pub kind : FitsKind p.kind p
  pub tag : IsTag p.tag
  pub size : p.size ≤ most_bytes

-- what a set has of a datafile, which was created on the path of the set's incarnation, below its checkpoint
pub record IsSetPart (tree : List Incarnation) (files : List Datafile) (e : SetEntry) (p : SetPart) : Type 0 where
  pub number : 0 < p.file
  pub datafile : Datafile
  pub is : slice_get files (p.file - 1) ≡ Some datafile
  pub path : owner tree e.inc datafile.creation ≡ datafile.inc
  pub creation : datafile.creation < e.checkpoint
  pub rows : p.rows ≤ datafile.blocks
  pub kind : FitsPartKind p.kind e.checkpoint p
  pub high : (e.checkpoint ≤ p.high) × (p.high ≤ end_of tree e.inc)

pub record IsSetEntry (tree : List Incarnation) (files : List Datafile) (e : SetEntry) : Type 0 where
  pub there : IsThere tree e.inc
  pub checkpoint : 1 ≤ e.checkpoint
  pub count : (1 ≤ length e.parts) × (length e.parts ≤ 64)
  pub ascend : AllPairs IsBeforePart e.parts
  pub parts : All (IsSetPart tree files e) e.parts
  pub tag : IsTag e.tag
  pub size : e.size ≤ most_bytes

-- the ids of objects lie from `low` up to, and without, `next`; they ascend in each kind, and no two are one
pub record AreIds (low next : ℕ) (of_logs : List LogEntry) (of_pieces : List PieceEntry) (of_sets : List SetEntry) : Type 0 where
  pub logs : All (λ l. (low ≤ l.id) × (l.id < next)) of_logs
  pub pieces : All (λ p. (low ≤ p.id) × (p.id < next)) of_pieces
  pub sets : All (λ e. (low ≤ e.id) × (e.id < next)) of_sets
  pub logs_ascend : AllPairs (λ l k. l.id < k.id) of_logs
  pub pieces_ascend : AllPairs (λ p q. p.id < q.id) of_pieces
  pub sets_ascend : AllPairs (λ e d. e.id < d.id) of_sets
  pub apart : (l : LogEntry) (p : PieceEntry) → Contains of_logs l → Contains of_pieces p → l.id ≢ p.id
  pub logs_apart : (l : LogEntry) (e : SetEntry) → Contains of_logs l → Contains of_sets e → l.id ≢ e.id
  pub pieces_apart : (p : PieceEntry) (e : SetEntry) → Contains of_pieces p → Contains of_sets e → p.id ≢ e.id

-- a mark has an SCN of its incarnation, and no later moment than the latest
pub record IsMark (tree : List Incarnation) (latest : ℕ) (m : Mark) : Type 0 where
  pub there : IsThere tree m.inc
  pub scn : (reset_of tree m.inc ≤ m.scn) × (m.scn ≤ end_of tree m.inc)
  pub moment : m.moment ≤ latest

-- moments do not fall
abbrev pub Rise : List Mark → Type 0
Rise marks = AllPairs (λ m n. m.moment ≤ n.moment) marks

-- one of the marks is of the incarnation
abbrev pub HasMark : List Mark → ℕ → Type 0
HasMark marks i = (m : Mark) × Contains marks m × (m.inc ≡ i)

pub record AreMarks (tree : List Incarnation) (moment : ℕ) (marks : List Mark) : Type 0 where
  pub each : All (IsMark tree moment) marks
  pub rise : Rise marks
  pub some : (i : ℕ) → IsThere tree i → HasMark marks i

pub record IsLedger (l : Ledger) : Type 0 where
  pub base : IsBase l.base
  pub current : IsThere l.tree l.base.current
  pub incarnations : AreIncarnations l.tree
  pub datafiles : AreDatafiles l.tree l.files
  pub logs : All (IsLogEntry l.tree) l.logs
  pub pieces : All (IsPieceEntry l.tree l.files) l.pieces
  pub sets : All (IsSetEntry l.tree l.files) l.sets
  pub ids : AreIds 1 l.base.next_id l.logs l.pieces l.sets
  pub marks : AreMarks l.tree l.base.moment l.marks
  pub switches : ComeInTurn l.tree l.base.threads l.switches
  pub few : length (ledger_records l) ≤ 65536
