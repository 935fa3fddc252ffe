-- The fields of a record fit their types, as of every record that is at hand.
use Rattle.std.specs.Prelude.{◌≡◌, ◌<◌, ◌^◌, length, All, IsUtf8}
use Rattle.rm_catalog.specs.declared.record.{BaseEntry.{BaseEntry}, IncarnationEntry.{IncarnationEntry}, DatafileEntry.{DatafileEntry}}
use Rattle.rm_catalog.specs.declared.record.{LogEntry.{LogEntry}, PieceEntry.{PieceEntry}, MarkEntry.{MarkEntry}, PartEntry.{PartEntry}}
use Rattle.rm_catalog.specs.declared.record.{HeadEntry.{HeadEntry}, SetEntry.{SetEntry}, SetPart.{SetPart}, SwitchEntry.{SwitchEntry}}
use Rattle.rm_catalog.specs.declared.record.Record.{Record}
use Rattle.rm_catalog.specs.declared.record.Record.TheVariants.{Base, Incarnation, Datafile, Log, Piece, Mark, Part, Head, Set, Switch}
use Rattle.rm_catalog_bytes.specs.{Spelling.{policy_number, piece_ending, set_ending}, declared.ending.Ending.{Ending}}

pub record BaseFits (r : BaseEntry) : Type 0 where
  pub dbid : r.dbid < 2 ^ 32
  pub current : r.current < 2 ^ 32
  pub next_id : r.next_id < 2 ^ 32
  pub moment : r.moment < 2 ^ 64
  pub policy : policy_number r.policy < 2 ^ 32
  pub parallelism : r.parallelism < 2 ^ 32

pub record IncarnationFits (r : IncarnationEntry) : Type 0 where
  pub parent : r.parent < 2 ^ 32
  pub reset : r.reset < 2 ^ 64
  pub end : r.end < 2 ^ 64

pub record DatafileFits (r : DatafileEntry) : Type 0 where
  pub inc : r.inc < 2 ^ 32
  pub creation : r.creation < 2 ^ 64
  pub blocks : r.blocks < 2 ^ 32

pub record LogFits (r : LogEntry) : Type 0 where
  pub inc : r.inc < 2 ^ 32
  pub sequence : r.sequence < 2 ^ 32
  pub first : r.first < 2 ^ 64
  pub next : r.next < 2 ^ 64
  pub size : r.size < 2 ^ 64
  pub sha : length r.sha ≡ 32

pub record EndingFrontFits (e : Ending) : Type 0 where
  pub size : e.size < 2 ^ 64
  pub sha : length e.sha ≡ 32

pub record EndingFits (e : Ending) : Type 0 where
  pub front : EndingFrontFits e
  pub tag : length e.tag < 2 ^ 64
  pub letters : IsUtf8 e.tag
  pub moment : e.moment < 2 ^ 64

-- all but the ending
pub record PieceHeadFits (r : PieceEntry) : Type 0 where
  pub inc : r.inc < 2 ^ 32
  pub file : r.file < 2 ^ 32
  pub from : r.from < 2 ^ 64
  pub checkpoint : r.checkpoint < 2 ^ 64
  pub high : r.high < 2 ^ 64
  pub rows : r.rows < 2 ^ 32

pub record PieceFits (r : PieceEntry) : Type 0 where
  pub head : PieceHeadFits r
  pub ending : EndingFits (piece_ending r)

pub record MarkFits (r : MarkEntry) : Type 0 where
  pub moment : r.moment < 2 ^ 64
  pub inc : r.inc < 2 ^ 32
  pub scn : r.scn < 2 ^ 64

pub record PartFits (r : PartEntry) : Type 0 where
  pub file : r.file < 2 ^ 32
  pub size : r.size < 2 ^ 64
  pub sha : length r.sha ≡ 32

pub record HeadFits (r : HeadEntry) : Type 0 where
  pub inc : r.inc < 2 ^ 32
  pub scn : r.scn < 2 ^ 64

pub record SetPartFits (p : SetPart) : Type 0 where
  pub file : p.file < 2 ^ 32
  pub from : p.from < 2 ^ 64
  pub high : p.high < 2 ^ 64
  pub rows : p.rows < 2 ^ 32

pub record SetFits (r : SetEntry) : Type 0 where
  pub inc : r.inc < 2 ^ 32
  pub checkpoint : r.checkpoint < 2 ^ 64
  pub count : length r.parts < 2 ^ 64
  pub parts : All SetPartFits r.parts
  pub ending : EndingFits (set_ending r)

pub record SwitchFits (r : SwitchEntry) : Type 0 where
  pub inc : r.inc < 2 ^ 32
  pub scn : r.scn < 2 ^ 64
  pub sequence : r.sequence < 2 ^ 32

-- each number fits its type, a digest has 32 bytes, and a tag is UTF-8
abbrev pub Fits : Record → Type 0
Fits (Base r) = BaseFits r
Fits (Incarnation r) = IncarnationFits r
Fits (Datafile r) = DatafileFits r
Fits (Log r) = LogFits r
Fits (Piece r) = PieceFits r
Fits (Mark r) = MarkFits r
Fits (Part r) = PartFits r
Fits (Head r) = HeadFits r
Fits (Set r) = SetFits r
Fits (Switch r) = SwitchFits r
