-- What the types of its fields say of a log.
use Rattle.std.specs.Prelude.{◌≡◌, ◌<◌, ◌^◌, length, All}
use Rattle.rm_redo.specs.declared.{log_file.LogFile.{LogFile}, online.LogRecord.{LogRecord}}

pub record RecordFits (r : LogRecord) : Type 0 where
  pub scn : r.scn < 2 ^ 64
  pub file : r.file < 2 ^ 32
  pub block : r.block < 2 ^ 32
  pub content : length r.content.0 ≡ 64

-- all but the records; the thread is one byte
pub record HeadFits (l : LogFile) : Type 0 where
  pub dbid : l.dbid < 2 ^ 32
  pub inc : l.inc < 2 ^ 32
  pub sequence : l.sequence < 2 ^ 32
  pub first : l.first < 2 ^ 64
  pub next : l.next < 2 ^ 64

pub record Fits (l : LogFile) : Type 0 where
  pub head : HeadFits l
  pub count : length l.records < 2 ^ 32
  pub records : All RecordFits l.records
