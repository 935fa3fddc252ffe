-- Which logs are valid, and the one spelling of each.
use Rattle.std.specs.{Prelude.{ℕ, ◌≡◌, ◌<◌, ◌≤◌, ◌^◌, List, [], ◌∷◌, ◌++◌, length, All, codes}, List.{flat_map, AllPairs}}
use Rattle.rm_base.specs.{Number.{four, eight}, Numbers.{last_scn}, Sealed.{sealed}}
use Rattle.rm_redo.specs.{Logs.{IsBefore}, declared.{log_file.LogFile.{LogFile}, online.LogRecord.{LogRecord}}}

-- the SCN lies from `first` up to, and without, `next`; the datafile and block are of the range, and the content has 64 bytes
pub record IsLogRecord (first next : ℕ) (r : LogRecord) : Type 0 where
  pub scn : (first ≤ r.scn) × (r.scn < next)
  pub file : (1 ≤ r.file) × (r.file ≤ 64)
  pub block : r.block ≤ 65535
  pub content : length r.content.0 ≡ 64

pub record IsLogFile (l : LogFile) : Type 0 where
  pub dbid : (1 ≤ l.dbid) × (l.dbid < 2 ^ 32)
  pub inc : (1 ≤ l.inc) × (l.inc < 2 ^ 32)
  pub thread : (1 ≤ l.thread) × (l.thread ≤ 4)
  pub sequence : (1 ≤ l.sequence) × (l.sequence < 2 ^ 32)
  pub range : (1 ≤ l.first) × (l.first ≤ l.next) × (l.next ≤ last_scn)
  pub few : length l.records ≤ 65536
  pub ascend : AllPairs IsBefore l.records
  pub records : All (IsLogRecord l.first l.next) l.records

-- "RMLG" and the format's number
abbrev pub magic : List ℕ
magic = codes "RMLG" ++ 1 ∷ []

-- what stands before n records: 38 bytes
unfoldable pub head_bytes : LogFile → ℕ → List ℕ
head_bytes l n = magic
    ++ four l.dbid ++ four l.inc ++ l.thread ∷ [] ++ four l.sequence
    ++ eight l.first ++ eight l.next
    ++ four n

-- a record: 80 bytes
unfoldable pub record_bytes : LogRecord → List ℕ
record_bytes r = eight r.scn ++ four r.file ++ four r.block ++ r.content.0

-- what stands before the digest
abbrev pub body_of : LogFile → List ℕ
body_of l = head_bytes l (length l.records) ++ flat_map record_bytes l.records

-- it ends with the digest of all bytes before
abbrev pub spelling : LogFile → List ℕ
spelling l = sealed (body_of l)
