-- What a live database is made of, and what a write finds there.
use Rattle.std.specs.Prelude.{ℕ, ◌≡◌, ◌≢◌, ◌≤◌, ◌<◌, ◌==◌, if◌then◌else◌, Option, Some, None, List, [], ◌∷◌, All, AllPairs, length, slice_get}
use Rattle.std.specs.{List.{find}, Option.{option_map_or}}
use Rattle.rm_base.specs.{Numbers.{last_scn}, declared.block.{Block.{Block}, Row.{Row}}}
use Rattle.rm_blocks.specs.File.{File, put}
use Rattle.rm_redo.specs.{Logs.{Logs}, Online.{thread_records}}
use Rattle.rm_track.specs.Bitmaps.{Tracked}
use Rattle.rm_live.specs.declared.{database.Database.{Database}, history.LiveFault.{LiveFault, TheVariants.{NoBlock, Full, LastScn}}}

-- its incarnation, the SCN that the next write takes, its datafiles, its online logs, and the bitmaps of its datafiles
pub record Parts : Type 0 where
  pub inc : ℕ
  pub now : ℕ
  pub files : List File
  pub logs : Logs
  pub tracker : List Tracked

abbrev pub parts_of : Database → Parts
parts_of d = record { inc = d.inc; now = d.now; files = d.files.items; logs = d.logs; tracker = d.tracker }

-- the row of block b of file f, if there is one
abbrev pub row_at : List File → ℕ → ℕ → Option Row
row_at files f b = option_map_or (λ (x : File). slice_get x.rows b) (find (λ (x : File). x.file == f) files) None

-- the datafiles with a row of file f in place of the one of its block
abbrev pub with_put : List File → ℕ → Row → List File
with_put [] f row = []
with_put (x ∷ xs) f row = if x.file == f then put x row ∷ xs else x ∷ with_put xs f row

-- with another content of block b of file f, of that version
abbrev pub with_row : List File → ℕ → ℕ → ℕ → Block → List File
with_row files f b scn content = with_put files f (record { block = b; version = scn; content = content })

-- why a write is refused, if it is, that finds this row, so many records of its thread, and this `now`
abbrev pub refusal_by : Option Row → ℕ → ℕ → Option LiveFault
refusal_by None records now = Some NoBlock
refusal_by (Some row) records now =
    if records == 65536 then Some Full else if now == last_scn then Some LastScn else None

-- why a write by thread t of block b of file f is refused, if it is
abbrev pub refusal_of : Parts → ℕ → ℕ → ℕ → Option LiveFault
refusal_of p t f b = refusal_by (row_at p.files f b) (length (thread_records p.logs t)) p.now

-- the version of each row is below s
abbrev pub HasRowsBelow : ℕ → List File → Type 0
HasRowsBelow s files = All (λ (x : File). All (λ r. r.version < s) x.rows) files

-- the datafiles have different numbers
abbrev pub IsNumbered : List File → Type 0
IsNumbered files = AllPairs (λ (x y : File). x.file ≢ y.file) files

-- What is true of a live database at each turn: the logs are of its incarnation and begin at or below
-- `now`, and each row and each record was written below it.
pub record IsSound (p : Parts) : Type 0 where
  pub inc : p.logs.inc ≡ p.inc
  pub begun : 0 < p.now
  pub last : p.now ≤ last_scn
  pub first : All (λ l. l.first ≤ p.now) p.logs.threads
  pub rows : HasRowsBelow p.now p.files
  pub records : All (λ l. All (λ r. r.scn < p.now) l.records) p.logs.threads
