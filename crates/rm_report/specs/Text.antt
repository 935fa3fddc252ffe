-- The text of a reply.
use Rattle.std.specs.{Prelude.{ℕ, ◌/◌, ◌%◌, Bool, false, true, List, [], ◌∷◌, ◌++◌, codes}, List.{flat_map}, Fmt.{decimal, digit_glyph}}
use Rattle.rm_base.specs.{Content.{trimmed}, declared.{block.Block.{Block}, refusal.Absent.{Absent}}}
use Rattle.rm_base.specs.declared.refusal.{Absent.TheVariants.{Thread, File, Block as BlockOf}, Limit.{Limit}}
use Rattle.rm_base.specs.declared.refusal.Limit.TheVariants.{Threads, Files, FileBlocks, Blocks, Channels, Incarnations, Records, Bytes, ObjectIds, Sequences, LogRecords, WindowDays, Redundancy}
use Rattle.rm_base.specs.declared.refusal.{ThreadState.{ThreadState, TheVariants.{Enabled, Disabled, Last}}, Unknown.{Unknown}}
use Rattle.rm_base.specs.declared.refusal.{Unknown.TheVariants.{Entry, Tag, Log, Object, Byte}, Refusal.{Refusal}}
use Rattle.rm_base.specs.declared.refusal.Refusal.TheVariants.{Rm01, Rm02, Rm03, Rm04, Rm05, Rm06, Rm07, Rm08, Rm09, Rm10, Rm11, Rm12, Rm13, Rm14, Rm15, Rm16, Rm17, Rm18, Rm19}
use Rattle.rm_base.specs.declared.kinds.{Bad.{Bad, TheVariants.{Missing, Damaged as DamagedObject}}, Status.{Status}}
use Rattle.rm_base.specs.declared.kinds.{Status.TheVariants.{Available, Unavailable, Expired}, Policy.{Policy}}
use Rattle.rm_base.specs.declared.kinds.Policy.TheVariants.{Window, Redundancy as RedundancyPolicy, Nothing}
use Rattle.rm_moments.specs.Shown.{moment_text}
use Rattle.rm_history.specs.declared.tree.Standing.{Standing, TheVariants.{Current, Parent, Orphan}}
use Rattle.rm_report.specs.declared.line.{Packing.{Packing, TheVariants.{Piece, Copy, Set}}, Shape.{Shape}}
use Rattle.rm_report.specs.declared.line.{Shape.TheVariants.{Full, Level0, Level1}, SchemaPlace.{SchemaPlace}}
use Rattle.rm_report.specs.declared.line.{SchemaPlace.TheVariants.{At, Lost, OffPath}, Line.{Line}}
use Rattle.rm_report.specs.declared.line.Line.TheVariants.{DatabaseAt, DatafileAt, Written, LogMade, NothingToArchive, Mounted, Opened, Chosen, Recovered, UntilIs, FileIs, BlockIs, BackedUp, NothingToBackUp, IncarnationIs, Dumped, Tracking, ThreadSwitched, Skipped, RestoredFrom, CreatedEmpty, Complete, GapIn, Merged, Stays, StartsAbove, BlockDamaged, Mended, ThreadScn, StatusOf, BadOf, Checked, Uncatalogued, Kept, NotKept, Deleted, DeletedCount, Obsolete, ObsoleteCount, NeedsBackup, NeedCount, Parallelism, Catalogued, FileLost, LogLost, Removed, Damaged, Cut, Renamed, UntilSet, ChannelAllocated, Schema, PieceIs, LogIs, Retention, DuplicatedDatafile, DuplicatedDatabase, Rolled, StandbyMade, StandbyRolled, Resynced, Refused}
use Rattle.rm_report.specs.declared.line.Reply.{Reply}

-- a byte's two digits in lower-case hexadecimal
abbrev pub byte_text : ℕ → List ℕ
byte_text byte = digit_glyph false (byte / 16) ∷ digit_glyph false (byte % 16) ∷ []

-- the digits of these bytes, or `-` for none
abbrev pub bytes_text : List ℕ → List ℕ
bytes_text [] = codes "-"
bytes_text (x ∷ xs) = flat_map byte_text (x ∷ xs)

-- a block's content without the zero bytes at its end
abbrev pub content_text : Block → List ℕ
content_text content = bytes_text (trimmed content.0)

-- a limit's name and number
abbrev pub limit_text : Limit → List ℕ
limit_text Threads = codes "threads 4"
limit_text Files = codes "files 64"
limit_text FileBlocks = codes "blocks per file 65536"
limit_text Blocks = codes "blocks 131072"
limit_text Channels = codes "channels 16"
limit_text Incarnations = codes "incarnations 256"
limit_text Records = codes "records 65536"
limit_text Bytes = codes "bytes 268435456"
limit_text ObjectIds = codes "object ids 4294967295"
limit_text Sequences = codes "sequences 4294967295"
limit_text LogRecords = codes "log records 65536"
limit_text WindowDays = codes "window days 36500"
limit_text Redundancy = codes "redundancy 1000"

-- the line for a thread, a file or a block that is not there
abbrev pub absent_text : Absent → List ℕ
absent_text (Thread thread) = codes "RM-05: no thread " ++ decimal thread
absent_text (File file) = codes "RM-05: no datafile " ++ decimal file
absent_text (BlockOf block file) = codes "RM-05: no block " ++ (decimal block ++ (codes " in datafile " ++ decimal file))

-- the line for a record, a tag, a log, an object or a byte that is not there
abbrev pub unknown_text : Unknown → List ℕ
unknown_text (Entry entry) = codes "RM-12: no record " ++ decimal entry
unknown_text (Tag tag) = codes "RM-12: no tag " ++ tag
unknown_text (Log sequence thread) = codes "RM-12: no log " ++ (decimal sequence ++ (codes " of thread " ++ decimal thread))
unknown_text (Object name) = codes "RM-12: no object " ++ name
unknown_text (Byte at name) = codes "RM-12: no byte " ++ (decimal at ++ (codes " in " ++ name))

-- how a thread is that can't be switched
abbrev pub thread_state_text : ThreadState → List ℕ
thread_state_text Enabled = codes "enabled"
thread_state_text Disabled = codes "disabled"
thread_state_text Last = codes "the last"

-- the line of a refusal
abbrev pub refusal_text : Refusal → List ℕ
refusal_text (Rm01 line) = codes "RM-01: syntax at line " ++ decimal line
refusal_text Rm02 = codes "RM-02: no database"
refusal_text Rm03 = codes "RM-03: a database is there"
refusal_text (Rm04 false) = codes "RM-04: mode is open"
refusal_text (Rm04 true) = codes "RM-04: mode is mounted"
refusal_text (Rm05 absent) = absent_text absent
refusal_text (Rm06 until low high) = codes "RM-06: until " ++ (decimal until ++ (codes " is outside " ++ (decimal low ++ (codes ".." ++ decimal high))))
refusal_text (Rm07 inc) = codes "RM-07: no incarnation " ++ decimal inc
refusal_text (Rm08 file block scn inc) = codes "RM-08: gap in datafile " ++ (decimal file ++ (codes " block " ++ (decimal block ++ (codes " at " ++ (decimal scn ++ (codes " of incarnation " ++ decimal inc))))))
refusal_text (Rm09 file) = codes "RM-09: datafile " ++ (decimal file ++ codes " is lost, restore it first")
refusal_text Rm10 = codes "RM-10: recovery isn't done for this opening"
refusal_text (Rm11 limit) = codes "RM-11: limit " ++ limit_text limit
refusal_text (Rm12 unknown) = unknown_text unknown
refusal_text (Rm13 name) = codes "RM-13: name " ++ (name ++ codes " is taken")
refusal_text (Rm14 moment) = codes "RM-14: no mark at or before " ++ moment_text moment
refusal_text Rm15 = codes "RM-15: last SCN"
refusal_text (Rm16 thread state) = codes "RM-16: thread " ++ (decimal thread ++ (codes " is " ++ thread_state_text state))
refusal_text (Rm17 file block) = codes "RM-17: block " ++ (decimal block ++ (codes " of datafile " ++ (decimal file ++ codes " is damaged")))
refusal_text (Rm18 file block) = codes "RM-18: block " ++ (decimal block ++ (codes " of datafile " ++ (decimal file ++ codes " isn't damaged")))
refusal_text (Rm19 increment from standby) = codes "RM-19: increment " ++ (decimal increment ++ (codes " from " ++ (decimal from ++ (codes " does not meet standby at " ++ decimal standby))))

-- a block's number, version and content
abbrev pub block_text : ℕ → ℕ → Block → List ℕ
block_text block version content = codes "block " ++ (decimal block ++ (codes " version " ++ (decimal version ++ (codes " value " ++ content_text content))))

-- how an incarnation stands to the current one
abbrev pub standing_text : Standing → List ℕ
standing_text Current = codes "current"
standing_text Parent = codes "parent"
standing_text Orphan = codes "orphan"

-- what a backup is: a piece, a copy or a set
abbrev pub backup_text : Packing → List ℕ
backup_text Piece = codes "piece"
backup_text Copy = codes "copy"
backup_text Set = codes "set"

-- what a backup holds
abbrev pub shape_text : Shape → List ℕ
shape_text Full = codes "full"
shape_text Level0 = codes "level 0"
shape_text (Level1 from) = codes "level 1 from " ++ decimal from

-- on or off
abbrev pub on_text : Bool → List ℕ
on_text true = codes "on"
on_text false = codes "off"

-- a thread comes or goes
abbrev pub switched_text : Bool → List ℕ
switched_text true = codes "enabled"
switched_text false = codes "disabled"

-- what is wrong with an object
abbrev pub bad_text : Bad → List ℕ
bad_text Missing = codes "missing"
bad_text DamagedObject = codes "damaged"

-- the status of a record
abbrev pub status_text : Status → List ℕ
status_text Available = codes "available"
status_text Unavailable = codes "unavailable"
status_text Expired = codes "expired"

-- whether a record is kept
abbrev pub keep_text : Bool → List ℕ
keep_text true = codes " keep"
keep_text false = codes ""

-- where a datafile stands
abbrev pub place_text : SchemaPlace → List ℕ
place_text (At checkpoint) = codes " in place at " ++ decimal checkpoint
place_text Lost = codes " lost"
place_text OffPath = codes " off path"

-- which backups are kept
abbrev pub policy_text : Policy → List ℕ
policy_text (Window days) = codes "retention window " ++ decimal days
policy_text (RedundancyPolicy count) = codes "retention redundancy " ++ decimal count
policy_text Nothing = codes "retention none"

-- a line, without its line feed
abbrev pub line_text : Line → List ℕ
line_text (DatabaseAt dbid scn) = codes "database " ++ (decimal dbid ++ (codes " incarnation 1 at " ++ decimal scn))
line_text (DatafileAt file scn blocks) = codes "datafile " ++ (decimal file ++ (codes " created at " ++ (decimal scn ++ (codes " with " ++ (decimal blocks ++ codes " blocks")))))
line_text (Written scn) = codes "scn " ++ decimal scn
line_text (LogMade id thread sequence from next) = codes "log " ++ (decimal id ++ (codes " thread " ++ (decimal thread ++ (codes " sequence " ++ (decimal sequence ++ (codes " first " ++ (decimal from ++ (codes " next " ++ decimal next))))))))
line_text (NothingToArchive thread) = codes "thread " ++ (decimal thread ++ codes " nothing to archive")
line_text Mounted = codes "mounted"
line_text (Opened inc scn) = codes "opened incarnation " ++ (decimal inc ++ (codes " at " ++ decimal scn))
line_text (Chosen inc) = codes "incarnation " ++ (decimal inc ++ codes " chosen")
line_text (Recovered until inc files) = codes "recovered until " ++ (decimal until ++ (codes " of incarnation " ++ (decimal inc ++ (codes ": files " ++ decimal files))))
line_text (UntilIs until inc files) = codes "until " ++ (decimal until ++ (codes " of incarnation " ++ (decimal inc ++ (codes ": files " ++ decimal files))))
line_text (FileIs file blocks written) = codes "datafile " ++ (decimal file ++ (codes ": " ++ (decimal blocks ++ (codes " blocks, " ++ (decimal written ++ codes " written")))))
line_text (BlockIs block version content) = block_text block version content
line_text (BackedUp packing id file shape checkpoint rows reads) = backup_text packing ++ (codes " " ++ (decimal id ++ (codes " datafile " ++ (decimal file ++ (codes " " ++ (shape_text shape ++ (codes " checkpoint " ++ (decimal checkpoint ++ (codes " rows " ++ (decimal rows ++ (codes " read " ++ decimal reads)))))))))))
line_text NothingToBackUp = codes "nothing to back up"
line_text (IncarnationIs inc parent reset end standing) = codes "incarnation " ++ (decimal inc ++ (codes " parent " ++ (decimal parent ++ (codes " reset at " ++ (decimal reset ++ (codes " end " ++ (decimal end ++ (codes " " ++ standing_text standing))))))))
line_text (Dumped file block version content) = codes "datafile " ++ (decimal file ++ (codes " " ++ block_text block version content))
line_text (Tracking on) = codes "tracking " ++ on_text on
line_text (ThreadSwitched thread on scn) = codes "thread " ++ (decimal thread ++ (codes " " ++ (switched_text on ++ (codes " at " ++ decimal scn))))
line_text (Skipped id bad) = codes "skipped " ++ (decimal id ++ (codes " " ++ bad_text bad))
line_text (RestoredFrom file id checkpoint) = codes "datafile " ++ (decimal file ++ (codes " from " ++ (decimal id ++ (codes " at " ++ decimal checkpoint))))
line_text (CreatedEmpty file) = codes "datafile " ++ (decimal file ++ codes " created empty")
line_text Complete = codes "complete"
line_text (GapIn file block scn inc) = codes "gap in datafile " ++ (decimal file ++ (codes " block " ++ (decimal block ++ (codes " at " ++ (decimal scn ++ (codes " of incarnation " ++ decimal inc))))))
line_text (Merged id file checkpoint) = codes "copy " ++ (decimal id ++ (codes " datafile " ++ (decimal file ++ (codes " merged to checkpoint " ++ decimal checkpoint))))
line_text (Stays id file checkpoint) = codes "copy " ++ (decimal id ++ (codes " datafile " ++ (decimal file ++ (codes " stays at checkpoint " ++ decimal checkpoint))))
line_text (StartsAbove id from checkpoint) = codes "level 1 " ++ (decimal id ++ (codes " from " ++ (decimal from ++ (codes " starts above checkpoint " ++ decimal checkpoint))))
line_text (BlockDamaged file block) = codes "datafile " ++ (decimal file ++ (codes " block " ++ (decimal block ++ codes " damaged")))
line_text (Mended file block version) = codes "datafile " ++ (decimal file ++ (codes " block " ++ (decimal block ++ (codes " mended to version " ++ decimal version))))
line_text (ThreadScn thread scn) = codes "thread " ++ (decimal thread ++ (codes " scn " ++ decimal scn))
line_text (StatusOf id status) = decimal id ++ (codes " " ++ status_text status)
line_text (BadOf id bad) = decimal id ++ (codes " " ++ bad_text bad)
line_text (Checked count bad) = decimal count ++ (codes " checked, " ++ (decimal bad ++ codes " bad"))
line_text (Uncatalogued id) = decimal id ++ codes " uncatalogued"
line_text (Kept id) = decimal id ++ codes " kept"
line_text (NotKept id) = decimal id ++ codes " not kept"
line_text (Deleted id) = codes "deleted " ++ decimal id
line_text (DeletedCount count) = decimal count ++ codes " deleted"
line_text (Obsolete id) = codes "obsolete " ++ decimal id
line_text (ObsoleteCount count) = decimal count ++ codes " obsolete"
line_text (NeedsBackup file) = codes "datafile " ++ (decimal file ++ codes " needs backup")
line_text (NeedCount count) = decimal count ++ codes " need backup"
line_text (Parallelism channels) = codes "parallelism " ++ decimal channels
line_text (Catalogued id) = decimal id ++ codes " catalogued"
line_text (FileLost file) = codes "datafile " ++ (decimal file ++ codes " lost")
line_text (LogLost thread) = codes "log of thread " ++ (decimal thread ++ codes " lost")
line_text Removed = codes "removed"
line_text Damaged = codes "damaged"
line_text Cut = codes "cut"
line_text Renamed = codes "renamed"
line_text UntilSet = codes "until set"
line_text ChannelAllocated = codes "channel allocated"
line_text (Schema file blocks scn inc place) = codes "datafile " ++ (decimal file ++ (codes " blocks " ++ (decimal blocks ++ (codes " created at " ++ (decimal scn ++ (codes " of incarnation " ++ (decimal inc ++ place_text place)))))))
line_text (PieceIs packing id file shape checkpoint high status tag keep) = backup_text packing ++ (codes " " ++ (decimal id ++ (codes " datafile " ++ (decimal file ++ (codes " " ++ (shape_text shape ++ (codes " checkpoint " ++ (decimal checkpoint ++ (codes " high " ++ (decimal high ++ (codes " " ++ (status_text status ++ (codes " tag " ++ (tag ++ keep_text keep))))))))))))))
line_text (LogIs id thread sequence from next inc status keep) = codes "log " ++ (decimal id ++ (codes " thread " ++ (decimal thread ++ (codes " sequence " ++ (decimal sequence ++ (codes " first " ++ (decimal from ++ (codes " next " ++ (decimal next ++ (codes " of incarnation " ++ (decimal inc ++ (codes " " ++ (status_text status ++ keep_text keep)))))))))))))
line_text (Retention policy) = policy_text policy
line_text (DuplicatedDatafile file number) = codes "duplicated datafile " ++ (decimal file ++ (codes " as " ++ decimal number))
line_text (DuplicatedDatabase dbid until files) = codes "duplicated database " ++ (decimal dbid ++ (codes " at " ++ (decimal until ++ (codes ": files " ++ decimal files))))
line_text (Rolled id from checkpoint files rows) = codes "roll " ++ (decimal id ++ (codes " from " ++ (decimal from ++ (codes " checkpoint " ++ (decimal checkpoint ++ (codes " files " ++ (decimal files ++ (codes " rows " ++ decimal rows))))))))
line_text (StandbyMade number checkpoint inc files) = codes "standby " ++ (decimal number ++ (codes " at " ++ (decimal checkpoint ++ (codes " of incarnation " ++ (decimal inc ++ (codes ": files " ++ decimal files))))))
line_text (StandbyRolled number checkpoint inc files changed) = codes "standby " ++ (decimal number ++ (codes " at " ++ (decimal checkpoint ++ (codes " of incarnation " ++ (decimal inc ++ (codes ": files " ++ (decimal files ++ (codes " changed " ++ decimal changed))))))))
line_text (Resynced records) = codes "resynced " ++ (decimal records ++ codes " records")
line_text (Refused refusal) = refusal_text refusal

-- the line tells of a file's blocks
abbrev pub tells_blocks : Line → Bool
tells_blocks (FileIs file blocks written) = true
tells_blocks (BlockIs block version content) = true
tells_blocks (Dumped file block version content) = true
tells_blocks line = false

-- the line tells of a log or an incarnation
abbrev pub tells_history : Line → Bool
tells_history (LogMade id thread sequence from next) = true
tells_history (IncarnationIs inc parent reset end standing) = true
tells_history line = false

-- the line tells of a backup
abbrev pub tells_backup : Line → Bool
tells_backup (BackedUp packing id file shape checkpoint rows reads) = true
tells_backup line = false

-- the line tells of a record
abbrev pub tells_record : Line → Bool
tells_record (PieceIs packing id file shape checkpoint high status tag keep) = true
tells_record (LogIs id thread sequence from next inc status keep) = true
tells_record line = false

-- a line and one line feed
abbrev pub full_line : Line → List ℕ
full_line line = line_text line ++ 10 ∷ []

-- the lines in order
abbrev pub reply_text : Reply → List ℕ
reply_text reply = flat_map full_line reply.lines
