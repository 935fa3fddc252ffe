-- The logs that switches close, and what they tell.
use Rattle.std.specs.Prelude.{ℕ, ◌==◌, Bool, List, map}
use Rattle.rm_base.specs.declared.block.Change.{Change}
use Rattle.rm_history.specs.Artefacts.{Log}
use Rattle.rm_redo.specs.{Logs.{Logs}, Online.{first_of, thread_records, sequence_of}, declared.online.LogRecord.{LogRecord}}
use Rattle.rm_redo.specs.declared.log_file.LogFile.{LogFile}

-- the log of a thread, which tells up to, and without, `next`
abbrev pub log_file_of : Logs → ℕ → ℕ → LogFile
log_file_of logs t next =
    record { dbid = logs.dbid; inc = logs.inc; thread = t; sequence = sequence_of logs t; first = first_of logs t; next = next; records = thread_records logs t }

-- the changes of which records of a thread tell
abbrev pub changes_in : ℕ → ℕ → List LogRecord → List Change
changes_in inc thread records =
    map (λ r. record { inc = inc; thread = thread; scn = r.scn; file = r.file; block = r.block; content = r.content }) records

-- the changes of which a log tells
abbrev pub changes_of : LogFile → List Change
changes_of l = changes_in l.inc l.thread l.records

-- the log as an artefact
abbrev pub log_of : LogFile → Log
log_of l = record { inc = l.inc; thread = l.thread; sequence = l.sequence; first = l.first; next = l.next; changes = changes_of l }

-- the change is one of this thread
abbrev pub is_of_thread : ℕ → Change → Bool
is_of_thread t c = c.thread == t
