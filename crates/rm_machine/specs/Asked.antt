-- What a BACKUP asks of its channels, and a DURING of its writers.
use Rattle.std.specs.Prelude.{ℕ, zero, suc, ◌<◌, ◌^◌, ◌==◌, unwrap_or, Bool, Option, List, [], ◌∷◌, filter, length, map}
use Rattle.std.specs.Option.{option_and_then, option_map_or}
use Rattle.rm_channel.specs.{Jobs.{Span}, declared.jobs.WriteJob.{WriteJob}}
use Rattle.rm_lang_statement.specs.declared.command.{BackupForm.{BackupForm}, WriteForm.{WriteForm}}
use Rattle.rm_live.specs.Ruled.{upto}
use Rattle.rm_track.specs.{Bitmaps.{candidates_at}, Bits.{blocks_from}}
use Rattle.rm_machine.specs.{Backup.{rows_in}, declared.{job.Job.{Job}, state.State.{State}}}

-- the writes that a DURING asks for, in the order of the text
abbrev pub asked : Option (List WriteForm) → List WriteForm
asked during = unwrap_or during []

-- those of a BACKUP
abbrev pub writes_in : BackupForm → List WriteForm
writes_in b = asked b.during

-- its numbers are those of a datafile and a block
abbrev pub FitsNumbers : WriteForm → Type 0
FitsNumbers w = (w.file < 2 ^ 32) × (w.block < 2 ^ 32)

-- a write, as its thread's writer has it
abbrev pub write_job : WriteForm → WriteJob
write_job w = record { file = w.file; block = w.block; content = w.content }

-- those of thread t, in order
abbrev pub by_thread : ℕ → List WriteForm → List WriteJob
by_thread t ws = map write_job (filter (λ w. w.thread == t) ws)

-- a list for each of n threads, from thread t on
abbrev pub lists_from : ℕ → ℕ → List WriteForm → List (List WriteJob)
lists_from t zero ws = []
lists_from t (suc n) ws = by_thread t ws ∷ lists_from (suc t) n ws

-- a list for each of the threads 1 to 4
abbrev pub writers_in : State → Option (List WriteForm) → List (List WriteJob)
writers_in s during = lists_from 1 4 (asked during)

-- those of a BACKUP
abbrev pub writers_of : State → BackupForm → List (List WriteJob)
writers_of s b = writers_in s b.during

-- The blocks of a datafile that changed since the checkpoint of its level 1's parent, as its bitmaps tell. None where all blocks are
-- backed up, or the bitmaps do not go so far back.
abbrev pub candidates_in : State → Job → Option (List Bool)
candidates_in s j = option_and_then (candidates_at s.instance.tracker j.file) j.from

-- the blocks that are read of a datafile, ascending: those, or else all
abbrev pub blocks_read : State → Job → List ℕ
blocks_read s j = option_map_or (blocks_from 0) (candidates_in s j) (upto 0 (length (rows_in s j.file)))

abbrev pub span_of : State → Job → Span
span_of s j = record { file = j.file; blocks = blocks_read s j }
