-- What a database at hand shows: its incarnations, what stands in place, and its logs.
use Rattle.std.specs.Prelude.{ℕ, ◌-◌, ◌==◌, ◌&&◌, ◌||◌, not, if◌then◌else◌, Bool, false, Option, Some, None, List, slice_get, slice_index_or}
use Rattle.std.specs.{List.{list_any}, Option.{option_and_then, option_map_or}}
use Rattle.rm_blocks.specs.File.{File, standing}
use Rattle.rm_history.specs.{Tree.{end_of}, World.{file_of, exists}, declared.{tree.Incarnation.{Incarnation}, world.Datafile.{Datafile}}}
use Rattle.rm_history.specs.declared.world.World.{World}
use Rattle.rm_catalog_typed.specs.{Ledger.{Ledger}, Worlds.{world_of}, Changes.{with_moment, without_saved}}
use Rattle.rm_redo.specs.{LogFile.{log_file_of}, Logs.{Logs}, Online.{has_log}, declared.log_file.LogFile.{LogFile}}
use Rattle.rm_machine.specs.declared.state.State.{State}

-- the records of its database, a saved site left aside
abbrev pub ledger : State → Ledger
ledger s = s.catalog.ledger

-- its incarnations
abbrev pub tree : State → List Incarnation
tree s = s.catalog.ledger.tree

-- the database as recovery knows it
abbrev pub world : State → World
world s = world_of (ledger s)

-- the current incarnation
abbrev pub current_of : State → ℕ
current_of s = s.catalog.ledger.base.current

-- the SCN that the next change takes
abbrev pub now_of : State → ℕ
now_of s = end_of (tree s) (current_of s)

-- the SCN up to which the online logs tell
abbrev pub redo_end : State → ℕ
redo_end s = end_of (tree s) s.instance.logs.inc

-- what stands in place of the datafile of this number
abbrev pub placed : State → ℕ → Option File
placed s f = slice_index_or s.instance.place (f - 1) None

-- as what it counts: in an open database as one of the current incarnation at `now`
abbrev pub counted : State → File → File
counted s x = if s.instance.is_open then standing x (current_of s) (now_of s) else x

-- the online log of a thread, which tells up to the end of its incarnation
abbrev pub online : State → ℕ → LogFile
online s t = log_file_of s.instance.logs t (redo_end s)

-- the log of the thread is lost
abbrev pub is_lost : Logs → ℕ → Bool
is_lost logs t = option_map_or (λ l. l.is_lost) (slice_get logs.threads (t - 1)) false

-- the thread has an online log that is not lost
abbrev pub is_online : Logs → ℕ → Bool
is_online logs t = has_log logs t && not (is_lost logs t)

-- a log is lost
abbrev pub has_lost : Logs → Bool
has_lost logs = list_any (λ l. l.is_there && l.is_lost) logs.threads

-- no redo thread of this number has an online log, lost or not
abbrev pub is_no_thread : State → ℕ → Bool
is_no_thread s t = (t == 0) || not (has_log s.instance.logs t)

-- the datafile of this number, where it exists at (i, at)
abbrev pub datafile_at : State → ℕ → ℕ → ℕ → Option Datafile
datafile_at s i at f = option_and_then (λ d. if exists (world s) i at d then Some d else None) (file_of (world s) f)

-- the datafile of this number, where it is on the current path
abbrev pub on_path : State → ℕ → Option Datafile
on_path s f = datafile_at s (current_of s) (now_of s) f

-- The state on which a statement acts: its moment is kept, and no site is saved any longer.
abbrev pub at_moment : State → ℕ → State
at_moment s moment = record s { catalog = without_saved (with_moment s.catalog moment) }
