-- BACKUP of datafiles: full, of level 0 or of level 1, while the database may write
use Rattle.std.specs.Prelude.{ℕ, suc, ◌≡◌, Ok, List, [], ◌∷◌, ◌++◌, map}
use Rattle.rm_base.specs.declared.block.Row.{Row}
use Rattle.rm_channel.specs.{Jobs.{AreAsLong, AreRows, deeds_of}, Made.{AreThese, deed}}
use Rattle.rm_live.specs.{History.{IsLegal}, declared.history.Event.{Event}}
use Rattle.rm_report.specs.declared.line.Line.{Line, TheVariants.{ThreadScn}}
use Rattle.rm_lang_statement.specs.declared.command.BackupForm.{BackupForm}
use Rattle.rm_machine.specs.{Asked.{span_of, writers_of}, Backup.{AreJobs, IsTagBy, named_tag, or_nothing, taken}}
use Rattle.rm_machine.specs.{Effect.{Effect, Outcome, done}, Events.{after_events, changes_of, opening}}
use Rattle.rm_machine.specs.{MadeObjects.{Packed, after_objects, object_lines, objects_made, objects_put, packed}, Marks.{marked_for}}
use Rattle.rm_machine.specs.{State.{ledger, now_of}, Tracked.{switch_all, with_tracker}, declared.{job.Job.{Job}, state.State.{State}}}

-- the SCNs of the writes, thread by thread from t on
abbrev pub write_lines : ℕ → List (List ℕ) → List Line
write_lines t [] = []
write_lines t (scns ∷ rest) = map (λ scn. ThreadScn t scn) scns ++ write_lines (suc t) rest

-- the database after the mark that comes before the writes, where it has a DURING
abbrev pub marked : State → BackupForm → State
marked s b = marked_for s b.during

-- the database as channels and writers find it: behind the mark, and of each datafile that is backed up the current bitmap ends at `now`
abbrev pub begun : State → BackupForm → State
begun s b = with_tracker (marked s b) (switch_all (now_of s) (taken s b) s.instance.tracker)

-- the database after the events
abbrev pub at_end : State → BackupForm → List Event → State
at_end s b events = after_events (begun s b) events

-- what objects and events leave outside
abbrev pub effect_of : State → BackupForm → List ℕ → List Event → List Packed → Effect
effect_of s b tag events xs =
    record {
      changes = changes_of (begun s b) events;
      made = objects_made (at_end s b events) b tag xs;
      puts = objects_put (at_end s b events) b tag xs;
      removes = [];
    }

-- the lines of objects and writes
abbrev pub lines_by : State → BackupForm → List ℕ → List Packed → List (List ℕ) → List Line
lines_by t b tag xs scns = or_nothing (object_lines t b tag xs) ++ write_lines 1 scns

-- There is a legal list of events over the database at its start: one read of each block that is wanted of each datafile and one write
-- of each that is asked for, those of a thread in their order, and nothing else. Each write took an SCN. The objects have the rows
-- that the reads found, and `now` at the start as their checkpoint; the database has the writes.
pub record IsBackupOutcome (s : State) (b : BackupForm) (o : Outcome) : Type 0 where
  pub tag : List ℕ
  pub tagged : IsTagBy (named_tag b) (ledger s).base.moment tag
  pub jobs : List Job
  pub are : AreJobs s b jobs
  pub rows : List (List Row)
  pub whole : AreRows rows (map (span_of (begun s b)) jobs)
  pub scns : List (List ℕ)
  pub each : AreAsLong scns (writers_of s b)
  pub events : List Event
  pub legal : IsLegal (opening (begun s b)) events
  pub these : AreThese (deeds_of (map (span_of (begun s b)) jobs) rows 1 (writers_of s b) (map (map Ok) scns)) (map deed events)
  pub is : o ≡ done (lines_by (at_end s b events) b tag (packed (ledger s) b (now_of s) jobs rows) scns)
      (effect_of s b tag events (packed (ledger s) b (now_of s) jobs rows))
      (after_objects (at_end s b events) b tag (packed (ledger s) b (now_of s) jobs rows))
