-- BACKUP ARCHIVELOG ALL: of each archived log that is available a second object is made
use Rattle.std.specs.Prelude.{ℕ, ◌≡◌, ◌+◌, ◌*◌, if◌then◌else◌, false, Option, Some, None, List, [], ◌∷◌, ◌++◌, filter, length, map, sum_by}
use Rattle.std.specs.Option.{option_map_or}
use Rattle.rm_base.specs.{Store.{Held}, declared.{kinds.Bad.{Bad}, refusal.Limit.TheVariants.{Records, Bytes, ObjectIds}}}
use Rattle.rm_base.specs.declared.refusal.Refusal.{Refusal, TheVariants.{Rm11}}
use Rattle.rm_catalog.specs.declared.record.{LogEntry.{LogEntry}, Record.{Record, TheVariants.{Log}}}
use Rattle.rm_commit.specs.declared.commit.Object.{Object}
use Rattle.rm_evidence.specs.{Available.{IsSkipped}, Gathered.{IsLogOf, Lists}, Names.{log_name}}
use Rattle.rm_redo.specs.{LogFormat.{spelling}, declared.log_file.LogFile.{LogFile}}
use Rattle.rm_report.specs.declared.line.Line.{Line, TheVariants.{LogMade}}
use Rattle.rm_catalog_typed.specs.{Changes.{with_new_log}, TypedCatalog.{TypedCatalog}}
use Rattle.rm_machine.specs.{Backup.{or_nothing}, Effect.{Effect, Made, Outcome, a_log, done, no_effect, refused}}
use Rattle.rm_machine.specs.{Marks.{lacks_bytes, lacks_ids, lacks_room}, Recovery.{skipped_lines}, State.{ledger}}
use Rattle.rm_machine.specs.{SwitchLogfile.{log_entry}, Upkeep.{with_catalog}, declared.state.State.{State}}

-- the records of archived logs among these: a backup of a log is not backed up again
abbrev pub archived_in : List LogEntry → List Record
archived_in logs = map Log (filter (λ e. e.archived) logs)

-- the size of a log as a file: 70 bytes, and 80 for each record
abbrev pub file_bytes : LogFile → ℕ
file_bytes a = 70 + 80 * length a.records

-- why these logs can't be backed up: no record is left, no bytes, or no id (a save may draw 68)
abbrev pub copies_refusal : State → List LogFile → Option Refusal
copies_refusal s logs =
    if lacks_room s (length logs) then Some (Rm11 Records)
    else if lacks_bytes s (sum_by file_bytes logs) then Some (Rm11 Bytes)
    else if lacks_ids s (length logs) then Some (Rm11 ObjectIds)
    else None

-- these logs, each beside an id: n and those that follow
abbrev pub numbered_from : ℕ → List LogFile → List (ℕ × LogFile)
numbered_from n [] = []
numbered_from n (a ∷ logs) = (n, a) ∷ numbered_from (n + 1) logs

-- the same, beside the next ids
abbrev pub copies_of : State → List LogFile → List (ℕ × LogFile)
copies_of s logs = numbered_from (ledger s).base.next_id logs

-- the record of a backup of a log: as that of an archived log, but that it is none
abbrev pub copy_entry : ℕ × LogFile → LogEntry
copy_entry x = record (log_entry x.0 x.1) { archived = false }

-- the catalog with these backups of logs more
abbrev pub with_copies : TypedCatalog → List (ℕ × LogFile) → TypedCatalog
with_copies r [] = r
with_copies r (x ∷ xs) = with_copies (with_new_log r (copy_entry x)) xs

-- the line of one, its artefact, and its object, which has the bytes of the archived log's
abbrev pub copy_line : ℕ × LogFile → Line
copy_line x = LogMade x.0 x.1.thread x.1.sequence x.1.first x.1.next

abbrev pub copy_made : ℕ × LogFile → Made
copy_made x = record { name = log_name x.0; artefact = a_log x.1 }

abbrev pub copy_object : ℕ × LogFile → Object
copy_object x = record { name = log_name x.0; bytes = spelling x.1 }

-- what they make
abbrev pub copying : List (ℕ × LogFile) → Effect
copying xs = record no_effect { made = map copy_made xs; puts = map copy_object xs }

-- they are made, after it is told which logs are skipped
abbrev pub makes_copies : State → List (ℕ × Bad) → List (ℕ × LogFile) → Outcome
makes_copies s skipped xs =
    done (skipped_lines skipped ++ or_nothing (map copy_line xs)) (copying xs) (with_catalog s (with_copies s.catalog xs))

-- Of the archived logs that count as available, those whose objects are missing or damaged are told as skipped, and
-- the others are backed up under the next ids, if there is room for them.
pub record IsBackupLogsOutcome (s : State) (held : Held) (o : Outcome) : Type 0 where
  pub skipped : List (ℕ × Bad)
  pub misses : Lists Bad [] (IsSkipped held (archived_in (ledger s).logs)) skipped
  pub found : List (ℕ × LogFile)
  pub finds : Lists LogFile [] (IsLogOf held (archived_in (ledger s).logs)) found
  pub is : o ≡ option_map_or refused (copies_refusal s (map (λ x. x.1) found)) (makes_copies s skipped (copies_of s (map (λ x. x.1) found)))
