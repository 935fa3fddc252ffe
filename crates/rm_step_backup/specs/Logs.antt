-- What was looked at of archived logs.
use Rattle.std.specs.Prelude.{ℕ, ◌≤◌, ◌+◌, List, [], All, Contains, length}
use Rattle.rm_base.specs.{Store.{Held}, declared.kinds.Bad.{Bad}}
use Rattle.rm_catalog.specs.declared.record.LogEntry.{LogEntry}
use Rattle.rm_evidence.specs.{Available.{IsSkipped, IsSkippedAmong}, Database.{Database}, Gathered.{ById, IsLogOf, Lists}, Taking.{Extends}}
use Rattle.rm_evidence.specs.Objects.{HasLogFields}
use Rattle.rm_machine.specs.BackupLogs.{archived_in}
use Rattle.rm_redo.specs.{LogFormat.{IsLogFile}, declared.log_file.LogFile.{LogFile}}
use Rattle.rm_step_backup.specs.declared.looking.Looked.{Looked}

-- the records of logs alone tell of none, and no log is compared with one
abbrev pub no_database : Database
no_database = record { dbid = 0; files = [] }

-- it grew by exactly what the store has of the archived logs among these
pub record Adds (held : Held) (logs : List LogEntry) (old new : Looked) : Type 0 where
  pub found : Extends LogFile ById old.found (IsLogOf held (archived_in logs)) new.found
  pub skipped : Extends Bad ById old.skipped (IsSkippedAmong held no_database (archived_in logs)) new.skipped

-- it is that
pub record IsAll (held : Held) (logs : List LogEntry) (all : Looked) : Type 0 where
  pub found : Lists LogFile [] (IsLogOf held (archived_in logs)) all.found
  pub skipped : Lists Bad [] (IsSkipped held (archived_in logs)) all.skipped

-- one of these records tells of the log
abbrev pub IsRecorded : List LogEntry → LogFile → Type 0
IsRecorded logs a = (e : LogEntry) × Contains logs e × IsLogFile a × HasLogFields e a

-- so for each of them, and they are so few
pub record AreRecorded (logs : List LogEntry) (n : ℕ) (found : List (ℕ × LogFile)) : Type 0 where
  pub each : All (λ x. IsRecorded logs x.1) found
  pub few : length found ≤ n

-- where this record is one of them, one log more at most is recorded
abbrev pub KeepsRecords : LogEntry → Looked → Looked → Type 0
KeepsRecords e old new = (logs : List LogEntry) (n : ℕ) → Contains logs e → AreRecorded logs n old.found → AreRecorded logs (n + 1) new.found
