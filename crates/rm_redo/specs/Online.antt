-- What the calls of the online logs do.
use Rattle.std.specs.Prelude.{ℕ, Bool, ◌+◌, ◌-◌, ◌==◌, if◌then◌else◌, ◌<◌, ◌≤◌, ◌≡◌, ◌++◌, ◌||◌, not, nat_le, Option, Some, None, List, [], ◌∷◌, length, map, true, false, slice_get, slice_set}
use Rattle.std.specs.{List.{list_all, zip}, Option.{option_map_or}}
use Rattle.rm_base.specs.declared.block.Change.{Change}
use Rattle.rm_redo.specs.{Logs.{Logs}, declared.{online.{LogRecord.{LogRecord}, ThreadLog.{ThreadLog}}, log_file.LogFile.{LogFile}}}

-- the thread has an online log, lost or not
abbrev pub has_log : Logs → ℕ → Bool
has_log logs t = option_map_or (λ l. l.is_there) (slice_get logs.threads (t - 1)) false

-- the thread is there
abbrev pub IsThread : Logs → ℕ → Type 0
IsThread logs t = (0 < t) × (t ≤ length logs.threads) × (has_log logs t ≡ true)

-- its log is lost
abbrev pub IsLost : Logs → ℕ → Type 0
IsLost logs t = option_map_or (λ l. l.is_lost) (slice_get logs.threads (t - 1)) false ≡ true

-- its records
abbrev pub thread_records : Logs → ℕ → List LogRecord
thread_records logs t = option_map_or (λ l. l.records) (slice_get logs.threads (t - 1)) []

-- the SCN from which on its log tells
abbrev pub first_of : Logs → ℕ → ℕ
first_of logs t = option_map_or (λ l. l.first) (slice_get logs.threads (t - 1)) 0

-- its sequence number
abbrev pub sequence_of : Logs → ℕ → ℕ
sequence_of logs t = option_map_or (λ l. l.sequence) (slice_get logs.threads (t - 1)) 0

-- the logs, where the log of one thread is what `f` makes of it
abbrev pub with_log : (ThreadLog → ThreadLog) → Logs → ℕ → Logs
with_log f logs t =
    option_map_or (λ l. record logs { threads = slice_set logs.threads (t - 1) (f l) }) (slice_get logs.threads (t - 1)) logs

-- a change, as its log keeps it
abbrev pub record_of : Change → LogRecord
record_of c = record { scn = c.scn; file = c.file; block = c.block; content = c.content }

-- the log with one record more
abbrev pub with_record : LogRecord → ThreadLog → ThreadLog
with_record r l = record l { records = l.records ++ r ∷ [] }

-- the logs with one change more
abbrev pub with_change : Logs → Change → Logs
with_change logs c = with_log (with_record (record_of c)) logs c.thread

-- the logs with these changes more, one after another
abbrev pub with_changes : Logs → List Change → Logs
with_changes logs [] = logs
with_changes logs (c ∷ cs) = with_changes (with_change logs c) cs

-- the log, which begins anew at `now` with the next sequence number
abbrev pub begun_anew : ℕ → ThreadLog → ThreadLog
begun_anew now l = record { is_there = l.is_there; sequence = l.sequence + 1; first = now; is_lost = l.is_lost; records = [] }

-- The logs, where the thread begins anew at `now`. One that begins there already stays as it is.
abbrev pub switched : Logs → ℕ → ℕ → Logs
switched logs t now = if first_of logs t == now then logs else with_log (begun_anew now) logs t

-- the logs, where the log of one thread is lost
abbrev pub with_loss : Logs → ℕ → Logs
with_loss logs t = with_log (λ l. record l { is_lost = true }) logs t

-- an empty log from `first` on, with this sequence number
abbrev pub empty_log : ℕ → ℕ → ThreadLog
empty_log first sequence = record { is_there = true; sequence = sequence; first = first; is_lost = false; records = [] }

-- an empty log with sequence 1
abbrev pub fresh_log : ℕ → ThreadLog
fresh_log first = empty_log first 1

-- a log that is lost, of which nothing else is known
abbrev pub lost_log : ThreadLog
lost_log = record (fresh_log 1) { is_lost = true }

-- what stands where a thread is not there
abbrev pub no_log : ThreadLog
no_log = record (fresh_log 1) { is_there = false }

-- the logs, where the thread comes to be there: its log is empty, from `now` on, with this sequence number
abbrev pub with_enabled : Logs → ℕ → ℕ → ℕ → Logs
with_enabled logs t now sequence = with_log (λ l. empty_log now sequence) logs t

-- the logs, where the thread is no longer there
abbrev pub with_disabled : Logs → ℕ → Logs
with_disabled logs t = with_log (λ l. no_log) logs t

-- this log of a thread that is there, and else none
abbrev pub log_where : ThreadLog → Bool → ThreadLog
log_where l on = if on then l else no_log

-- empty logs from `first` on, of the threads 1 to 4 that are enabled
abbrev pub begun_logs : ℕ → ℕ → List Bool → ℕ → Logs
begun_logs dbid inc enabled first = record { dbid = dbid; inc = inc; threads = map (log_where (fresh_log first)) enabled }

-- the threads up to n
abbrev pub up_to : ℕ → List Bool
up_to n = nat_le 1 n ∷ nat_le 2 n ∷ nat_le 3 n ∷ nat_le 4 n ∷ []

-- empty logs of these
abbrev pub fresh_logs : ℕ → ℕ → ℕ → ℕ → Logs
fresh_logs dbid inc threads first = begun_logs dbid inc (up_to threads) first

-- all that are there are lost
abbrev pub are_lost : List ThreadLog → Bool
are_lost threads = list_all (λ l. not l.is_there || l.is_lost) threads

-- lost logs of the threads 1 to 4 that are enabled
abbrev pub lost_logs : ℕ → ℕ → List Bool → Logs
lost_logs dbid inc enabled = record { dbid = dbid; inc = inc; threads = map (log_where lost_log) enabled }

-- where all logs are lost, they count as logs of this incarnation, of the threads that are enabled at its end
abbrev pub counted_as : Logs → ℕ → List Bool → Logs
counted_as logs i enabled = if are_lost logs.threads then lost_logs logs.dbid i enabled else logs

-- the online log of a thread that is enabled, as a log file tells it; without one it is lost
abbrev pub told_log : Option LogFile → ThreadLog
told_log None = lost_log
told_log (Some l) = record { is_there = true; sequence = l.sequence; first = l.first; is_lost = false; records = l.records }

-- the online log of a thread
abbrev pub thread_log : Bool → Option LogFile → ThreadLog
thread_log on log = log_where (told_log log) on

-- the online logs of threads, one after another
abbrev pub thread_logs : List Bool → List (Option LogFile) → List ThreadLog
thread_logs enabled logs = map (λ x. thread_log x.0 x.1) (zip enabled logs)

-- the online logs of the threads 1 to 4, as log files tell them
abbrev pub logs_of : ℕ → ℕ → List Bool → List (Option LogFile) → Logs
logs_of dbid inc enabled logs = record { dbid = dbid; inc = inc; threads = thread_logs enabled logs }
