-- ALTER SYSTEM SWITCH LOGFILE [THREAD t]
use Rattle.std.specs.Prelude.{ℕ, ◌≡◌, ◌+◌, ◌*◌, ◌&&◌, nat_lt, nat_le, if◌then◌else◌, Bool, true, false, Option, Some, None, List, [], ◌∷◌, length}
use Rattle.sha2.specs.Sha256.{sha256}
use Rattle.rm_base.specs.declared.{kinds.Status.TheVariants.{Available}, refusal.Refusal.{Refusal, TheVariants.{Rm04, Rm05, Rm11}}}
use Rattle.rm_base.specs.declared.refusal.{Absent.TheVariants.{Thread}, Limit.TheVariants.{Records, Bytes, ObjectIds, Sequences}}
use Rattle.rm_catalog.specs.declared.record.LogEntry.{LogEntry}
use Rattle.rm_evidence.specs.Names.{log_name}
use Rattle.rm_redo.specs.{LogFormat.{spelling}, Online.{first_of, thread_records, sequence_of, switched}}
use Rattle.rm_redo.specs.declared.log_file.LogFile.{LogFile}
use Rattle.rm_report.specs.declared.line.Line.{Line, TheVariants.{LogMade, NothingToArchive}}
use Rattle.rm_catalog_typed.specs.Changes.{with_new_log}
use Rattle.rm_machine.specs.{Effect.{Outcome, done, a_log, Effect, no_effect}, Marks.{ids_refusal, lacks_bytes, lacks_ids, lacks_room}}
use Rattle.rm_machine.specs.{State.{ledger, redo_end, online, is_no_thread, is_online}, declared.state.State.{State}}

-- the thread has something to archive: its log is there and not lost, and its range is not empty
abbrev pub is_due : State → ℕ → Bool
is_due s t = is_online s.instance.logs t && nat_lt (first_of s.instance.logs t) (redo_end s)

-- the size of the log of a thread as a file: 70 bytes, and 80 for each record
abbrev pub log_bytes : State → ℕ → ℕ
log_bytes s t = 70 + 80 * length (thread_records s.instance.logs t)

-- why a due log can't be archived: no record is left, no bytes, no id (a save may draw 68), or no sequence number
abbrev pub archive_refusal : State → ℕ → Option Refusal
archive_refusal s t =
    if lacks_room s 1 then Some (Rm11 Records)
    else if lacks_bytes s (log_bytes s t) then Some (Rm11 Bytes)
    else if lacks_ids s 1 then Some (Rm11 ObjectIds)
    else if nat_le 4294967295 (sequence_of s.instance.logs t) then Some (Rm11 Sequences)
    else None

-- why it is refused
abbrev pub switch_refusal : State → ℕ → Option Refusal
switch_refusal s t =
    if s.instance.is_open then
    (if is_no_thread s t then Some (Rm05 (Thread t))
    else if is_due s t then archive_refusal s t
    else ids_refusal s)
    else Some (Rm04 true)

-- the record of an archived log
abbrev pub log_entry : ℕ → LogFile → LogEntry
log_entry id a =
    record {
      id = id;
      archived = true;
      inc = a.inc;
      thread = a.thread;
      sequence = a.sequence;
      first = a.first;
      next = a.next;
      size = length (spelling a);
      sha = sha256 (spelling a);
      status = Available;
      keep = false;
    }

-- the artefact, and its object
abbrev pub archived : ℕ → LogFile → Effect
archived id a =
    record no_effect {
      made = record { name = log_name id; artefact = a_log a } ∷ [];
      puts = record { name = log_name id; bytes = spelling a } ∷ [];
    }

-- the database with the log recorded under the next id; its thread begins anew
abbrev pub with_archived : State → ℕ → State
with_archived s t =
    record {
      catalog = with_new_log s.catalog (log_entry (ledger s).base.next_id (online s t));
      instance = record s.instance { logs = switched s.instance.logs t (redo_end s) };
    }

-- the lines of the reply
abbrev pub made_lines : State → ℕ → List Line
made_lines s t = LogMade (ledger s).base.next_id t (sequence_of s.instance.logs t) (first_of s.instance.logs t) (redo_end s) ∷ []

abbrev pub none_lines : ℕ → List Line
none_lines t = NothingToArchive t ∷ []

-- it archives the log of the thread, if that has something to archive
abbrev pub IsSwitchOutcome : State → ℕ → Outcome → Type 0
IsSwitchOutcome s t o =
    o ≡ (if is_due s t then done (made_lines s t) (archived (ledger s).base.next_id (online s t)) (with_archived s t) else done (none_lines t) no_effect s)
