-- Online logs become archived ones, one thread after another: ALTER SYSTEM ARCHIVE LOG CURRENT.
use Rattle.std.specs.Prelude.{ℕ, zero, suc, ◌≡◌, ◌+◌, ◌&&◌, nat_le, if◌then◌else◌, Bool, true, false, Option, Some, None, List, [], ◌++◌}
use Rattle.rm_base.specs.declared.refusal.Refusal.{Refusal, TheVariants.{Rm04, Rm11}}
use Rattle.rm_base.specs.declared.refusal.Limit.TheVariants.{Records, Bytes, ObjectIds, Sequences}
use Rattle.rm_commit.specs.declared.commit.Object.{Object}
use Rattle.rm_redo.specs.Online.{has_log, sequence_of}
use Rattle.rm_machine.specs.{Effect.{Effect, Made, Outcome, done, no_effect}, Marks.{lacks_bytes, lacks_ids, lacks_room}}
use Rattle.rm_machine.specs.{State.{ledger, online}, SwitchLogfile.{archived, is_due, log_bytes, made_lines, none_lines, with_archived}}
use Rattle.rm_machine.specs.declared.state.State.{State}
use Rattle.rm_report.specs.declared.line.Line.{Line}

-- what the thread makes: its log as an artefact, and the object of that, where it has something to archive
abbrev pub made_by : State → ℕ → List Made
made_by s t = if is_due s t then (archived (ledger s).base.next_id (online s t)).made else []

abbrev pub puts_by : State → ℕ → List Object
puts_by s t = if is_due s t then (archived (ledger s).base.next_id (online s t)).puts else []

-- the database after it
abbrev pub after_thread : State → ℕ → State
after_thread s t = if is_due s t then with_archived s t else s

-- its lines: that it has an online log and nothing to archive is told where all are told
abbrev pub thread_lines : Bool → State → ℕ → List Line
thread_lines all s t = if is_due s t then made_lines s t else if all && has_log s.instance.logs t then none_lines t else []

-- the same of n threads from t on, one after another
abbrev pub made_from : State → ℕ → ℕ → List Made
made_from s t zero = []
made_from s t (suc n) = made_by s t ++ made_from (after_thread s t) (t + 1) n

abbrev pub puts_from : State → ℕ → ℕ → List Object
puts_from s t zero = []
puts_from s t (suc n) = puts_by s t ++ puts_from (after_thread s t) (t + 1) n

abbrev pub after_threads : State → ℕ → ℕ → State
after_threads s t zero = s
after_threads s t (suc n) = after_threads (after_thread s t) (t + 1) n

abbrev pub lines_from : Bool → State → ℕ → ℕ → List Line
lines_from all s t zero = []
lines_from all s t (suc n) = thread_lines all s t ++ lines_from all (after_thread s t) (t + 1) n

-- how many of them have something to archive
abbrev pub due_from : State → ℕ → ℕ → ℕ
due_from s t zero = 0
due_from s t (suc n) = (if is_due s t then 1 else 0) + due_from (after_thread s t) (t + 1) n

-- the sizes of their objects
abbrev pub bytes_from : State → ℕ → ℕ → ℕ
bytes_from s t zero = 0
bytes_from s t (suc n) = (if is_due s t then log_bytes s t else 0) + bytes_from (after_thread s t) (t + 1) n

-- one of them has something to archive, and no sequence number is left for it
abbrev pub is_last_sequence : State → ℕ → ℕ → Bool
is_last_sequence s t zero = false
is_last_sequence s t (suc n) = if is_due s t && nat_le 4294967295 (sequence_of s.instance.logs t) then true else is_last_sequence (after_thread s t) (t + 1) n

-- why all threads can't be archived, where so many records come to the catalog besides
abbrev pub archiving_refusal : State → ℕ → Option Refusal
archiving_refusal s more =
    if lacks_room s (due_from s 1 4 + more) then Some (Rm11 Records)
    else if lacks_bytes s (bytes_from s 1 4) then Some (Rm11 Bytes)
    else if lacks_ids s (due_from s 1 4) then Some (Rm11 ObjectIds)
    else if is_last_sequence s 1 4 then Some (Rm11 Sequences)
    else None

-- what archiving all threads makes, and the database after it
abbrev pub archiving : State → Effect
archiving s = record no_effect { made = made_from s 1 4; puts = puts_from s 1 4 }

abbrev pub after_all : State → State
after_all s = after_threads s 1 4

-- why ARCHIVE LOG CURRENT is refused
abbrev pub archive_all_refusal : State → Option Refusal
archive_all_refusal s = if s.instance.is_open then archiving_refusal s 0 else Some (Rm04 true)

-- it archives the log of each thread that has something to archive
abbrev pub IsArchiveOutcome : State → Outcome → Type 0
IsArchiveOutcome s o = o ≡ done (lines_from true s 1 4) (archiving s) (after_all s)
