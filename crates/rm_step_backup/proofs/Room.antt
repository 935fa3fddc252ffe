-- What a BACKUP that was not refused has for its channels and writers.
use Rattle.std.proofs.{Common.{◌∙◌, List, refl, sym, subst, All, ◌≡◌}, lemmas.List.Elements.{All-weaker}}
use Rattle.rm_channel.specs.Room.{AreThreads, CanWrite}
use Rattle.rm_live.specs.Parts.{Parts}
use Rattle.rm_lang_statement.specs.declared.command.BackupForm.{BackupForm}
use Rattle.rm_machine.specs.{Backup.{AreJobs}, Sound.{IsSound}, State.{placed}, Asked.{writers_of, writes_in}, Events.{opening}}
use Rattle.rm_machine.{specs.{BackupOutcome.{begun}, declared.{job.Job.{Job}, state.State.{State}}}, proofs.Backups.{IsTaken}}
use Rattle.rm_machine.proofs.{BackingUp.{IsReadyToRead, jobs-ready}, BackupAccepted.{CanBackUp}, BackupMarks.{marked-same}}
use Rattle.rm_machine.proofs.WritersRoom.{room-threads, room-writes}
use Rattle.rm_step_backup.specs.Copying.{Stands}

-- the datafile of each job stands in place
pub jobs-taken : (s : State) (b : BackupForm) (jobs : List Job) → IsSound s → CanBackUp s b → AreJobs s b jobs → All (λ (j : Job). IsTaken s j.file) jobs
jobs-taken s b jobs sound can are = All-weaker (IsReadyToRead s) (λ (j : Job). IsTaken s j.file) (λ j is. is.taken) jobs (jobs-ready s b jobs sound are can.taken)

-- At its beginning, behind the mark and with other bitmaps

-- the live database is that of the state, but for its bitmaps
begun-opening : (s : State) (b : BackupForm) → opening (begun s b) ≡ record (opening s) { tracker = (begun s b).instance.tracker }
begun-opening s b = marked-same (λ (q : State). record (opening q) { tracker = (begun s b).instance.tracker }) s b refl

pub begun-threads : (s : State) (b : BackupForm) → IsSound s → CanBackUp s b → AreThreads (opening (begun s b)).logs 1 (writers_of s b)
begun-threads s b sound can = subst (λ (p : Parts). AreThreads p.logs 1 (writers_of s b)) (sym (begun-opening s b)) (room-threads s (writes_in b) sound can.opened can.writes)

pub begun-writes : (s : State) (b : BackupForm) → IsSound s → CanBackUp s b → CanWrite (opening (begun s b)) (writers_of s b)
begun-writes s b sound can =
    let was = room-writes s (writes_in b) sound can.opened can.writes can.logs can.scns in
    subst (λ (p : Parts). CanWrite p (writers_of s b)) (sym (begun-opening s b)) (record { blocks = was.blocks; logs = was.logs; scns = was.scns })

pub begun-stand : (s : State) (b : BackupForm) (jobs : List Job) → IsSound s → CanBackUp s b → AreJobs s b jobs → All (λ (j : Job). Stands (begun s b) j.file) jobs
begun-stand s b jobs sound can are =
    All-weaker (λ (j : Job). IsTaken s j.file) (λ (j : Job). Stands (begun s b) j.file)
    (λ j is. record { some = is.some; file = is.file; is = marked-same (λ (q : State). placed q j.file) s b refl ∙ is.stands }) jobs (jobs-taken s b jobs sound can are)
