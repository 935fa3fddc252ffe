-- What the state does not refuse has the ids of a save left, since these are asked for: each change.
use Rattle.std.proofs.{Common.{◌≡◌, ◌+◌, ◌≤◌, ℕ, Some, None, Bool, true, false, cond, arith, rules}, lemmas.Bool.{le-ltb}}
use Rattle.rm_base.specs.declared.refusal.{Refusal.{TheVariants.{Rm03, Rm05}}, Absent.TheVariants.{File}}
use Rattle.rm_base.proofs.Conditions.{only-where, unless}
use Rattle.rm_lang_statement.specs.declared.command.{Command.{Command}, WriteForm.{WriteForm}}
use Rattle.rm_lang_statement.specs.declared.command.Command.TheVariants.{ArchiveLogCurrent, Backup, BackupFrom, ChangeBackup, Corrupt, CreateDatabase, CreateDatafile, DeleteBackup, DeleteExpired, LoseDatafile, LoseLog, Mount, OpenPlain, OpenResetlogs, Parallelism, ResetDatabase, Retention, SwitchLogfile, SwitchThread, Tracking, Write}
use Rattle.rm_machine.specs.{Corrupt.{corrupt_block_refusal, corrupt_refusal}, Marks.{ids_refusal, lacks_ids}, Nature.{nature_of}}
use Rattle.rm_machine.specs.{Sound.{IsSound}, State.{is_no_thread, ledger, on_path}, Step.{refusal_of}}
use Rattle.rm_machine.specs.SwitchLogfile.{archive_refusal, is_due, switch_refusal}
use Rattle.rm_machine.specs.{Write.{block_refusal, write_refusal}, declared.{nature.Nature.TheVariants.{Changes}, state.State.{State}}}
use Rattle.rm_machine.proofs.{Asking.{Asks, asks-ids, asks-of}, BackupAccepted.{can-back_up}, Branching.{can-reset}}
use Rattle.rm_machine.proofs.{Disabling.{accepted}, Rolling.{can-roll}, Switching.{not-above}}
use Rattle.rm_machine_laws.proofs.ArchivingAll.{room}

-- where those of more objects are left, they are
few-left : (s : State) (n : ℕ) → (ledger s).base.next_id + n + 68 ≤ 4294967295 → lacks_ids s 0 ≡ false
few-left s n most = le-ltb 4294967295 ((ledger s).base.next_id + 0 + 68) (omega (arith, most))

fewer-left : (s : State) (n : ℕ) → lacks_ids s n ≡ false → lacks_ids s 0 ≡ false
fewer-left s n left = few-left s n (not-above 4294967295 ((ledger s).base.next_id + n + 68) left)

-- Statements

pub write-asks : (w : WriteForm) (s : State) → Asks s (write_refusal s w)
write-asks w s is =
    let mode = only-where s.instance.is_open _ _ is in
    let thread = unless (is_no_thread s w.thread) _ _ mode.1 in
    asks-of s (block_refusal s w) (Rm05 (File w.file)) (on_path s w.file) (λ d none. search rules) thread.1

pub corrupt-asks : (f b : ℕ) (s : State) → Asks s (corrupt_refusal s f b)
corrupt-asks f b s is =
    let mode = only-where s.instance.is_open _ _ is in
    asks-of s (corrupt_block_refusal s f b) (Rm05 (File f)) (on_path s f) (λ d none. search rules) mode.1

-- what archives asks for more
archive-asks : (s : State) (t : ℕ) → Asks s (archive_refusal s t)
archive-asks s t is = fewer-left s 1 (search rules)

switch-asks : (t : ℕ) (s : State) → Asks s (switch_refusal s t)
switch-asks t s is = decide (is_due s t) (unless (is_no_thread s t) _ _ (only-where s.instance.is_open _ _ is).1).1
  where
    decide : (b : Bool) → cond b (archive_refusal s t) (ids_refusal s) ≡ None → lacks_ids s 0 ≡ false
    decide true none = archive-asks s t none
    decide false none = asks-ids s none

-- Natures

pub change-asks : (c : Command) (s : State) → nature_of c ≡ Changes → IsSound s → Asks s (refusal_of s c)
change-asks (CreateDatabase dbid threads scn) s nature sound is = absurd (let clash : Some Rm03 ≡ None = is in cc)
change-asks (CreateDatafile blocks) s nature sound is = search rules
change-asks (Write w) s nature sound is = write-asks w s is
change-asks (SwitchLogfile t) s nature sound is = switch-asks t s is
change-asks ArchiveLogCurrent s nature sound is = few-left s _ (room s sound is).ids
change-asks Mount s nature sound is = asks-ids s is
change-asks OpenPlain s nature sound is = search rules
change-asks OpenResetlogs s nature sound is = few-left s _ (can-reset s sound is).room.ids
change-asks (Tracking on) s nature sound is = asks-ids s is
change-asks (SwitchThread t true) s nature sound is = search rules
change-asks (SwitchThread t false) s nature sound is = few-left s _ (accepted s t sound is).ids
change-asks (ResetDatabase i) s nature sound is = search rules
change-asks (Backup b) s nature sound is = few-left s _ (can-back_up s b sound is).ids
change-asks (BackupFrom scn) s nature sound is = few-left s _ (can-roll s scn is).ids
change-asks (ChangeBackup n to) s nature sound is = search rules
change-asks (DeleteBackup n) s nature sound is = search rules
change-asks (DeleteExpired class) s nature sound is = asks-ids s is
change-asks (Retention form) s nature sound is = search rules
change-asks (Parallelism channels) s nature sound is = search rules
change-asks (LoseDatafile f) s nature sound is = search rules
change-asks (LoseLog t) s nature sound is = search rules
change-asks (Corrupt f b) s nature sound is = corrupt-asks f b s is
change-asks c s nature sound is = absurd (cc)
