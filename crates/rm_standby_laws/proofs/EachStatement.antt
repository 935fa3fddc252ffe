-- What each statement leaves of incarnations and datafiles.
use Rattle.std.proofs.Common.{◌≡◌, ◌⊎◌, inl, inr, ℕ, List, Option, Some, None, is_none, Bool, true, false, cond, refl, map}
use Rattle.rm_base.specs.Store.{Held}
use Rattle.rm_lang_statement.specs.declared.command.Command.{Command}
use Rattle.rm_lang_statement.specs.declared.command.Command.TheVariants.{ArchiveLogCurrent, Backup, BackupFrom, BackupLogs, BlockRecover, CatalogName, ChangeBackup, Corrupt, CreateDatabase, CreateDatafile, Crosscheck, Cut, Damage, DeleteBackup, DeleteExpired, DeleteObsolete, Dump, ListArchived, ListBackup, ListCopy, ListCorruption, ListIncarnation, LoseDatafile, LoseLog, Mount, OpenPlain, OpenResetlogs, Parallelism, Preview, Recover, RecoverCopy, RecoverTest, Remove, Rename, ReportNeedBackup, ReportObsolete, ReportSchema, ResetDatabase, Restore, Retention, ShowAll, SwitchLogfile, SwitchThread, Tracking, ValidateAll, Write}
use Rattle.rm_lang_statement.specs.declared.command.RepairForm.{RepairForm}
use Rattle.rm_redo.specs.declared.log_file.LogFile.{LogFile}
use Rattle.rm_evidence.specs.declared.evidence.Evidence.{Evidence}
use Rattle.rm_report.specs.declared.line.Line.{Line}
use Rattle.rm_machine.specs.{BackupLogs.{copies_of, copies_refusal, with_copies}, Archive.{after_all}, BackupOutcome.{at_end, begun}}
use Rattle.rm_machine.specs.BlockRecover.{MendsBlocks, MissesBlock, repair_begun, without_mended}
use Rattle.rm_machine.specs.{Configure.{policy_of, with_channels, with_policy}, Corrupt.{corrupted, with_damage}}
use Rattle.rm_machine.specs.{Damage.{has_block, without_damaged}, DisableThread.{with_thread_off}, Effect.{Effect, done}}
use Rattle.rm_machine.specs.{EnableThread.{with_thread_on}, Events.{after_events}, LoseDatafile.{without_file}, LoseLog.{without_log}}
use Rattle.rm_machine.specs.{MadeObjects.{after_objects, packed}, Mishaps.{cut_by, damage_by, remove_by, rename_by}, Mount.{as_mounted}}
use Rattle.rm_machine.specs.{Open.{opened}, Recover.{RecoversTo, recover_target, recovered}}
use Rattle.rm_machine.specs.{RecoverCopy.{RenewsTo, after_copies, renewed_refusal}, RecoverTest.{TestsTo, test_target, tested}}
use Rattle.rm_machine.specs.{ResetDatabase.{at_incarnation}, Restore.{PreviewsTo, RestoresTo, restored}, Roll.{after_roll}, Sound.{IsSound}}
use Rattle.rm_machine.specs.{SwitchLogfile.{is_due, with_archived}, Tracking.{with_tracking}}
use Rattle.rm_machine.specs.{Upkeep.{changed_to, with_catalog, with_statuses, without_all, without_record}, Write.{with_write}}
use Rattle.rm_machine.specs.{State.{ledger, now_of}, Step.{IsDone}, declared.state.State.{State}}
use Rattle.rm_standby_laws.proofs.Growing.{Grows, accepted-quiet, all-core, archived-core, branch-grows, catalog-grows, change-core, chosen-grows, copies-core, core, created-grows, events-grow, further-grows, logs-core, mounted-core, objects-core, off-grows, quiet, statuses-core, switched-quiet, unless-quiet}

-- HOST leaves the database as it is

removed : (s t : State) (name : List ℕ) (o : Option (List ℕ)) (lines : List Line) (e : Effect) → done lines e t ≡ remove_by s name o → Grows s t
removed s t name None lines e is = absurd (cc)
removed s t name (Some bytes) lines e is = quiet s s t lines _ e _ is refl

damaged : (s t : State) (name : List ℕ) (at : ℕ) (o : Option (List ℕ)) (lines : List Line) (e : Effect) → done lines e t ≡ damage_by s name at o → Grows s t
damaged s t name at None lines e is = absurd (cc)
damaged s t name at (Some bytes) lines e is = unless-quiet _ _ s s t lines _ e _ is refl

shortened : (s t : State) (name : List ℕ) (to : ℕ) (o : Option (List ℕ)) (lines : List Line) (e : Effect) → done lines e t ≡ cut_by s name to o → Grows s t
shortened s t name to None lines e is = absurd (cc)
shortened s t name to (Some bytes) lines e is = unless-quiet _ _ s s t lines _ e _ is refl

renamed : (s t : State) (old new : List ℕ) (o there : Option (List ℕ)) (lines : List Line) (e : Effect) → done lines e t ≡ rename_by s old new o there
    → Grows s t
renamed s t old new None there lines e is = absurd (cc)
renamed s t old new (Some bytes) (Some other) lines e is = absurd (cc)
renamed s t old new (Some bytes) None lines e is = quiet s s t lines _ e _ is refl

-- RECOVER and RESTORE, by their target

recovers : (o : Option ℕ) (s t : State) (held : Held) (lines : List Line) (e : Effect) → RecoversTo s held o (done lines e t) → Grows s t
recovers None s t held lines e does = absurd does
recovers (Some at) s t held lines e (inl found) = absurd (let clash = found.is in cc)
recovers (Some at) s t held lines e (inr all) = quiet s (recovered s at all.back.files) t lines _ e _ all.is refl

restores : (o file : Option ℕ) (s t : State) (held : Held) (lines : List Line) (e : Effect) → RestoresTo s held file o (done lines e t) → Grows s t
restores None file s t held lines e does = absurd does
restores (Some at) file s t held lines e does = quiet s (restored s does.back.files) t lines _ e _ does.is refl

renews : (o : Option ℕ) (s t : State) (held : Held) (tag : List ℕ) (lines : List Line) (e : Effect) → RenewsTo s held tag o (done lines e t) → Grows s t
renews None s t held tag lines e does = absurd does
renews (Some at) s t held tag lines e does =
    accepted-quiet (renewed_refusal s does.copies) s (after_copies s tag does.copies) t lines _ e _ does.is (copies-core does.copies s tag)

tests-not : (o : Option ℕ) (i : ℕ) (s t : State) (held : Held) (lines : List Line) (e : Effect) → TestsTo s held i o (done lines e t) → ⊥
tests-not None i s t held lines e does = does
tests-not (Some at) i s t held lines e (inl found) = absurd (let clash = found.is in cc)
tests-not (Some at) i s t held lines e (inr all) = absurd (let clash = all.is in cc)

previews-not : (o : Option ℕ) (s t : State) (held : Held) (lines : List Line) (e : Effect) → PreviewsTo s held o (done lines e t) → ⊥
previews-not None s t held lines e does = does
previews-not (Some at) s t held lines e does = absurd (let clash = does.is in cc)

-- Damage, and its repair

corrupted-core : (b : Bool) (s q : State) → core q ≡ core s → core (cond b s q) ≡ core s
corrupted-core true s q same = refl
corrupted-core false s q same = same

repaired : (form : RepairForm) (s t : State) (evidence : Evidence) (lines : List Line) (e : Effect) → IsSound s
    → MissesBlock s evidence form (done lines e t) ⊎ MendsBlocks s evidence form (done lines e t) → Grows s t
repaired form s t evidence lines e sound (inl misses) = absurd (let clash = misses.is in cc)
repaired form s t evidence lines e sound (inr it) =
    let u : State = repair_begun s form in
    events-grow (is_none form.during) it.events s u (without_mended (after_events u it.events) form) t lines _ e _ sound.catalog.ledger.current it.is refl refl

-- All statements

abbrev pub GrowsBy : Command → Type 0
GrowsBy c = (s : State) (held : Held) (lines : List Line) (e : Effect) (t : State) → IsSound s → IsDone s held c (done lines e t) → Grows s t

pub each-grows : (c : Command) → GrowsBy c
each-grows (CreateDatabase dbid threads scn) s held lines e t sound is = absurd is
each-grows (CreateDatafile blocks) s held lines e t sound is = created-grows s t blocks lines _ e _ sound.catalog.ledger.current is
each-grows (Write w) s held lines e t sound is = further-grows s (with_write s w) t lines _ e _ sound.catalog.ledger.current is refl refl
each-grows (SwitchLogfile thread) s held lines e t sound is = switched-quiet (is_due s thread) s (with_archived s thread) t lines _ _ e _ _ is refl
each-grows ArchiveLogCurrent s held lines e t sound is = quiet s (after_all s) t lines _ e _ is (archived-core s)
each-grows (SwitchThread thread true) s held lines e t sound is =
    further-grows s (with_thread_on s thread) t lines _ e _ sound.catalog.ledger.current is refl refl
each-grows (SwitchThread thread false) s held lines e t sound is =
    off-grows (is_due s thread) s (with_thread_off s thread) t thread lines _ e _ sound.catalog.ledger.current is refl refl
each-grows Mount s held lines e t sound is = quiet s (as_mounted s) t lines _ e _ is (mounted-core s.instance.is_open s (without_damaged s) refl)
each-grows OpenPlain s held lines e t sound is = quiet s (opened s (now_of s)) t lines _ e _ is refl
each-grows OpenResetlogs s held lines e t sound is = branch-grows s.instance.point s t lines _ e _ sound is
each-grows (ResetDatabase i) s held lines e t sound is = chosen-grows s (at_incarnation s i) t lines _ e _ is refl refl
each-grows (Backup b) s held lines e t sound does =
    let xs = packed (ledger s) b (now_of s) does.jobs does.rows in
    let u : State = at_end s b does.events in
    events-grow (is_none b.during) does.events s (begun s b) (after_objects u b does.tag xs) t lines _ e _ sound.catalog.ledger.current does.is refl
    (objects-core b does.tag xs u)
each-grows (BackupFrom scn) s held lines e t sound is = quiet s (after_roll s) t lines _ e _ is refl
each-grows BackupLogs s held lines e t sound does =
    let logs = map (λ (x : ℕ × LogFile). x.1) does.found in
    let xs = copies_of s logs in
    accepted-quiet (copies_refusal s logs) s (with_catalog s (with_copies s.catalog xs)) t lines _ e _ does.is (logs-core xs s.catalog)
each-grows (BlockRecover form) s held lines e t sound does = repaired form s t does.evidence lines e sound does.comes
each-grows (Restore file until) s held lines e t sound does = restores (recover_target s until) file s t held lines e does
each-grows (Recover until) s held lines e t sound does = recovers (recover_target s until) s t held lines e does
each-grows (RecoverCopy tag until) s held lines e t sound does = renews (recover_target s until) s t held tag lines e does
each-grows (RecoverTest until inc) s held lines e t sound does = absurd (tests-not (test_target s until inc) (tested s inc) s t held lines e does)
each-grows (Preview until) s held lines e t sound does = absurd (previews-not (recover_target s until) s t held lines e does)
each-grows (Dump file block) s held lines e t sound is = absurd (let clash = is.2 in cc)
each-grows ListIncarnation s held lines e t sound is = absurd (cc)
each-grows ListBackup s held lines e t sound is = absurd (let clash = is.is in cc)
each-grows ListCopy s held lines e t sound is = absurd (let clash = is.is in cc)
each-grows ListArchived s held lines e t sound is = absurd (let clash = is.is in cc)
each-grows ListCorruption s held lines e t sound is = absurd (cc)
each-grows ReportObsolete s held lines e t sound is = absurd (let clash = is.is in cc)
each-grows ReportNeedBackup s held lines e t sound is = absurd (let clash = is.is in cc)
each-grows ReportSchema s held lines e t sound is = absurd (cc)
each-grows ShowAll s held lines e t sound is = absurd (cc)
each-grows ValidateAll s held lines e t sound is = absurd (let clash = is.is in cc)
each-grows (Crosscheck class) s held lines e t sound does =
    quiet s (with_catalog s (with_statuses does.checked s.catalog)) t lines _ e _ does.is (statuses-core does.checked s.catalog)
each-grows (ChangeBackup id to) s held lines e t sound is =
    quiet s (with_catalog s (changed_to to id s.catalog)) t lines _ e _ is (change-core to id s.catalog)
each-grows (DeleteBackup id) s held lines e t sound is = quiet s (with_catalog s (without_record id s.catalog)) t lines _ e _ is refl
each-grows (DeleteExpired class) s held lines e t sound does =
    quiet s (with_catalog s (without_all does.ids s.catalog)) t lines _ e _ does.is (all-core does.ids s.catalog)
each-grows DeleteObsolete s held lines e t sound does =
    quiet s (with_catalog s (without_all does.ids s.catalog)) t lines _ e _ does.is (all-core does.ids s.catalog)
each-grows (Retention form) s held lines e t sound is = quiet s (with_catalog s (with_policy s.catalog (policy_of form))) t lines _ e _ is refl
each-grows (Parallelism channels) s held lines e t sound is = quiet s (with_catalog s (with_channels s.catalog channels)) t lines _ e _ is refl
each-grows (Tracking on) s held lines e t sound is = quiet s (with_tracking s on) t lines _ e _ is refl
each-grows (CatalogName name) s held lines e t sound does = catalog-grows does.found s t held name does.id lines e does.finds does.is
each-grows (LoseDatafile file) s held lines e t sound is = quiet s (without_file s file) t lines _ e _ is refl
each-grows (LoseLog thread) s held lines e t sound is =
    quiet s (without_log (as_mounted s) thread) t lines _ e _ is (mounted-core s.instance.is_open s (without_damaged s) refl)
each-grows (Corrupt file block) s held lines e t sound does =
    quiet s (corrupted s file does.0) t lines _ e _ does.2 (corrupted-core (has_block s.instance.damaged file does.0.block) s (with_damage s file does.0) refl)
each-grows (Remove name) s held lines e t sound is = removed s t name (held name) lines e is
each-grows (Damage name at) s held lines e t sound is = damaged s t name at (held name) lines e is
each-grows (Cut name to) s held lines e t sound is = shortened s t name to (held name) lines e is
each-grows (Rename old new) s held lines e t sound is = renamed s t old new (held old) (held new) lines e is
