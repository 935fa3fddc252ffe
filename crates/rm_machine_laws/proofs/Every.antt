-- The laws of every statement.
use Rattle.std.proofs.Common.{◌≡◌, true, false, refl}
use Rattle.rm_lang_statement.specs.declared.command.Command.{Command}
use Rattle.rm_lang_statement.specs.declared.command.Command.TheVariants.{ArchiveLogCurrent, Backup, BackupFrom, BackupLogs, BlockRecover, CatalogName, ChangeBackup, Corrupt, CreateDatabase, CreateDatafile, Crosscheck, Cut, Damage, DeleteBackup, DeleteExpired, DeleteObsolete, Dump, ListArchived, ListBackup, ListCopy, ListCorruption, ListIncarnation, LoseDatafile, LoseLog, Mount, OpenPlain, OpenResetlogs, Parallelism, Preview, Recover, RecoverTest, Remove, Rename, ReportNeedBackup, ReportObsolete, ReportSchema, ResetDatabase, Restore, Retention, ShowAll, SwitchLogfile, SwitchThread, Tracking, ValidateAll, Write, RecoverCopy}
use Rattle.rm_machine.specs.Laws.{LeadsOn, TellsOn, only_tells}
use Rattle.rm_machine_laws.{specs.Loose.{StaysLoose}, proofs.{AddingDatafile.{create-on, create-stays}, ArchivingAll.{all-on, all-stays}}}
use Rattle.rm_machine_laws.proofs.{BackingUp.{backup-on, backup-stays}, BackingUpLogs.{back_logs-on, back_logs-stays}}
use Rattle.rm_machine_laws.proofs.Branching.{resets-on, resets-stays}
use Rattle.rm_machine_laws.proofs.Cataloguing.{catalog-leads, catalog-loose, catalog-roomy, catalog-stays}
use Rattle.rm_machine_laws.proofs.{Choosing.{choose-on, choose-stays}, Corrupting.{corrupt-on, corrupt-stays}}
use Rattle.rm_machine_laws.proofs.{Deleting.{delete-on, delete-stays}, DeletingObsolete.{obsolete-on, obsolete-stays}}
use Rattle.rm_machine_laws.proofs.{Disabling.{disable-on, disable-stays}, Enabling.{enable-on, enable-stays}}
use Rattle.rm_machine_laws.proofs.Mishaps.{cut-on, cut-stays, damage-on, damage-stays, remove-on, remove-stays, rename-on, rename-stays}
use Rattle.rm_machine_laws.proofs.{Leading.{LeadsOnBy, StaysBy, leads, tells}, Losing.{lose-on, lose-stays}}
use Rattle.rm_machine_laws.proofs.{LosingLog.{lose_log-on, lose_log-stays}, Mounting.{mount-on, mount-stays}, Opening.{open-on, open-stays}}
use Rattle.rm_machine_laws.proofs.{Recovered.{recover-on, recover-stays}, Renewals.{renew-on, renew-stays}}
use Rattle.rm_machine_laws.proofs.{Repairing.{repair-on, repair-stays}, Restoring.{restore-on, restore-stays}}
use Rattle.rm_machine_laws.proofs.Rolling.{roll-loose, roll-on, roll-stays}
use Rattle.rm_machine_laws.proofs.Settings.{parallelism-on, parallelism-stays, retention-on, retention-stays}
use Rattle.rm_machine_laws.proofs.{Switching.{switch-on, switch-stays}, Telling.{every-tells-by, tells-on, tells-stays}}
use Rattle.rm_machine_laws.proofs.Tracking.{tracking-on, tracking-stays}
use Rattle.rm_machine_laws.proofs.Upkeep.{changed-on, changed-stays, checked-on, checked-stays, expired-on, expired-stays}
use Rattle.rm_machine_laws.proofs.{Writing.{write-on, write-stays}, Founding.{never-again, never-loose}}
use Rattle.rm_machine_laws.proofs.{LooseBackup.{back_logs-loose, backup-loose}, LooseCopies.{renew-loose}}
use Rattle.rm_machine_laws.proofs.LooseMishaps.{cut-loose, damage-loose, remove-loose, rename-loose}
use Rattle.rm_machine_laws.proofs.LooseNew.{archive-loose, branch-loose, disable-loose, switch-loose}
use Rattle.rm_machine_laws.proofs.LooseUpkeep.{change-loose, check-loose, delete-loose, expire-loose, obsolete-loose}
use Rattle.rm_machine_laws.proofs.LooseQuiet.{choose-loose, corrupt-loose, create-loose, enable-loose, lose-loose, lose_log-loose, mount-loose, open-loose, parallelism-loose, recover-loose, repair-loose, restore-loose, retention-loose, told-loose, tracking-loose, write-loose}
use Rattle.rm_machine_laws.proofs.Roomy.{LeavesIds, archive-roomy, back_logs-roomy, backup-roomy, branch-roomy, change-roomy, check-roomy, choose-roomy, corrupt-roomy, create-roomy, cut-roomy, damage-roomy, delete-roomy, disable-roomy, enable-roomy, expire-roomy, lose-roomy, lose_log-roomy, mount-roomy, never-roomy, obsolete-roomy, open-roomy, parallelism-roomy, recover-roomy, remove-roomy, rename-roomy, repair-roomy, restore-roomy, retention-roomy, roll-roomy, switch-roomy, told-roomy, tracking-roomy, write-roomy, renew-roomy}

-- what is shown of each statement
record IsLawful (c : Command) : Type 0 where
  leads_on : LeadsOn c
  stays_by : StaysBy c
  loose : StaysLoose c
  roomy : LeavesIds c

lawful : (c : Command) → LeadsOnBy c → StaysBy c → StaysLoose c → LeavesIds c → IsLawful c
lawful c on stays loose roomy = record { leads_on = leads c on; stays_by = stays; loose = loose; roomy = roomy }

-- what only tells
telling : (c : Command) → only_tells c ≡ true → IsLawful c
telling c only = lawful c (tells-on c only) (tells-stays c only) (told-loose c only) (told-roomy c only)

every : (c : Command) → IsLawful c
every (CreateDatabase dbid threads scn) = record {
  leads_on = never-again dbid threads scn;
  stays_by = λ s objects said e t well sound unsaved none does. absurd (let clash = none in cc);
  loose = never-loose dbid threads scn;
  roomy = never-roomy dbid threads scn;
}
every (CreateDatafile blocks) = lawful (CreateDatafile blocks) (create-on blocks) (create-stays blocks) (create-loose blocks) (create-roomy blocks)
every (Write w) = lawful (Write w) (write-on w) (write-stays w) (write-loose w) (write-roomy w)
every (SwitchLogfile t) = lawful (SwitchLogfile t) (switch-on t) (switch-stays t) (switch-loose t) (switch-roomy t)
every ArchiveLogCurrent = lawful ArchiveLogCurrent all-on all-stays archive-loose archive-roomy
every (SwitchThread t true) = lawful (SwitchThread t true) (enable-on t) (enable-stays t) (enable-loose t) (enable-roomy t)
every (SwitchThread t false) = lawful (SwitchThread t false) (disable-on t) (disable-stays t) (disable-loose t) (disable-roomy t)
every Mount = lawful Mount mount-on mount-stays mount-loose mount-roomy
every OpenPlain = lawful OpenPlain open-on open-stays open-loose open-roomy
every OpenResetlogs = lawful OpenResetlogs resets-on resets-stays branch-loose branch-roomy
every (ResetDatabase i) = lawful (ResetDatabase i) (choose-on i) (choose-stays i) (choose-loose i) (choose-roomy i)
every (Backup b) = lawful (Backup b) (backup-on b) (backup-stays b) (backup-loose b) (backup-roomy b)
every (BackupFrom scn) = lawful (BackupFrom scn) (roll-on scn) (roll-stays scn) (roll-loose scn) (roll-roomy scn)
every BackupLogs = lawful BackupLogs back_logs-on back_logs-stays back_logs-loose back_logs-roomy
every (BlockRecover form) = lawful (BlockRecover form) (repair-on form) (repair-stays form) (repair-loose form) (repair-roomy form)
every (Restore file until) = lawful (Restore file until) (restore-on file until) (restore-stays file until) (restore-loose file until) (restore-roomy file until)
every (Recover until) = lawful (Recover until) (recover-on until) (recover-stays until) (recover-loose until) (recover-roomy until)
every (RecoverCopy tag until) = lawful (RecoverCopy tag until) (renew-on tag until) (renew-stays tag until) (renew-loose tag until) (renew-roomy tag until)
every (RecoverTest until inc) = telling (RecoverTest until inc) refl
every (Preview until) = telling (Preview until) refl
every (Dump file block) = telling (Dump file block) refl
every ListIncarnation = telling ListIncarnation refl
every ListBackup = telling ListBackup refl
every ListCopy = telling ListCopy refl
every ListArchived = telling ListArchived refl
every ListCorruption = telling ListCorruption refl
every ReportObsolete = telling ReportObsolete refl
every ReportNeedBackup = telling ReportNeedBackup refl
every ReportSchema = telling ReportSchema refl
every ShowAll = telling ShowAll refl
every ValidateAll = telling ValidateAll refl
every (Crosscheck class) = lawful (Crosscheck class) (checked-on class) (checked-stays class) (check-loose class) (check-roomy class)
every (ChangeBackup id to) = lawful (ChangeBackup id to) (changed-on id to) (changed-stays id to) (change-loose id to) (change-roomy id to)
every (DeleteBackup id) = lawful (DeleteBackup id) (delete-on id) (delete-stays id) (delete-loose id) (delete-roomy id)
every (DeleteExpired class) = lawful (DeleteExpired class) (expired-on class) (expired-stays class) (expire-loose class) (expire-roomy class)
every DeleteObsolete = lawful DeleteObsolete obsolete-on obsolete-stays obsolete-loose obsolete-roomy
every (Retention form) = lawful (Retention form) (retention-on form) (retention-stays form) (retention-loose form) (retention-roomy form)
every (Parallelism channels) = lawful (Parallelism channels) (parallelism-on channels) (parallelism-stays channels) (parallelism-loose channels) (parallelism-roomy channels)
every (Tracking on) = lawful (Tracking on) (tracking-on on) (tracking-stays on) (tracking-loose on) (tracking-roomy on)
every (CatalogName name) = record { leads_on = catalog-leads name; stays_by = catalog-stays name; loose = catalog-loose name; roomy = catalog-roomy name }
every (LoseDatafile file) = lawful (LoseDatafile file) (lose-on file) (lose-stays file) (lose-loose file) (lose-roomy file)
every (LoseLog thread) = lawful (LoseLog thread) (lose_log-on thread) (lose_log-stays thread) (lose_log-loose thread) (lose_log-roomy thread)
every (Corrupt file block) = lawful (Corrupt file block) (corrupt-on file block) (corrupt-stays file block) (corrupt-loose file block) (corrupt-roomy file block)
every (Remove name) = lawful (Remove name) (remove-on name) (remove-stays name) (remove-loose name) (remove-roomy name)
every (Damage name at) = lawful (Damage name at) (damage-on name at) (damage-stays name at) (damage-loose name at) (damage-roomy name at)
every (Cut name to) = lawful (Cut name to) (cut-on name to) (cut-stays name to) (cut-loose name to) (cut-roomy name to)
every (Rename old new) = lawful (Rename old new) (rename-on old new) (rename-stays old new) (rename-loose old new) (rename-roomy old new)

pub every-leads : (c : Command) → LeadsOn c
every-leads c = (every c).leads_on

pub every-tells : (c : Command) → TellsOn c
every-tells c = tells c (every-tells-by c)

pub every-loose : (c : Command) → StaysLoose c
every-loose c = (every c).loose

pub every-stays : (c : Command) → StaysBy c
every-stays c = (every c).stays_by

pub every-roomy : (c : Command) → LeavesIds c
every-roomy c = (every c).roomy
