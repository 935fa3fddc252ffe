-- What is done leaves the ids of a save, and gives no id that was given.
use Rattle.std.specs.Option.{option_map_or}
use Rattle.std.proofs.Common.{◌≡◌, ◌⊎◌, ◌≤◌, ◌+◌, ◌∙◌, ◌∷◌, ℕ, zero, suc, List, [], Option, Some, None, IsSomeAnd, is_none, Bool, true, false, cond, inl, inr, refl, ap, subst, arith, rules, length, map}
use Rattle.std.proofs.lemmas.Bool.{le-ltb}
use Rattle.rm_base.specs.{Store.{Held}, declared.{block.Row.{Row}, kinds.{Class.{Class}, Status.{Status}}}}
use Rattle.rm_base.{specs.declared.refusal.Refusal.TheVariants.{Rm03}, proofs.Conditions.{only-where, unless}}
use Rattle.rm_catalog.specs.declared.record.{BaseEntry.{BaseEntry}, LogEntry.{LogEntry}, PieceEntry.{PieceEntry}, SetEntry.{SetEntry}}
use Rattle.rm_redo.specs.declared.log_file.LogFile.{LogFile}
use Rattle.rm_report.specs.declared.line.Line.{Line}
use Rattle.rm_catalog_typed.specs.{Changes.{with_log, with_new_log, with_piece, with_set}, TypedCatalog.{TypedCatalog}}
use Rattle.rm_lang_statement.specs.declared.command.{BackupForm.{BackupForm}, ChangeTo.{ChangeTo}}
use Rattle.rm_lang_statement.specs.declared.command.ChangeTo.TheVariants.{Available, Keep, NoKeep, Unavailable, Uncatalog}
use Rattle.rm_lang_statement.specs.declared.command.Command.{Command}
use Rattle.rm_lang_statement.specs.declared.command.Command.TheVariants.{ArchiveLogCurrent, Backup, BackupFrom, BackupLogs, BlockRecover, ChangeBackup, Corrupt, CreateDatabase, CreateDatafile, Crosscheck, Cut, Damage, DeleteBackup, DeleteExpired, DeleteObsolete, LoseDatafile, LoseLog, Mount, OpenPlain, OpenResetlogs, Recover, Remove, Rename, ResetDatabase, Restore, SwitchLogfile, SwitchThread, Tracking, Write, Parallelism, Retention, RecoverCopy}
use Rattle.rm_lang_statement.specs.declared.command.{Until.{Until}, RepairForm.{RepairForm}, RetentionForm.{RetentionForm}}
use Rattle.rm_lang_statement.specs.declared.command.WriteForm.{WriteForm}
use Rattle.rm_evidence.specs.declared.evidence.Evidence.{Evidence}
use Rattle.rm_machine.specs.{Archive.{after_all, after_thread, after_threads, archiving, due_from}, BackupOutcome.{at_end, effect_of}}
use Rattle.rm_machine.specs.{BlockRecover.{MendsBlocks, MissesBlock, repair_begun, without_mended}, Corrupt.{corrupted, with_damage}}
use Rattle.rm_machine.specs.MadeObjects.{Packed, after_object, after_objects, packed}
use Rattle.rm_machine.specs.BackupLogs.{copies_of, copies_refusal, copy_entry, copying, numbered_from, with_copies}
use Rattle.rm_machine.specs.{CreateDatafile.{with_datafile}, Damage.{has_block, without_damaged}, Events.{after_events}}
use Rattle.rm_machine.specs.{Configure.{policy_of, with_channels, with_policy}, DisableThread.{disabling, with_thread_off}}
use Rattle.rm_machine.specs.{Effect.{Effect, done, no_effect, refused}, EnableThread.{with_thread_on}, Laws.{only_tells}}
use Rattle.rm_machine.specs.{LoseDatafile.{without_file}, LoseLog.{without_log}, Marks.{ids_refusal, lacks_ids, marks_before, with_marks}}
use Rattle.rm_machine.specs.{Mount.{as_mounted, mounted}, Open.{opened}, OpenResetlogs.{branched_off, resetlogs_lines}}
use Rattle.rm_machine.specs.{Recover.{RecoversTo, recover_target, recovered, target_refusal}, ResetDatabase.{at_incarnation}}
use Rattle.rm_machine.specs.{Restore.{RestoresTo, place_refusal, restored}, Roll.{after_roll, roll_effect}, Sound.{IsSound}}
use Rattle.rm_machine.specs.{State.{current_of, is_no_thread, ledger, now_of, online}, Step.{IsDone, IsOutcome, refusal_of}}
use Rattle.rm_machine.specs.SwitchLogfile.{archive_refusal, archived, is_due, made_lines, none_lines, with_archived}
use Rattle.rm_machine.specs.Tracking.{with_tracking}
use Rattle.rm_machine.specs.Upkeep.{changed_to, log_at, log_changed, piece_at, piece_changed, set_at, set_changed, with_catalog, with_keep, with_status, with_statuses, without_all, without_record}
use Rattle.rm_machine.{specs.{Write.{with_write}, declared.state.State.{State}}, proofs.{Untils.{until-none}, Archives.{Took, took-thread}}}
use Rattle.rm_machine.proofs.{BackingUp.{base-at_end, objects-many}, BackupAccepted.{can-back_up}, Recording.{next-id}}
use Rattle.rm_machine.proofs.{BackingUpLogs.{after_copies, room-for}, Branching.{can-reset}, Disabling.{accepted}, Rolling.{can-roll}}
use Rattle.rm_machine.proofs.{Asking.{Asks, asks-else, asks-ids, repair-asks}, Switching.{not-above}, Walk.{events-same}}
use Rattle.rm_machine_laws.proofs.{ArchivingAll.{room}, Asking.{corrupt-asks, write-asks}}
use Rattle.rm_machine_laws.proofs.{BackingUpLogs.{done-of}, Mishaps.{IsMishap, cut-by, damaged-by, removed-by, renamed-by}}
use Rattle.rm_machine_laws.proofs.{Leading.{done-by}, Renewals.{leaves-renewed}, Telling.{never-done}}

-- the next id of a catalog, and of a database
abbrev next_in : TypedCatalog → ℕ
next_in r = r.ledger.base.next_id

abbrev next : State → ℕ
next s = next_in s.catalog

-- from one state to the next the ids of a save are left, and the next id does not fall
pub record KeepsIds (s t : State) : Type 0 where
  pub save : lacks_ids t 0 ≡ false
  pub given : (ledger s).base.next_id ≤ (ledger t).base.next_id

-- so for what the statement does
abbrev pub LeavesIds : Command → Type 0
LeavesIds c =
    (s : State) (held : Held) (lines : List Line) (e : Effect) (t : State) → IsSound s → IsOutcome s held c (done lines e t) → KeepsIds s t

-- enough are left
pub enough : (s t : State) → next s ≤ next t → next t + 68 ≤ 4294967295 → KeepsIds s t
enough s t up most = record { save = le-ltb 4294967295 (next t + 0 + 68) (omega (arith, most)); given = up }

-- by the state that it comes to
left-after : (s : State) (lines said : List Line) (e x : Effect) (q t : State) → done lines e t ≡ done said x q → next s ≤ next q → next q + 68 ≤ 4294967295 → KeepsIds s t
left-after s lines said e x q t is up most = let state : q ≡ t = cc in subst (KeepsIds s) state (enough s q up most)

-- it draws none
none-drawn : (s : State) (lines said : List Line) (e x : Effect) (q t : State) → done lines e t ≡ done said x q → next q ≡ next s → lacks_ids s 0 ≡ false → KeepsIds s t
none-drawn s lines said e x q t is same left =
    left-after s lines said e x q t is (omega (arith, same)) (omega (arith, not-above 4294967295 (next s + 0 + 68) left, same))

-- Statements that draw none

-- what was not refused, and was done
pub leaves : (c : Command) → ((s : State) (held : Held) (lines : List Line) (e : Effect) (t : State) → IsSound s → refusal_of s c ≡ None → IsDone s held c (done lines e t) → KeepsIds s t) → LeavesIds c
leaves c by s held lines e t sound comes =
    let both = done-by (refusal_of s c) s held c lines e t comes in
    by s held lines e t sound both.0 both.1

-- a statement that asks for the ids, and comes to a state with the same next id
draws-none : (c : Command) → ((s : State) → Asks s (refusal_of s c))
    → ((s : State) (held : Held) (lines : List Line) (e : Effect) (t : State) → IsDone s held c (done lines e t) → lacks_ids s 0 ≡ false → KeepsIds s t) → LeavesIds c
draws-none c asks stays = leaves c (λ s held lines e t sound none is. stays s held lines e t is (asks s none))

pub create-roomy : (blocks : ℕ) → LeavesIds (CreateDatafile blocks)
create-roomy blocks = draws-none (CreateDatafile blocks) (λ s is. search rules)
    (λ s held lines e t is left. none-drawn s lines _ e _ (with_datafile s blocks) t is refl left)

pub write-roomy : (w : WriteForm) → LeavesIds (Write w)
write-roomy w = draws-none (Write w) (write-asks w)
    (λ s held lines e t is left. none-drawn s lines _ e _ (with_write s w) t is refl left)

mounted-next : (b : Bool) (s : State) → next (cond b (mounted (without_damaged s)) s) ≡ next s
mounted-next true s = refl
mounted-next false s = refl

pub enable-roomy : (t : ℕ) → LeavesIds (SwitchThread t true)
enable-roomy t = draws-none (SwitchThread t true) (λ s is. search rules)
    (λ s held lines e q is left. none-drawn s lines _ e _ (with_thread_on s t) q is refl left)

pub mount-roomy : LeavesIds Mount
mount-roomy = draws-none Mount asks-ids
    (λ s held lines e t is left. none-drawn s lines _ e _ (as_mounted s) t is (mounted-next s.instance.is_open s) left)

pub open-roomy : LeavesIds OpenPlain
open-roomy = draws-none OpenPlain (λ s is. search rules)
    (λ s held lines e t is left. none-drawn s lines _ e _ (opened s (now_of s)) t is refl left)

pub choose-roomy : (i : ℕ) → LeavesIds (ResetDatabase i)
choose-roomy i = draws-none (ResetDatabase i) (λ s is. search rules)
    (λ s held lines e t is left. none-drawn s lines _ e _ (at_incarnation s i) t is refl left)

pub lose-roomy : (f : ℕ) → LeavesIds (LoseDatafile f)
lose-roomy f = draws-none (LoseDatafile f) (λ s is. search rules)
    (λ s held lines e t is left. none-drawn s lines _ e _ (without_file s f) t is refl left)

pub lose_log-roomy : (thread : ℕ) → LeavesIds (LoseLog thread)
lose_log-roomy thread = draws-none (LoseLog thread) (λ s is. search rules)
    (λ s held lines e t is left. none-drawn s lines _ e _ (without_log (as_mounted s) thread) t is (mounted-next s.instance.is_open s) left)

-- Damage, and its repair

corrupted-next : (b : Bool) (s : State) (f : ℕ) (r : Row) → next (cond b s (with_damage s f r)) ≡ next s
corrupted-next true s f r = refl
corrupted-next false s f r = refl

pub corrupt-roomy : (f b : ℕ) → LeavesIds (Corrupt f b)
corrupt-roomy f b = draws-none (Corrupt f b) (corrupt-asks f b)
    (λ s held lines e t does left. none-drawn s lines _ e _ (corrupted s f does.0) t does.2 (corrupted-next (has_block s.instance.damaged f does.0.block) s f does.0) left)

marked-next : (b : Bool) (s : State) → next (cond b s (record s { catalog = with_marks s.catalog (marks_before s) })) ≡ next s
marked-next true s = refl
marked-next false s = refl

repair-left : (form : RepairForm) (s : State) (evidence : Evidence) (lines : List Line) (e : Effect) (t : State) → MissesBlock s evidence form (done lines e t) ⊎ MendsBlocks s evidence form (done lines e t) → lacks_ids s 0 ≡ false → KeepsIds s t
repair-left form s evidence lines e t (inl misses) left = absurd (let clash = misses.is in cc)
repair-left form s evidence lines e t (inr it) left =
    none-drawn s lines _ e _ (without_mended (after_events (repair_begun s form) it.events) form) t it.is
    (events-same next (λ q w. refl) (λ q f row. refl) it.events (repair_begun s form) ∙ marked-next (is_none form.during) s) left

pub repair-roomy : (form : RepairForm) → LeavesIds (BlockRecover form)
repair-roomy form = draws-none (BlockRecover form) (repair-asks form)
    (λ s held lines e t does left. repair-left form s does.evidence lines e t does.comes left)

-- RECOVER and RESTORE, by their target

recover-left : (o : Option ℕ) (s : State) (held : Held) (lines : List Line) (e : Effect) (t : State) → ((at : ℕ) → o ≡ Some at → target_refusal s at ≡ None) → RecoversTo s held o (done lines e t) → KeepsIds s t
recover-left None s held lines e t none does = absurd does
recover-left (Some at) s held lines e t none (inl found) = absurd (let clash = found.is in cc)
recover-left (Some at) s held lines e t none (inr all) =
    none-drawn s lines _ e _ (recovered s at all.back.files) t all.is refl (asks-else s _ _ (asks-else s _ _ (asks-ids s)) (none at refl))

pub recover-roomy : (until : Option Until) → LeavesIds (Recover until)
recover-roomy until = leaves (Recover until) (λ s held lines e t sound none does.
    recover-left (recover_target s until) s held lines e t (λ at is. until-none s (current_of s) until (target_refusal s) (ids_refusal s) at (unless s.instance.is_open _ _ none).1 is) does)

restore-left : (o file : Option ℕ) (s : State) (held : Held) (lines : List Line) (e : Effect) (t : State) → ((at : ℕ) → o ≡ Some at → place_refusal s file at ≡ None) → RestoresTo s held file o (done lines e t) → KeepsIds s t
restore-left None file s held lines e t none does = absurd does
restore-left (Some at) file s held lines e t none does =
    none-drawn s lines _ e _ (restored s does.back.files) t does.is refl (asks-else s _ _ (asks-else s _ _ (asks-ids s)) (none at refl))

pub restore-roomy : (file : Option ℕ) (until : Option Until) → LeavesIds (Restore file until)
restore-roomy file until = leaves (Restore file until) (λ s held lines e t sound none does.
    restore-left (recover_target s until) file s held lines e t (λ at is. until-none s (current_of s) until (place_refusal s file) (ids_refusal s) at (unless s.instance.is_open _ _ none).1 is) does)

-- Statements on records

map-next : {X : Type 0} (f : X → TypedCatalog) (o : Option X) (r : TypedCatalog) → ((x : X) → next_in (f x) ≡ next_in r) → next_in (option_map_or f o r) ≡ next_in r
map-next f None r same = refl
map-next f (Some x) r same = same x

log-next : (f : LogEntry → LogEntry) (n : ℕ) (r : TypedCatalog) → next_in (log_changed f n r) ≡ next_in r
log-next f n r = map-next (λ (e : LogEntry). with_log r (f e)) (log_at r n) r (λ e. refl)

piece-next : (f : PieceEntry → PieceEntry) (n : ℕ) (r : TypedCatalog) → next_in (piece_changed f n r) ≡ next_in r
piece-next f n r = map-next (λ (p : PieceEntry). with_piece r (f p)) (piece_at r n) r (λ p. refl)

set-next : (f : SetEntry → SetEntry) (n : ℕ) (r : TypedCatalog) → next_in (set_changed f n r) ≡ next_in r
set-next f n r = map-next (λ (e : SetEntry). with_set r (f e)) (set_at r n) r (λ e. refl)

-- one after another
changed-next : (f : LogEntry → LogEntry) (g : PieceEntry → PieceEntry) (k : SetEntry → SetEntry) (n : ℕ) (r : TypedCatalog) → next_in (set_changed k n (piece_changed g n (log_changed f n r))) ≡ next_in r
changed-next f g k n r = set-next k n (piece_changed g n (log_changed f n r)) ∙ piece-next g n (log_changed f n r) ∙ log-next f n r

status-next : (st : Status) (n : ℕ) (r : TypedCatalog) → next_in (with_status st n r) ≡ next_in r
status-next st n r = changed-next (λ e. record e { status = st }) (λ p. record p { status = st }) (λ e. record e { status = st }) n r

keep-next : (keep : Bool) (n : ℕ) (r : TypedCatalog) → next_in (with_keep keep n r) ≡ next_in r
keep-next keep n r = changed-next (λ e. record e { keep = keep }) (λ p. record p { keep = keep }) (λ e. record e { keep = keep }) n r

change-next : (to : ChangeTo) (n : ℕ) (r : TypedCatalog) → next_in (changed_to to n r) ≡ next_in r
change-next Available n r = status-next _ n r
change-next Unavailable n r = status-next _ n r
change-next Uncatalog n r = refl
change-next Keep n r = keep-next true n r
change-next NoKeep n r = keep-next false n r

statuses-next : (xs : List (ℕ × Status)) (r : TypedCatalog) → next_in (with_statuses xs r) ≡ next_in r
statuses-next [] r = refl
statuses-next (x ∷ xs) r = statuses-next xs (with_status x.1 x.0 r) ∙ status-next x.1 x.0 r

all-next : (ns : List ℕ) (r : TypedCatalog) → next_in (without_all ns r) ≡ next_in r
all-next [] r = refl
all-next (n ∷ ns) r = all-next ns (without_record n r)

pub change-roomy : (n : ℕ) (to : ChangeTo) → LeavesIds (ChangeBackup n to)
change-roomy n to = draws-none (ChangeBackup n to) (λ s is. search rules)
    (λ s held lines e t is left. none-drawn s lines _ e _ (with_catalog s (changed_to to n s.catalog)) t is (change-next to n s.catalog) left)

pub delete-roomy : (n : ℕ) → LeavesIds (DeleteBackup n)
delete-roomy n = draws-none (DeleteBackup n) (λ s is. search rules)
    (λ s held lines e t is left. none-drawn s lines _ e _ (with_catalog s (without_record n s.catalog)) t is refl left)

pub check-roomy : (class : Class) → LeavesIds (Crosscheck class)
check-roomy class = draws-none (Crosscheck class) asks-ids
    (λ s held lines e t does left. none-drawn s lines _ e _ (with_catalog s (with_statuses does.checked s.catalog)) t does.is (statuses-next does.checked s.catalog) left)

pub expire-roomy : (class : Class) → LeavesIds (DeleteExpired class)
expire-roomy class = draws-none (DeleteExpired class) asks-ids
    (λ s held lines e t does left. none-drawn s lines _ e _ (with_catalog s (without_all does.ids s.catalog)) t does.is (all-next does.ids s.catalog) left)

pub obsolete-roomy : LeavesIds DeleteObsolete
obsolete-roomy = draws-none DeleteObsolete asks-ids
    (λ s held lines e t does left. none-drawn s lines _ e _ (with_catalog s (without_all does.ids s.catalog)) t does.is (all-next does.ids s.catalog) left)

-- CONFIGURE, ENABLE and DISABLE

pub retention-roomy : (form : RetentionForm) → LeavesIds (Retention form)
retention-roomy form = draws-none (Retention form) (λ s is. search rules)
    (λ s held lines e t is left. none-drawn s lines _ e _ (with_catalog s (with_policy s.catalog (policy_of form))) t is refl left)

pub parallelism-roomy : (channels : ℕ) → LeavesIds (Parallelism channels)
parallelism-roomy channels = draws-none (Parallelism channels) (λ s is. search rules)
    (λ s held lines e t is left. none-drawn s lines _ e _ (with_catalog s (with_channels s.catalog channels)) t is refl left)

pub tracking-roomy : (on : Bool) → LeavesIds (Tracking on)
tracking-roomy on = draws-none (Tracking on) asks-ids
    (λ s held lines e t is left. none-drawn s lines _ e _ (with_tracking s on) t is refl left)

-- HOST: the state stays as it is

mishap-left : (s : State) (by e : Effect) (t : State) → IsMishap s by e t → lacks_ids s 0 ≡ false → KeepsIds s t
mishap-left s by e t mishap left = subst (KeepsIds s) mishap.state (record { save = left; given = omega arith })

pub remove-roomy : (name : List ℕ) → LeavesIds (Remove name)
remove-roomy name = draws-none (Remove name) asks-ids (λ s held lines e t is left. mishap-left s _ e t (removed-by s name (held name) lines e t is) left)

pub damage-roomy : (name : List ℕ) (at : ℕ) → LeavesIds (Damage name at)
damage-roomy name at = draws-none (Damage name at) asks-ids (λ s held lines e t is left. mishap-left s _ e t (damaged-by s name at (held name) lines e t is).1 left)

pub cut-roomy : (name : List ℕ) (to : ℕ) → LeavesIds (Cut name to)
cut-roomy name to = draws-none (Cut name to) asks-ids (λ s held lines e t is left. mishap-left s _ e t (cut-by s name to (held name) lines e t is).1 left)

pub rename-roomy : (old new : List ℕ) → LeavesIds (Rename old new)
rename-roomy old new = draws-none (Rename old new) asks-ids (λ s held lines e t is left. mishap-left s _ e t (renamed-by s old new (held old) (held new) lines e t is).1 left)

-- Statements that draw ids

switch-left : (b : Bool) (s : State) (t : ℕ) (lines : List Line) (e : Effect) (q : State) → cond b (archive_refusal s t) (ids_refusal s) ≡ None
    → done lines e q ≡ cond b (done (made_lines s t) (archived (next s) (online s t)) (with_archived s t)) (done (none_lines t) no_effect s) → KeepsIds s q
switch-left false s t lines e q none is = none-drawn s lines (none_lines t) e no_effect s q is refl (asks-ids s none)
switch-left true s t lines e q none is =
    let most : next s + 1 + 68 ≤ 4294967295 = search rules in
    left-after s lines (made_lines s t) e (archived (next s) (online s t)) (with_archived s t) q is (omega arith) (omega (arith, most))

pub switch-roomy : (t : ℕ) → LeavesIds (SwitchLogfile t)
switch-roomy t = leaves (SwitchLogfile t) (λ s held lines e q sound none is.
    switch-left (is_due s t) s t lines e q (unless (is_no_thread s t) _ _ (only-where s.instance.is_open _ _ none).1).1 is)

pub disable-roomy : (t : ℕ) → LeavesIds (SwitchThread t false)
disable-roomy t = leaves (SwitchThread t false) (λ s held lines e q sound none is.
    let took = (took-thread s t (is_due s t)).ids in
    left-after s lines _ e (disabling s t) (with_thread_off s t) q is (omega (arith, took)) (omega (arith, (accepted s t sound none).ids, took)))

-- each thread that is due draws one
threads-next : (n t : ℕ) (s : State) → next (after_threads s t n) ≡ next s + due_from s t n
threads-next zero t s = omega arith
threads-next (suc n) t s =
    let q : State = after_thread s t in
    let took : Took s q (cond (is_due s t) 1 0) = took-thread s t (is_due s t) in
    omega (arith, took.ids, threads-next n (t + 1) q)

pub archive-roomy : LeavesIds ArchiveLogCurrent
archive-roomy = leaves ArchiveLogCurrent (λ s held lines e t sound none is.
    let drawn = threads-next 4 1 s in
    left-after s lines _ e (archiving s) (after_all s) t is (omega (arith, drawn)) (omega (arith, (room s sound none).ids, drawn)))

branch-left : (o : Option ℕ) (s : State) (lines : List Line) (e : Effect) (t : State) → IsSomeAnd o (λ at. done lines e t ≡ done (resetlogs_lines s at) (archiving s) (branched_off (after_all s) at)) → next (after_all s) + 68 ≤ 4294967295 → KeepsIds s t
branch-left None s lines e t is most = absurd is
branch-left (Some at) s lines e t is most =
    left-after s lines (resetlogs_lines s at) e (archiving s) (branched_off (after_all s) at) t is (omega (arith, threads-next 4 1 s)) most

pub branch-roomy : LeavesIds OpenResetlogs
branch-roomy = leaves OpenResetlogs (λ s held lines e t sound none is.
    branch-left s.instance.point s lines e t is (omega (arith, (can-reset s sound none).room.ids, threads-next 4 1 s)))

-- each object draws one
objects-next : (b : BackupForm) (tag : List ℕ) (xs : List Packed) (s : State) → next (after_objects s b tag xs) ≡ next s + length xs
objects-next b tag [] s = omega arith
objects-next b tag (x ∷ xs) s = let rest = objects-next b tag xs (after_object s b tag x) in omega (arith, rest, next-id b tag s x)

pub backup-roomy : (b : BackupForm) → LeavesIds (Backup b)
backup-roomy b s held lines e t sound comes =
    let both = done-by (refusal_of s (Backup b)) s held (Backup b) lines e t comes in
    let does = both.1 in
    let xs = packed (ledger s) b (now_of s) does.jobs does.rows in
    let q : State = at_end s b does.events in
    let same : next q ≡ next s = ap (λ (x : BaseEntry). x.next_id) (base-at_end s b does.events) in
    let many = objects-many s b does.jobs does.rows does.are does.whole in
    let most = (can-back_up s b sound both.0).ids in
    let up = objects-next b does.tag xs q in
    left-after s lines _ e (effect_of s b does.tag does.events xs) (after_objects q b does.tag xs) t does.is (omega (arith, same, up)) (omega (arith, same, many, most, up))

-- and so does an increment for a standby
pub roll-roomy : (from : ℕ) → LeavesIds (BackupFrom from)
roll-roomy from = leaves (BackupFrom from) (λ s held lines e t sound none is.
    let most = (can-roll s from none).ids in left-after s lines _ e (roll_effect s from) (after_roll s) t is (omega arith) (omega (arith, most)))

-- and so does each backup of a log
copies-next : (logs : List LogFile) (n : ℕ) (r : TypedCatalog) → next_in (with_copies r (numbered_from n logs)) ≡ next_in r + length logs
copies-next [] n r = omega arith
copies-next (a ∷ logs) n r = let rest = copies-next logs (n + 1) (with_new_log r (copy_entry (n, a))) in omega (arith, rest)

pub back_logs-roomy : LeavesIds BackupLogs
back_logs-roomy s held lines e t sound comes =
    let does = (done-by (refusal_of s BackupLogs) s held BackupLogs lines e t comes).1 in
    let logs = map (λ (x : ℕ × LogFile). x.1) does.found in
    let is = done-of (copies_refusal s logs) _ lines (copying (copies_of s logs)) e (after_copies s logs) t does.is in
    let most = (room-for s logs sound is.0).ids in
    let up = copies-next logs (next s) s.catalog in
    subst (KeepsIds s) is.2 (enough s (after_copies s logs) (omega (arith, up)) (omega (arith, most, up)))

-- and so does each copy that changed
pub renew-roomy : (tag : List ℕ) (until : Option Until) → LeavesIds (RecoverCopy tag until)
renew-roomy tag until s held lines e t sound comes =
    let c = RecoverCopy tag until in
    let left = leaves-renewed (recover_target s until) s tag held lines e t sound (done-by (refusal_of s c) s held c lines e t comes).1 in
    enough s t left.given left.ids

-- Statements that are never done

-- what only tells
pub told-roomy : (c : Command) → only_tells c ≡ true → LeavesIds c
told-roomy c only = leaves c (λ s held lines e t sound none is. absurd (never-done c only s held lines e t is))

-- and CREATE DATABASE, where there is one
pub never-roomy : (dbid threads scn : ℕ) → LeavesIds (CreateDatabase dbid threads scn)
never-roomy dbid threads scn s held lines e t sound comes = absurd (let clash : done lines e t ≡ refused Rm03 = comes in cc)
