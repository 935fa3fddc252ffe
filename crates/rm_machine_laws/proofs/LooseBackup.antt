-- BACKUP of datafiles and of logs puts names of new ids alone.
use Rattle.std.proofs.Common.{◌≡◌, ◌≤◌, ◌+◌, ◌∷◌, ℕ, List, [], Some, length, map, refl, ap, subst, arith}
use Rattle.std.proofs.lemmas.List.Elements.{All-cons, All-nil}
use Rattle.rm_commit.specs.declared.commit.Object.{Object}
use Rattle.rm_lang_statement.specs.declared.command.{BackupForm.{BackupForm}, Command.TheVariants.{Backup, BackupLogs}}
use Rattle.rm_redo.specs.declared.log_file.LogFile.{LogFile}
use Rattle.rm_catalog.specs.declared.record.BaseEntry.{BaseEntry}
use Rattle.rm_machine.specs.{BackupOutcome.{at_end, effect_of}, BackupLogs.{copies_of, copies_refusal, copy_object, copying, numbered_from}}
use Rattle.rm_machine.specs.{Sound.{IsSound}, MadeObjects.{Packed, after_object, alone, in_set, object_put, objects_put, packed}}
use Rattle.rm_machine.specs.{State.{ledger, now_of}, Step.{refusal_of}, declared.state.State.{State}}
use Rattle.rm_machine.proofs.{BackingUp.{base-at_end, objects-many}, BackupAccepted.{can-back_up}, Recording.{next-id}}
use Rattle.rm_machine.proofs.BackingUpLogs.{after_copies, room-for}
use Rattle.rm_machine_laws.{specs.Loose.{IsLoose, StaysLoose}, proofs.{BackingUpLogs.{done-of}, Leading.{done-by}}}
use Rattle.rm_machine_laws.proofs.LooseNew.{AreNew, IsFree, IsNewName, new-log, new-loose, new-piece, new-set}

object-new : (first s : State) (x : Packed) → IsSound first → IsFree first (ledger s).base.next_id → IsNewName first (object_put s x).name
object-new first s (alone x) sound free = new-piece first x.copy (ledger s).base.next_id sound free
object-new first s (in_set checkpoint ms) sound free = new-set first (ledger s).base.next_id sound free

objects-new : (b : BackupForm) (tag : List ℕ) (xs : List Packed) (s first : State) → IsSound first → (ledger first).base.next_id ≤ (ledger s).base.next_id → (ledger s).base.next_id + length xs + 68 ≤ 4294967295 → AreNew first (objects_put s b tag xs)
objects-new b tag [] s first sound low most = All-nil (λ (x : Object). IsNewName first x.name)
objects-new b tag (x ∷ xs) s first sound low most =
    let q : State = after_object s b tag x in
    let next = next-id b tag s x in
    All-cons (λ (y : Object). IsNewName first y.name) (object_put s x) (objects_put q b tag xs)
    (object-new first s x sound (record { next = low; most = omega (arith, most) }))
    (objects-new b tag xs q first sound (omega (arith, low, next)) (omega (arith, most, next)))

pub backup-loose : (b : BackupForm) → StaysLoose (Backup b)
backup-loose b s held lines e t sound comes =
    let both = done-by (refusal_of s (Backup b)) s held (Backup b) lines e t comes in
    let does = both.1 in
    let xs = packed (ledger s) b (now_of s) does.jobs does.rows in
    let is = does.is in
    let same : effect_of s b does.tag does.events xs ≡ e = cc in
    let next : (ledger (at_end s b does.events)).base.next_id ≡ (ledger s).base.next_id = ap (λ (x : BaseEntry). x.next_id) (base-at_end s b does.events) in
    let many = objects-many s b does.jobs does.rows does.are does.whole in
    let most = (can-back_up s b sound both.0).ids in
    subst (λ x. IsLoose (Some s) (Backup b) x t) same
    (new-loose s (Backup b) (effect_of s b does.tag does.events xs) t refl
    (objects-new b does.tag xs (at_end s b does.events) s sound (omega (arith, next)) (omega (arith, next, many, most))))

-- BACKUP ARCHIVELOG ALL

copies-new : (logs : List LogFile) (n : ℕ) (s : State) → IsSound s → (ledger s).base.next_id ≤ n → n + length logs ≤ 4294967295 → AreNew s (map copy_object (numbered_from n logs))
copies-new [] n s sound low most = All-nil (λ (x : Object). IsNewName s x.name)
copies-new (a ∷ logs) n s sound low most =
    All-cons (λ (x : Object). IsNewName s x.name) (copy_object (n, a)) (map copy_object (numbered_from (n + 1) logs))
    (new-log s n sound (record { next = low; most = omega (arith, most) }))
    (copies-new logs (n + 1) s sound (omega (arith, low)) (omega (arith, most)))

pub back_logs-loose : StaysLoose BackupLogs
back_logs-loose s held lines e t sound comes =
    let does = (done-by (refusal_of s BackupLogs) s held BackupLogs lines e t comes).1 in
    let logs = map (λ (x : ℕ × LogFile). x.1) does.found in
    let is = done-of (copies_refusal s logs) _ lines (copying (copies_of s logs)) e (after_copies s logs) t does.is in
    let most = (room-for s logs sound is.0).ids in
    subst (λ x. IsLoose (Some s) BackupLogs x t) is.1
    (new-loose s BackupLogs (copying (copies_of s logs)) t refl (copies-new logs (ledger s).base.next_id s sound (omega arith) (omega (arith, most))))
