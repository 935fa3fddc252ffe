use Rattle.std.{specs.Prelude.{IfSome}, proofs.Common.{rules, ◌≡◌, ◌∙◌, ◌+◌, ◌++◌, None, Some, ℕ, List, ap, arith, map, subst, sym}}
use Rattle.std.proofs.lemmas.Bool.{le-ltb}
use Rattle.rm_commit.specs.declared.commit.Object.{Object}
use Rattle.rm_machine.specs.{BackupLogs.{copies_of, copies_refusal, copy_line, copy_object}, State.{ledger}}
use Rattle.rm_machine.proofs.BackingUpLogs.{room-for}
use Rattle.rm_redo.specs.declared.log_file.LogFile.{LogFile}
use Rattle.rm_report.specs.declared.line.Line.{Line}
use Rattle.rm_step_backup.specs.{Logs.{AreRecorded, IsAll}, declared.looking.Looked.{Looked}}
use Rattle.rm_step_backup.proofs.LogBackups.{all-dated, all-short, copies-hands, copies-refused, logs_in}
use Rattle.rm_step_backup.proofs.logs.backup_logs.Goals as goal

pub copies_refusal-requires-clause-short : goal.copies_refusal-requires-clause-short
copies_refusal-requires-clause-short g c =
    let s = c.args.state.now in
    all-short s 65536 c.as_slice-logs.result.now (subst (λ (xs : List (ℕ × LogFile)). AreRecorded (ledger s).logs 65536 xs) (sym c.as_slice-logs.ensures) c.in_ok-looked.ensures.recorded)

pub returns-in-Some-clause-refuses : goal.returns-in-Some-clause-refuses
returns-in-Some-clause-refuses g c =
    let s = c.args.state.now in
    let of : copies_refusal s (logs_in c.as_slice-logs.result.now) ≡ Some c.in-Some.refusal = search rules in
    copies-refused (g.D.Store.held c.args.store.now) s c.in_ok-looked.looked c.in_ok-looked.ensures.all c.in-Some.refusal (ap (λ (xs : List (ℕ × LogFile)). copies_refusal s (logs_in xs)) (sym c.as_slice-logs.ensures) ∙ of)

pub returns-clause-hands : goal.returns-clause-hands
returns-clause-hands g c =
    let s = c.args.state.now in
    let all : Looked = record { found = c.as_slice-logs.result.now; skipped = c.as_slice.result.now } in
    let told = coe 1 0 (i. IfSome (g.D.Store.held c.args.store.now) (λ h. IsAll h (ledger s).logs (record { found = c.as_slice-logs.ensures i; skipped = c.as_slice.ensures i }))) c.in_ok-looked.ensures.all in
    let made = c.in_ok-back_up_all.ensures in
    let copies = copies_of s (logs_in all.found) in
    let of : copies_refusal s (logs_in all.found) ≡ None = search rules in
    copies-hands (g.D.Store.held c.args.store.now) s all told c.back_up_all.new.handed c.back_up_all.new.state of
    (made.lines ∙ ap (λ (ls : List Line). ls ++ map copy_line copies) c.in_ok-first_lines.ensures.value) (made.objects ∙ ap (λ (os : List Object). os ++ map copy_object copies) c.new.ensures) (made.removes ∙ c.new-2.ensures) made.after

pub returns-clause-dates : goal.returns-clause-dates
returns-clause-dates g c =
    all-dated (copies_of c.args.state.now (logs_in c.as_slice-logs.result.now)) c.in_ok-first_lines.field-0 c.back_up_all.new.handed.lines c.in_ok-first_lines.ensures.dates c.in_ok-back_up_all.ensures.lines

pub returns-clause-ids : goal.returns-clause-ids
returns-clause-ids g c =
    let s = c.args.state.now in
    let logs = logs_in c.as_slice-logs.result.now in
    let of : copies_refusal s logs ≡ None = search rules in
    le-ltb 4294967295 ((ledger s).base.next_id + 0 + 68) (omega (arith, (room-for s logs c.requires.sound of).ids))
