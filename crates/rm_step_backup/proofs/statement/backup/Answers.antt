use Rattle.std.proofs.Common.{rules}
use Rattle.rm_channel.specs.Jobs.{lists}
use Rattle.rm_machine.specs.{Backup.{AreJobs, IsTagBy, named_tag}, MadeObjects.{CanRecord, packed}, State.{ledger}}
use Rattle.rm_machine.proofs.BackingUp.{per_set-some}
use Rattle.rm_step_backup.proofs.{Backed.{few-told, hands, ran-record, ran-sound, rows-many}, Forms.{not-cumulative}}
use Rattle.rm_step_backup.proofs.statement.backup.Goals as goal

pub jobs-requires-clause-plain : goal.jobs-requires-clause-plain
jobs-requires-clause-plain g c = not-cumulative c.args.form.now c.requires.statement.0

pub run-requires-clause-jobs : goal.run-requires-clause-jobs
run-requires-clause-jobs g c κs within = coe 1 0 (i. AreJobs c.args.state.now c.args.form.now (c.as_slice-jobs.ensures.value i)) c.in_ok-made.ensures

pub record_all-requires-clause-sound : goal.record_all-requires-clause-sound
record_all-requires-clause-sound g c κs within =
    let by : IsTagBy (named_tag c.args.form.now) c.args.state.now.catalog.ledger.base.moment c.in_ok-tag.tag = search rules in
    let are = coe 1 0 (i. AreJobs c.args.state.now c.args.form.now (c.as_slice-jobs.ensures.value i)) c.in_ok-made.ensures in
    ran-sound c.args.state.now c.args.form.now c.requires.sound c.requires.statement c.requires.accepted c.in_ok-tag.tag by c.as_slice-jobs.result.now are c.run.new.state c.in_ok-work.work c.in_ok-work.ensures.ran

pub record_all-requires-clause-some : goal.record_all-requires-clause-some
record_all-requires-clause-some g c κs within = per_set-some c.args.form.now c.requires.statement.0

pub record_all-requires-clause-many : goal.record_all-requires-clause-many
record_all-requires-clause-many g c κs within =
    let by : IsTagBy (named_tag c.args.form.now) c.args.state.now.catalog.ledger.base.moment c.in_ok-tag.tag = search rules in
    let are = coe 1 0 (i. AreJobs c.args.state.now c.args.form.now (c.as_slice-jobs.ensures.value i)) c.in_ok-made.ensures in
    rows-many c.args.state.now c.args.form.now c.requires.sound c.requires.statement c.requires.accepted c.in_ok-tag.tag by c.as_slice-jobs.result.now are c.run.new.state c.in_ok-work.work c.in_ok-work.ensures.ran

pub record_all-requires-clause-can : goal.record_all-requires-clause-can
record_all-requires-clause-can g c κs within =
    let t = c.run.new.state in
    let by : IsTagBy (named_tag c.args.form.now) c.args.state.now.catalog.ledger.base.moment c.in_ok-tag.tag = search rules in
    let are = coe 1 0 (i. AreJobs c.args.state.now c.args.form.now (c.as_slice-jobs.ensures.value i)) c.in_ok-made.ensures in
    coe 1 0 (i. CanRecord t c.args.form.now c.in_ok-tag.tag (packed (ledger t) c.args.form.now (c.now-checkpoint.ensures i) c.as_slice-jobs.result.now (lists c.in_ok-work.work.rows.items)))
    (ran-record c.args.state.now c.args.form.now c.requires.sound c.requires.statement c.requires.accepted c.in_ok-tag.tag by c.as_slice-jobs.result.now are c.run.new.state c.in_ok-work.work c.in_ok-work.ensures.ran)

pub tell_writes-requires : goal.tell_writes-requires
tell_writes-requires g c =
    let by : IsTagBy (named_tag c.args.form.now) c.args.state.now.catalog.ledger.base.moment c.in_ok-tag.tag = search rules in
    let are = coe 1 0 (i. AreJobs c.args.state.now c.args.form.now (c.as_slice-jobs.ensures.value i)) c.in_ok-made.ensures in
    record { few = few-told c.args.state.now c.args.form.now c.requires.sound c.requires.statement c.requires.accepted c.in_ok-tag.tag by c.as_slice-jobs.result.now are c.run.new.state c.in_ok-work.work c.in_ok-work.ensures.ran c.as_slice.result.now c.as_slice.ensures.value }

pub returns-clause-hands : goal.returns-clause-hands
returns-clause-hands g c held =
    let records = ledger c.run.new.state in
    let js = c.as_slice-jobs.result.now in
    let objects = packed records c.args.form.now c.now-checkpoint.result js (lists c.in_ok-work.work.rows.items) in
    let by : IsTagBy (named_tag c.args.form.now) c.args.state.now.catalog.ledger.base.moment c.in_ok-tag.tag = search rules in
    let are = coe 1 0 (i. AreJobs c.args.state.now c.args.form.now (c.as_slice-jobs.ensures.value i)) c.in_ok-made.ensures in
    hands c.args.state.now c.args.form.now c.requires.sound c.requires.statement c.requires.accepted c.in_ok-tag.tag by c.as_slice-jobs.result.now are c.run.new.state c.in_ok-work.work c.in_ok-work.ensures.ran
    objects (λ i. packed records c.args.form.now (c.now-checkpoint.ensures i) js (lists c.in_ok-work.work.rows.items))
    c.record_all.new.state (record { lines = c.new.result; objects = c.new-2.result; removes = c.new-3.result }) c.record_all.new.handed c.run.new.edits.items c.record_all.new.edits.items c.in_ok-record_all.ensures c.new.ensures c.new-2.ensures c.new-3.ensures
    c.tell_none.new.lines c.tell_writes.new.lines
    c.in_ok-tell_none.ensures c.as_slice.result.now c.as_slice.ensures.value c.in_ok-tell_writes.ensures held
