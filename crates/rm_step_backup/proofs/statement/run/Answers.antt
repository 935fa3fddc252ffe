use Rattle.std.{specs.Global.{Global}, proofs.{Common.{◌≤◌, ◌∙◌, List, Vec, ap, sym, subst, length, All}, lemmas.Result.{IfOk-weaker}}}
use Rattle.rm_channel.specs.{Jobs.{lists}, Room.{AreThreads, CanWrite, IsThere}, declared.jobs.WriteJob.{WriteJob}}
use Rattle.rm_machine.specs.{Asked.{writes_in}, Events.{opening}, Sound.{IsSound}, Running.{CanFollow}, declared.job.Job.{Job}}
use Rattle.rm_machine.proofs.{BackupAccepted.{can-back_up}, WritersRoom.{fits-numbers}}
use Rattle.rm_step_backup.{specs.{Copying.{AreCopiesOf, Stands}, Running.{HasRunLive}}, proofs.Backed.{HasWorked, begun-sound, can-follow}}
use Rattle.rm_step_backup.proofs.Room.{begun-stand, begun-threads, begun-writes}
use Rattle.rm_step_backup.proofs.statement.run.Goals as goal

pub writers_in-requires : goal.writers_in-requires
writers_in-requires g c = record { fits = fits-numbers c.args.state.now (writes_in c.args.form.now) c.requires.sound (can-back_up c.args.state.now c.args.form.now c.requires.sound c.requires.accepted).writes }

pub begin-requires-clause-jobs : goal.begin-requires-clause-jobs
begin-requires-clause-jobs g c = c.requires.jobs.files

pub copy_jobs-requires-clause-sound : goal.copy_jobs-requires-clause-sound
copy_jobs-requires-clause-sound g c =
    let can = can-back_up c.args.state.now c.args.form.now c.requires.sound c.requires.accepted in
    coe 1 0 (i. IsSound (c.in_ok-begin.ensures.after i)) (begun-sound c.args.state.now c.args.form.now c.requires.sound can)

pub copy_jobs-requires-clause-stand : goal.copy_jobs-requires-clause-stand
copy_jobs-requires-clause-stand g c =
    let can = can-back_up c.args.state.now c.args.form.now c.requires.sound c.requires.accepted in
    coe 1 0 (i. All (λ (j : Job). Stands (c.in_ok-begin.ensures.after i) j.file) c.args.jobs.now) (begun-stand c.args.state.now c.args.form.now c.args.jobs.now c.requires.sound can c.requires.jobs)

pub run_live-requires-clause-sound : goal.run_live-requires-clause-sound
run_live-requires-clause-sound g c κs within =
    let can = can-back_up c.args.state.now c.args.form.now c.requires.sound c.requires.accepted in
    coe 1 0 (i. IsSound (c.in_ok-begin.ensures.after i)) (begun-sound c.args.state.now c.args.form.now c.requires.sound can)

pub run_live-requires-clause-follow : goal.run_live-requires-clause-follow
run_live-requires-clause-follow g c κs within =
    let can = can-back_up c.args.state.now c.args.form.now c.requires.sound c.requires.accepted in
    let written = ap lists c.as_slice-2.ensures.value ∙ c.in_ok-writers.ensures.lists in
    coe 1 0 (i. CanFollow (c.in_ok-begin.ensures.after i) (written i)) (can-follow c.args.state.now c.args.form.now can)

pub run_live-requires-clause-lists : goal.run_live-requires-clause-lists
run_live-requires-clause-lists g c κs within = subst (λ (vs : List (Vec WriteJob Global)). length vs ≤ 4) (sym c.as_slice-2.ensures.value) c.in_ok-writers.ensures.few

pub run_live-requires-clause-there : goal.run_live-requires-clause-there
run_live-requires-clause-there g c κs within = subst (All (IsThere (opening c.begin.new.state).files)) (sym c.as_slice.ensures.value) c.in_ok-copies.ensures.there

pub run_live-requires-clause-threads : goal.run_live-requires-clause-threads
run_live-requires-clause-threads g c κs within =
    let can = can-back_up c.args.state.now c.args.form.now c.requires.sound c.requires.accepted in
    let written = ap lists c.as_slice-2.ensures.value ∙ c.in_ok-writers.ensures.lists in
    coe 1 0 (i. AreThreads (opening (c.in_ok-begin.ensures.after i)).logs 1 (written i)) (begun-threads c.args.state.now c.args.form.now c.requires.sound can)

pub run_live-requires-clause-room : goal.run_live-requires-clause-room
run_live-requires-clause-room g c κs within =
    let can = can-back_up c.args.state.now c.args.form.now c.requires.sound c.requires.accepted in
    let written = ap lists c.as_slice-2.ensures.value ∙ c.in_ok-writers.ensures.lists in
    coe 1 0 (i. CanWrite (opening (c.in_ok-begin.ensures.after i)) (written i)) (begun-writes c.args.state.now c.args.form.now c.requires.sound can)

pub returns-clause-ran : goal.returns-clause-ran
returns-clause-ran g c =
    let begun = c.in_ok-begin.ensures.after in
    let copies = coe 0 1 (i. AreCopiesOf (begun i) c.args.jobs.now (sym c.as_slice.ensures.value i)) c.in_ok-copies.ensures in
    let written = ap lists c.as_slice-2.ensures.value ∙ c.in_ok-writers.ensures.lists in
    IfOk-weaker c.run_live.result (HasRunLive c.begin.new.state c.as_slice.result.now (lists c.as_slice-2.result.now) c.run_live.new.state) (HasWorked c.args.state.now c.args.form.now c.args.jobs.now c.run_live.new.state)
    (λ w ran. (c.as_slice.result.now, copies.spans, coe 0 1 (i. HasRunLive (begun i) c.as_slice.result.now (written i) c.run_live.new.state w) ran)) c.run_live.ensures.ran
