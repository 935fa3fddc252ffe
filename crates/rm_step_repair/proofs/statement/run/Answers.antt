use Rattle.std.{specs.Prelude.{IfOk}, proofs.Common.{◌∙◌, ap, All}}
use Rattle.rm_channel.specs.{Jobs.{lists}, Room.{AreThreads, CanWrite}}
use Rattle.rm_machine.{specs.{Events.{opening}, Running.{CanFollow}, Sound.{IsSound}}, proofs.RepairAccepted.{can-repair}}
use Rattle.rm_repair.specs.Mended.{HasBlock, IsOlder}
use Rattle.rm_step_repair.specs.Gone.{HasRepaired}
use Rattle.rm_step_repair.proofs.Begun.{asked-fit, begun-follow, begun-opening, begun-sound, begun-threads, begun-writes}
use Rattle.rm_step_repair.proofs.statement.run.Goals as goal

pub writers_in-requires : goal.writers_in-requires
writers_in-requires g c = record { fits = asked-fit c.args.state.now c.args.form.now c.requires.sound (can-repair c.args.state.now c.args.form.now c.requires.sound c.requires.accepted) }

pub run_live-requires-clause-sound : goal.run_live-requires-clause-sound
run_live-requires-clause-sound g c κs within =
    let can = can-repair c.args.state.now c.args.form.now c.requires.sound c.requires.accepted in
    coe 1 0 (i. IsSound (c.in_ok-add_marks_for.ensures.after i)) (begun-sound c.args.state.now c.args.form.now c.requires.sound can)

pub run_live-requires-clause-follow : goal.run_live-requires-clause-follow
run_live-requires-clause-follow g c κs within =
    let can = can-repair c.args.state.now c.args.form.now c.requires.sound c.requires.accepted in
    let written = ap lists c.as_slice.ensures.value ∙ c.in_ok-writers.ensures.lists in
    coe 1 0 (i. CanFollow (c.in_ok-add_marks_for.ensures.after i) (written i)) (begun-follow c.args.state.now c.args.form.now c.requires.sound can)

pub run_live-requires-clause-there : goal.run_live-requires-clause-there
run_live-requires-clause-there g c κs within =
    let can = can-repair c.args.state.now c.args.form.now c.requires.sound c.requires.accepted in
    coe 1 0 (i. All (HasBlock (opening (c.in_ok-add_marks_for.ensures.after i)).files) c.args.jobs.now) (coe 1 0 (i. All (HasBlock (begun-opening c.args.state.now c.args.form.now c.requires.sound can i).files) c.args.jobs.now) c.requires.there)

pub run_live-requires-clause-older : goal.run_live-requires-clause-older
run_live-requires-clause-older g c κs within =
    let can = can-repair c.args.state.now c.args.form.now c.requires.sound c.requires.accepted in
    coe 1 0 (i. All (IsOlder (opening (c.in_ok-add_marks_for.ensures.after i)).now) c.args.jobs.now) (coe 1 0 (i. All (IsOlder (begun-opening c.args.state.now c.args.form.now c.requires.sound can i).now) c.args.jobs.now) c.requires.older)

pub run_live-requires-clause-threads : goal.run_live-requires-clause-threads
run_live-requires-clause-threads g c κs within =
    let can = can-repair c.args.state.now c.args.form.now c.requires.sound c.requires.accepted in
    let written = ap lists c.as_slice.ensures.value ∙ c.in_ok-writers.ensures.lists in
    coe 1 0 (i. AreThreads (opening (c.in_ok-add_marks_for.ensures.after i)).logs 1 (written i)) (begun-threads c.args.state.now c.args.form.now c.requires.sound can)

pub run_live-requires-clause-room : goal.run_live-requires-clause-room
run_live-requires-clause-room g c κs within =
    let can = can-repair c.args.state.now c.args.form.now c.requires.sound c.requires.accepted in
    let written = ap lists c.as_slice.ensures.value ∙ c.in_ok-writers.ensures.lists in
    coe 1 0 (i. CanWrite (opening (c.in_ok-add_marks_for.ensures.after i)) (written i)) (begun-writes c.args.state.now c.args.form.now c.requires.sound can)

pub returns-clause-ran : goal.returns-clause-ran
returns-clause-ran g c =
    let begun = c.in_ok-add_marks_for.ensures.after in
    let written = ap lists c.as_slice.ensures.value ∙ c.in_ok-writers.ensures.lists in
    coe 0 1 (i. IfOk c.run_live.result (λ scns. HasRepaired (begun i) c.args.jobs.now (written i) c.run_live.new.state (lists scns.items))) c.run_live.ensures.ran
