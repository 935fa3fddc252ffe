use Rattle.std.proofs.Common.{◌≡◌, ◌<◌, ◌∙◌, ◌++◌, [], ◌∷◌, false, List, ap, refl, sym, subst, length}
use Rattle.rm_base.specs.Numbers.{last_scn}
use Rattle.rm_commit.specs.declared.commit.Object.{Object}
use Rattle.rm_lang_statement.specs.declared.command.Command.TheVariants.{SwitchThread}
use Rattle.rm_report.specs.declared.line.Line.{Line, TheVariants.{ThreadSwitched}}
use Rattle.rm_catalog_typed.specs.{Fitting.{FitsSwitch}, TypedCatalog.{TypedCatalog}, declared.thread_switch.ThreadSwitch.{ThreadSwitch}}
use Rattle.rm_machine.specs.{Archive.{puts_by, thread_lines}, DisableThread.{disabled_lines, disabling, switch_off, with_thread_off}}
use Rattle.rm_machine.specs.{Marks.{lacks_room, marks_before, one_further}, Sound.{IsSound}, State.{now_of}, declared.state.State.{State}}
use Rattle.rm_machine.proofs.{Disabling.{accepted, after-due, can-archive, can-disable, disabling-fits}, Handing.{hands-by}}
use Rattle.rm_step_open.proofs.{Disabling.{after-disable, can-close, room-after}, Spaces.{space-can}}
use Rattle.rm_step_open.proofs.threads.disable_thread.Goals as goal

pub switch_off-switch-requires-clause-thread : goal.switch_off-switch-requires-clause-thread
switch_off-switch-requires-clause-thread c = (accepted c.args.state.now c.args.thread c.requires.sound c.requires.accepted).there

pub switch_off-switch-requires-clause-sequence : goal.switch_off-switch-requires-clause-sequence
switch_off-switch-requires-clause-sequence c = (accepted c.args.state.now c.args.thread c.requires.sound c.requires.accepted).full

pub archive_thread-requires-clause-space : goal.archive_thread-requires-clause-space
archive_thread-requires-clause-space c due =
    let s : State = c.args.state.now in
    space-can s c.args.thread (can-archive s c.args.thread c.requires.sound c.requires.accepted due)

pub go_further-requires-clause-sound : goal.go_further-requires-clause-sound
go_further-requires-clause-sound c =
    subst IsSound (sym c.in_ok-archive_thread.ensures.after) (after-due c.args.state.now c.args.thread c.requires.sound c.requires.accepted)

pub go_further-requires-clause-room : goal.go_further-requires-clause-room
go_further-requires-clause-room c =
    subst (λ (r : State). lacks_room r (length (marks_before r)) ≡ false) (sym c.in_ok-archive_thread.ensures.after) (room-after c.args.state.now c.args.thread c.requires.sound c.requires.accepted)

pub go_further-requires-clause-below : goal.go_further-requires-clause-below
go_further-requires-clause-below c =
    subst (λ (r : State). now_of r < last_scn) (sym c.in_ok-archive_thread.ensures.after) (can-disable c.args.state.now c.args.thread c.requires.sound c.requires.accepted).goes.below

pub add_switch-requires : goal.add_switch-requires
add_switch-requires c =
    let s : State = c.args.state.now in
    let t = c.args.thread in
    let catalog = c.in_ok-go_further.ensures.catalog ∙ ap one_further c.in_ok-archive_thread.ensures.after in
    record {
      fits = subst (FitsSwitch c.go_further.new.state.catalog) (sym c.switch_off-switch.ensures)
          (subst (λ (r : TypedCatalog). FitsSwitch r (switch_off s t)) (sym catalog) (disabling-fits s t c.requires.sound c.requires.accepted));
    }

pub disable-requires : goal.disable-requires
disable-requires c =
    let s : State = c.args.state.now in
    let close = can-close s c.args.thread c.requires.sound c.requires.accepted c.archive_thread.new.state c.go_further.new.state c.switch_off-switch.result
    c.switch_off-switch.ensures c.in_ok-archive_thread.ensures.after c.in_ok-go_further.ensures.instance in
    record { thread = close.thread; there = close.there; first = close.first; last = close.last; above = close.above; sequence = close.sequence }

pub returns-clause-hands : goal.returns-clause-hands
returns-clause-hands c held =
    let s : State = c.args.state.now in
    let t = c.args.thread in
    let made = c.switch_off-switch.ensures in
    let done = c.in_ok-archive_thread.ensures in
    let logs : List Line = thread_lines false s t in
    let line : List Line → ThreadSwitch → List Line = λ lines x. lines ++ ThreadSwitched t false x.scn ∷ [] in
    let lines = c.in_ok-push.ensures.ok ∙ (λ i. line ((done.lines ∙ ap (λ (ls : List Line). ls ++ logs) c.new-lines.ensures) i) (made i)) in
    let objects = done.objects ∙ ap (λ (xs : List Object). xs ++ puts_by s t) c.new-objects.ensures in
    hands-by held s (SwitchThread t false) _ _ (disabled_lines s t) (disabling s t) (with_thread_off s t)
    (λ objects tells. refl)
    lines objects c.new.ensures
    (after-disable s t c.requires.sound c.requires.accepted c.archive_thread.new.state c.go_further.new.state c.switch_off-switch.result c.add_switch.new.self c.disable.new.self
    made done.after c.in_ok-go_further.ensures.catalog c.in_ok-go_further.ensures.instance c.in_ok-add_switch.ensures.after c.in_ok-disable.ensures.after)
