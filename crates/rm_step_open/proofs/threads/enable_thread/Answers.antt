use Rattle.std.proofs.Common.{◌∙◌, [], ◌∷◌, true, ap, refl, sym, subst}
use Rattle.rm_lang_statement.specs.declared.command.Command.TheVariants.{SwitchThread}
use Rattle.rm_report.specs.declared.line.Line.TheVariants.{ThreadSwitched}
use Rattle.rm_catalog_typed.specs.{Fitting.{FitsSwitch}, TypedCatalog.{TypedCatalog}, declared.thread_switch.ThreadSwitch.{ThreadSwitch}}
use Rattle.rm_machine.specs.{Effect.{no_effect}, EnableThread.{switch_on, with_thread_on}, State.{now_of}, declared.state.State.{State}}
use Rattle.rm_machine.proofs.{Enabling.{enabling-fits}, Handing.{hands-by}}
use Rattle.rm_step_open.proofs.Enabling.{after-enable, can-begin}
use Rattle.rm_step_open.proofs.threads.enable_thread.Goals as goal

pub add_switch-requires : goal.add_switch-requires
add_switch-requires c =
    let s : State = c.args.state.now in
    let t = c.args.thread in
    let fits = enabling-fits s t c.requires.sound c.requires.accepted in
    record {
      fits = subst (FitsSwitch c.go_further.new.state.catalog) (sym c.switch_on-switch.ensures) (subst (λ (r : TypedCatalog). FitsSwitch r (switch_on s t)) (sym c.in_ok-go_further.ensures.catalog) fits);
    }

pub enable-requires : goal.enable-requires
enable-requires c =
    let begin = can-begin c.args.state.now c.go_further.new.state c.args.thread c.switch_on-switch.result c.requires.sound c.requires.accepted c.switch_on-switch.ensures c.in_ok-go_further.ensures.instance in
    record { number = begin.number; thread = begin.thread; now = begin.now; sequence = begin.sequence }

pub returns-clause-hands : goal.returns-clause-hands
returns-clause-hands c held =
    let s : State = c.args.state.now in
    let t = c.args.thread in
    let made = c.switch_on-switch.ensures in
    hands-by held s (SwitchThread t true) _ _ (ThreadSwitched t true (now_of s) ∷ []) no_effect (with_thread_on s t)
    (λ objects tells. refl)
    (c.in_ok-handed.ensures.lines ∙ ap (λ (x : ThreadSwitch). ThreadSwitched t true x.scn ∷ []) made)
    c.in_ok-handed.ensures.objects
    c.in_ok-handed.ensures.removes
    (after-enable s c.go_further.new.state t c.switch_on-switch.result c.add_switch.new.self c.enable.new.self
    made c.in_ok-go_further.ensures.catalog c.in_ok-go_further.ensures.instance c.in_ok-add_switch.ensures.after c.in_ok-enable.ensures.ok)
