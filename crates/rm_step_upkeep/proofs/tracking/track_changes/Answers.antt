use Rattle.std.proofs.Common.{◌∙◌, [], ◌∷◌, ap, refl}
use Rattle.rm_report.specs.declared.line.Line.TheVariants as line
use Rattle.rm_lang_statement.specs.declared.command.Command.TheVariants.{Tracking}
use Rattle.rm_machine.specs.{Effect.{no_effect}, State.{ledger}, Tracked.{first_tracker, with_tracker}, Tracking.{with_tracking}}
use Rattle.rm_machine.{specs.declared.state.State.{State}, proofs.Handing.{hands-by}}
use Rattle.rm_step_upkeep.proofs.tracking.track_changes.Goals as goal

pub returns-clause-hands : goal.returns-clause-hands
returns-clause-hands c held =
    let s : State = c.args.state.now in
    let on = c.args.on in
    hands-by held s (Tracking on) c.in_ok-handed.handed _ (line.Tracking on ∷ []) no_effect (with_tracking s on) (λ objects tells. refl)
    c.in_ok-handed.ensures.lines c.in_ok-handed.ensures.objects c.in_ok-handed.ensures.removes
    (ap (with_tracker c.set_tracking.new.state) c.in_ok-tracker.ensures ∙ ap (λ (t : State). with_tracker t (first_tracker t.instance.is_open (ledger t))) c.in_ok-set_tracking.ensures.value)
