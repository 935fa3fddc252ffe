use Rattle.std.proofs.Common.{[], ◌∷◌, refl}
use Rattle.rm_report.specs.declared.line.Line.TheVariants.{Mounted}
use Rattle.rm_lang_statement.specs.declared.command.Command.TheVariants.{Mount}
use Rattle.rm_machine.{specs.{Effect.{no_effect}, Mount.{as_mounted}, declared.state.State.{State}}, proofs.Handing.{hands-by}}
use Rattle.rm_step_open.proofs.mounting.mount.Goals as goal

pub returns-clause-hands : goal.returns-clause-hands
returns-clause-hands c held =
    let s : State = c.args.state.now in
    hands-by held s Mount c.in_ok-handed.handed c.become_mounted.new.state (Mounted ∷ []) no_effect (as_mounted s) (λ objects tells. refl)
    c.in_ok-handed.ensures.lines c.in_ok-handed.ensures.objects c.in_ok-handed.ensures.removes c.become_mounted.ensures.value
