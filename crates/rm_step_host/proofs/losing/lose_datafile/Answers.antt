use Rattle.std.proofs.Common.{[], ◌∷◌, refl}
use Rattle.rm_report.specs.declared.line.Line.TheVariants.{FileLost}
use Rattle.rm_lang_statement.specs.declared.command.Command.TheVariants.{LoseDatafile}
use Rattle.rm_machine.{specs.{Effect.{no_effect}, LoseDatafile.{without_file}, declared.state.State.{State}}, proofs.Handing.{hands-by}}
use Rattle.rm_step_host.proofs.losing.lose_datafile.Goals as goal

pub returns-clause-hands : goal.returns-clause-hands
returns-clause-hands c held =
    let s : State = c.args.state.now in
    let f = c.args.file in
    hands-by held s (LoseDatafile f) c.in_ok-handed.handed c.lose_file.new.state (FileLost f ∷ []) no_effect (without_file s f) (λ objects tells. refl)
    c.in_ok-handed.ensures.lines c.in_ok-handed.ensures.objects c.in_ok-handed.ensures.removes c.lose_file.ensures
