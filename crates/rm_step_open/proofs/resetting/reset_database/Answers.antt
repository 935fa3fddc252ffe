use Rattle.std.{specs.Prelude.{[], ◌∷◌}, proofs.Common.{rules, refl}}
use Rattle.rm_lang_statement.specs.declared.command.Command.TheVariants.{ResetDatabase}
use Rattle.rm_report.specs.declared.line.Line.TheVariants.{Chosen}
use Rattle.rm_machine.{specs.{Effect.{no_effect}, ResetDatabase.{at_incarnation}, declared.state.State.{State}}, proofs.Handing.{hands-by}}
use Rattle.rm_step_open.proofs.resetting.reset_database.Goals as goal

pub returns-clause-hands : goal.returns-clause-hands
returns-clause-hands c held =
    let s : State = c.args.state.now in
    let i = c.args.inc in
    hands-by held s (ResetDatabase i) c.in_ok-handed.handed _ (Chosen i ∷ []) no_effect (at_incarnation s i) (λ objects tells. refl)
    c.in_ok-handed.ensures.lines c.in_ok-handed.ensures.objects c.in_ok-handed.ensures.removes
    (search rules)
