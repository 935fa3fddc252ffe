use Rattle.std.proofs.Common.{[], ◌∷◌, ◌∙◌, ap, refl, subst}
use Rattle.rm_report.specs.declared.line.Line.{Line}
use Rattle.rm_lang_statement.specs.declared.command.Command.TheVariants.{ChangeBackup}
use Rattle.rm_machine.specs.{Effect.{no_effect}, Hands.{Hands}, Upkeep.{change_line, changed_to, with_catalog}}
use Rattle.rm_machine.{specs.declared.state.State.{State}, proofs.Handing.{hands-by}}
use Rattle.rm_step_upkeep.proofs.changing.change_backup.Goals as goal

pub returns-clause-hands : goal.returns-clause-hands
returns-clause-hands c held =
    let s : State = c.args.state.now in
    let n = c.known-id.result in
    let to = c.args.to in
    subst (λ k. Hands held s (ChangeBackup k to) c.in_ok-handed.handed c.change.new.state) c.known-id.ensures.value (
    hands-by held s (ChangeBackup n to) c.in_ok-handed.handed c.change.new.state (change_line to n ∷ []) no_effect (with_catalog s (changed_to to n s.catalog)) (λ objects tells. refl)
    (c.in_ok-handed.ensures.lines ∙ ap (λ (l : Line). l ∷ []) c.change_line.ensures) c.in_ok-handed.ensures.objects c.in_ok-handed.ensures.removes c.in_ok-change.ensures.value
    )
