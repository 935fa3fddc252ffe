use Rattle.std.proofs.Common.{[], ◌∷◌, refl, subst}
use Rattle.rm_report.specs.declared.line.Line.TheVariants as line
use Rattle.rm_lang_statement.specs.declared.command.Command.TheVariants.{Parallelism}
use Rattle.rm_machine.specs.{Configure.{with_channels}, Effect.{no_effect}, Hands.{Hands}, Upkeep.{with_catalog}}
use Rattle.rm_machine.{specs.declared.state.State.{State}, proofs.Handing.{hands-by}}
use Rattle.rm_step_upkeep.proofs.parallelism.configure_parallelism.Goals as goal

pub returns-clause-hands : goal.returns-clause-hands
returns-clause-hands c held =
    let s : State = c.args.state.now in
    let n = c.counted-channels.result in
    subst (λ k. Hands held s (Parallelism k) c.in_ok-handed.handed c.set_channels.new.state) c.counted-channels.ensures.value (
    hands-by held s (Parallelism n) c.in_ok-handed.handed c.set_channels.new.state (line.Parallelism n ∷ []) no_effect (with_catalog s (with_channels s.catalog n)) (λ objects tells. refl)
    c.in_ok-handed.ensures.lines c.in_ok-handed.ensures.objects c.in_ok-handed.ensures.removes c.in_ok-set_channels.ensures.value
    )
