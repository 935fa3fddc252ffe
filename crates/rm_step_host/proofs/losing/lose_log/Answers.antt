use Rattle.std.proofs.Common.{[], ◌∷◌, ◌∙◌, refl, ap, sym, subst}
use Rattle.rm_report.specs.declared.line.Line.TheVariants.{LogLost}
use Rattle.rm_lang_statement.specs.declared.command.Command.TheVariants.{LoseLog}
use Rattle.rm_machine.specs.{Effect.{no_effect}, LoseLog.{without_log}, Mount.{as_mounted}, Sound.{IsSound}, declared.state.State.{State}}
use Rattle.rm_machine.proofs.{Handing.{hands-by}, Mounting.{sound-as_mounted}}
use Rattle.rm_step_host.proofs.losing.lose_log.Goals as goal

pub lose_thread-requires-clause-sound : goal.lose_thread-requires-clause-sound
lose_thread-requires-clause-sound c = subst IsSound (sym c.become_mounted.ensures.value) (sound-as_mounted c.args.state.now c.requires.sound)

pub returns-clause-hands : goal.returns-clause-hands
returns-clause-hands c held =
    let s : State = c.args.state.now in
    let t = c.args.thread in
    hands-by held s (LoseLog t) c.in_ok-handed.handed c.lose_thread.new.state (LogLost t ∷ []) no_effect (without_log (as_mounted s) t) (λ objects tells. refl)
    c.in_ok-handed.ensures.lines c.in_ok-handed.ensures.objects c.in_ok-handed.ensures.removes
    (c.lose_thread.ensures ∙ ap (λ (q : State). without_log q t) c.become_mounted.ensures.value)
