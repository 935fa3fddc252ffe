use Rattle.std.proofs.Common.{rules, ◌≡◌, ◌∙◌, [], ◌∷◌, ap, refl}
use Rattle.rm_lang_statement.specs.declared.command.Command.TheVariants.{OpenPlain}
use Rattle.rm_report.specs.declared.line.Line.TheVariants.{Opened}
use Rattle.rm_machine.specs.{Effect.{no_effect}, Open.{opened}, State.{current_of, now_of}, Tracked.{with_tracker}}
use Rattle.rm_machine.{specs.declared.state.State.{State}, proofs.Handing.{hands-by}}
use Rattle.rm_step_open.proofs.opening.open.Goals as goal

pub returns-clause-hands : goal.returns-clause-hands
returns-clause-hands c held =
    let s : State = c.args.state.now in
    let lines : c.in_ok-handed.handed.lines ≡ Opened (current_of s) (now_of s) ∷ [] = search rules in
    let at : c.open_at.new.state ≡ with_tracker (opened s (now_of s)) s.instance.tracker = search rules in
    hands-by held s OpenPlain c.in_ok-handed.handed _ (Opened (current_of s) (now_of s) ∷ []) no_effect (opened s (now_of s)) (λ objects tells. refl)
    lines c.in_ok-handed.ensures.objects c.in_ok-handed.ensures.removes
    (ap (λ (q : State). with_tracker q c.in_ok-tracker.tracker) at ∙ ap (with_tracker (opened s (now_of s))) c.in_ok-tracker.ensures)
