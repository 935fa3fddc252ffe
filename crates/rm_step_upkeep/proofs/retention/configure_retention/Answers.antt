use Rattle.std.proofs.Common.{◌∙◌, [], ◌∷◌, ap, refl}
use Rattle.rm_base.specs.declared.kinds.Policy.{Policy}
use Rattle.rm_report.specs.declared.line.Line.TheVariants as line
use Rattle.rm_lang_statement.specs.declared.command.Command.TheVariants.{Retention}
use Rattle.rm_machine.specs.{Configure.{policy_of, with_policy}, Effect.{no_effect}, Upkeep.{with_catalog}, declared.state.State.{State}}
use Rattle.rm_machine.proofs.Handing.{hands-by}
use Rattle.rm_step_upkeep.proofs.retention.configure_retention.Goals as goal

pub returns-clause-hands : goal.returns-clause-hands
returns-clause-hands c held =
    let s : State = c.args.state.now in
    let form = c.args.form in
    let is = c.policy_of-policy.ensures.value in
    hands-by held s (Retention form) c.in_ok-handed.handed c.set_policy.new.state (line.Retention (policy_of form) ∷ []) no_effect (with_catalog s (with_policy s.catalog (policy_of form))) (λ objects tells. refl)
    (c.in_ok-handed.ensures.lines ∙ ap (λ (p : Policy). line.Retention p ∷ []) is) c.in_ok-handed.ensures.objects c.in_ok-handed.ensures.removes
    (c.in_ok-set_policy.ensures.value ∙ ap (λ (p : Policy). with_catalog s (with_policy s.catalog p)) is)
