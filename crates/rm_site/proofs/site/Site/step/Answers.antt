use Rattle.std.{specs.Prelude.{IfSome}, proofs.Common.{◌≡◌, ◌∙◌, ◌||◌, Option, true, false, ap, subst}}
use Rattle.rm_machine.specs.{Marks.{lacks_ids}, declared.state.State.{State}}
use Rattle.rm_machine_laws.{specs.{Holds.{View}, Saves.{applies}}, proofs.Safely.{deletes-safely}}
use Rattle.rm_machine_laws.proofs.Answering.{answered-of, steps-of, stops-of}
use Rattle.rm_site.proofs.{ComesOut.{out-of}, Contents.{has-content}, Quiet.{untouched-of}}
use Rattle.rm_site.proofs.site.Site.step.Goals as goal

pub answer-requires-clause-command : goal.answer-requires-clause-command
answer-requires-clause-command g c κs within = (c.requires.command, has-content c.args.command.now c.requires.command)

pub returns-clause-step : goal.returns-clause-step
returns-clause-step g c =
    let from = c.replace-state.ensures.value ∙ ap (λ (v : View). v.state) c.self.view_is in
    steps-of c.replace-state.result c.args.self.now _ c.args.clock _ from c.moment_of-moment.ensures.value _ _ _ _ _ _ c.in_ok-state.ensures.step c.has_applied-self-inside.result

pub returns-in_err-state-clause-stopped : goal.returns-in_err-state-clause-stopped
returns-in_err-state-clause-stopped g c =
    let from = c.replace-state.ensures.value ∙ ap (λ (v : View). v.state) c.self.view_is in
    stops-of c.replace-state.result c.args.self.now _ c.args.clock _ from c.moment_of-moment.ensures.value _ _ _ _ _ c.in_err-state.ensures.stopped

pub returns-clause-answered : goal.returns-clause-answered
returns-clause-answered g c =
    let from = c.replace-state.ensures.value ∙ ap (λ (v : View). v.state) c.self.view_is in
    answered-of c.replace-state.result c.args.self.now _ c.args.clock _ from c.moment_of-moment.ensures.value _ _ c.has_applied-self-inside.result (c.has_applied-self-inside.ensures ∙ ap (λ (v : View). v.applied || applies c.args.command.now c.in_ok-state.reply) c.self.view_is) c.requires.live c.in_ok-state.ensures.answered

pub returns-clause-safe : goal.returns-clause-safe
returns-clause-safe g c =
    deletes-safely _ _ _ _ c.args.self.now (record { state = c.in_ok-state.state; live = true; applied = c.has_applied-self-inside.result }) _ _ _ (returns-clause-step g c)

pub returns-clause-quiet : goal.returns-clause-quiet
returns-clause-quiet g c = λ quiet.
    let from = c.replace-state.ensures.value ∙ ap (λ (v : View). v.state) c.self.view_is in
    untouched-of c.replace-state.result c.args.self.now c.args.command.now c.in_ok-state.reply c.in_ok-state.state c.has_applied-self-inside.result from c.requires.live
    (c.has_applied-self-inside.ensures ∙ ap (λ (v : View). v.applied || applies c.args.command.now c.in_ok-state.reply) c.self.view_is) quiet (c.in_ok-state.ensures.quiet quiet)

pub returns-clause-comes : goal.returns-clause-comes
returns-clause-comes g c =
    let from = c.replace-state.ensures.value ∙ ap (λ (v : View). v.state) c.self.view_is in
    out-of c.replace-state.result c.args.self.now _ c.args.clock _ _ _ _ _ _ _ from c.moment_of-moment.ensures.value c.in_ok-state.ensures.comes

pub returns-clause-ids : goal.returns-clause-ids
returns-clause-ids g c = λ applied.
    let from = c.replace-state.ensures.value ∙ ap (λ (v : View). v.state) c.self.view_is in
    subst (λ (o : Option State). IfSome o (λ s. lacks_ids s 0 ≡ false)) from (c.in_ok-state.ensures.ids applied)
