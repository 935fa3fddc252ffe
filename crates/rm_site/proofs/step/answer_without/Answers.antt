use Rattle.std.proofs.{Common.{◌≡◌, ◌∙◌, None, Some, [], All, ap, refl, subst, sym, true, false}, lemmas.List.Elements.{All-cons, All-nil}}
use Rattle.rm_machine.specs.Laws.{only_tells}
use Rattle.rm_machine_laws.{specs.Refused.{refusal_without}, proofs.Answering.{is-carried, is-halted, is-refused, on-err}}
use Rattle.rm_machine_laws.proofs.AnsweredWithout.{comes-refused, founded, founded-sound}
use Rattle.rm_site.proofs.{ComesOut.{out-done, out-refused}, Quiet.{not-quiet}}
use Rattle.rm_site.proofs.step.answer_without.Goals as goal
use Rattle.rm_report.{specs.{Reply.{IsPlain}, declared.line.Line.TheVariants.{DatabaseAt}}, proofs.Plain.{refused-flagged, said-flagged}}

pub returns-in-Some-clause-step : goal.returns-in-Some-clause-step
returns-in-Some-clause-step g c =
    let refusal : refusal_without c.args.command.now ≡ Some c.in-Some.refusal = sym c.refusal_without.ensures ∙ c.in-Some.is in
    is-refused _ _ c.args.command.now c.args.moment None None c.in-Some.refusal _ _ refl refl c.in_ok-refusal_reply.ensures
    (λ objects told. comes-refused c.args.command.now c.args.moment c.in-Some.refusal refusal)

pub returns-clause-sound : goal.returns-clause-sound
returns-clause-sound g c =
    let k = c.in-CreateDatabase in
    founded-sound c.args.command.now k.dbid k.threads k.scn c.args.moment k.is c.requires.command.0 (sym c.refusal_without.ensures ∙ c.in_default.is) c.requires.moment.last c.in_ok-state.state c.in_ok-state.ensures

pub returns-clause-step : goal.returns-clause-step
returns-clause-step g c =
    let k = c.in-CreateDatabase in
    let was = c.in_ok-change.ensures in
    let handed = founded c.args.command.now k.dbid k.threads k.scn c.args.moment k.is c.requires.command.0 (sym c.refusal_without.ensures ∙ c.in_default.is) c.requires.moment.last
    (g.D.Store.held c.args.store.now) c.in_ok-change.change c.in_ok-state.state c.in_ok-lines.lines was.objects was.edits was.removes c.in_ok-state.ensures c.in_ok-lines.ensures in
    is-carried _ _ c.args.command.now c.args.moment _ None c.in_ok-lines.lines c.in_ok-change.change c.in_ok-state.state _ _ _ refl c.reply_of.ensures c.requires.command c.requires.moment handed c.in_ok-carry_out.ensures.carried

pub returns-in_err-carry_out-clause-stopped : goal.returns-in_err-carry_out-clause-stopped
returns-in_err-carry_out-clause-stopped g c =
    let k = c.in-CreateDatabase in
    let was = c.in_ok-change.ensures in
    let handed = founded c.args.command.now k.dbid k.threads k.scn c.args.moment k.is c.requires.command.0 (sym c.refusal_without.ensures ∙ c.in_default.is) c.requires.moment.last
    (g.D.Store.held c.args.store.now) c.in_ok-change.change c.in_ok-state.state c.in_ok-lines.lines was.objects was.edits was.removes c.in_ok-state.ensures c.in_ok-lines.ensures in
    is-halted _ _ c.args.command.now c.args.moment _ _ None c.in_ok-lines.lines c.in_ok-change.change c.in_ok-state.state _ _ refl c.requires.command c.requires.moment handed c.in_err-carry_out.ensures.stopped

pub returns-clause-quiet : goal.returns-clause-quiet
returns-clause-quiet g c = λ quiet. absurd (not-quiet c.args.command.now _ c.in_ok-lines.lines (ap only_tells c.in-CreateDatabase.is) c.reply_of.ensures quiet)

pub returns-in-Some-clause-comes : goal.returns-in-Some-clause-comes
returns-in-Some-clause-comes g c =
    let refusal : refusal_without c.args.command.now ≡ Some c.in-Some.refusal = sym c.refusal_without.ensures ∙ c.in-Some.is in
    out-refused _ _ None c.args.command.now c.args.moment None c.in-Some.refusal _ _ refl refl c.in_ok-refusal_reply.ensures
    (λ objects told. comes-refused c.args.command.now c.args.moment c.in-Some.refusal refusal)
    (λ alone objects. comes-refused c.args.command.now c.args.moment c.in-Some.refusal refusal)

pub returns-clause-comes : goal.returns-clause-comes
returns-clause-comes g c =
    let k = c.in-CreateDatabase in
    let was = c.in_ok-change.ensures in
    let handed = founded c.args.command.now k.dbid k.threads k.scn c.args.moment k.is c.requires.command.0 (sym c.refusal_without.ensures ∙ c.in_default.is) c.requires.moment.last in
    out-done _ _ None c.args.command.now c.args.moment _ c.in_ok-lines.lines c.in_ok-change.change c.in_ok-state.state _ _ _ refl c.reply_of.ensures
    (handed (g.D.Store.held c.args.store.now) c.in_ok-change.change c.in_ok-state.state c.in_ok-lines.lines was.objects was.edits was.removes c.in_ok-state.ensures c.in_ok-lines.ensures)
    (λ alone objects. handed (Some objects) c.in_ok-change.change c.in_ok-state.state c.in_ok-lines.lines was.objects was.edits was.removes c.in_ok-state.ensures c.in_ok-lines.ensures)
    c.in_ok-carry_out.ensures.carried

pub returns-in-Some-clause-flagged : goal.returns-in-Some-clause-flagged
returns-in-Some-clause-flagged g c = refused-flagged _ c.in-Some.refusal c.in_ok-refusal_reply.ensures

pub returns-clause-flagged : goal.returns-clause-flagged
returns-clause-flagged g c =
    let k = c.in-CreateDatabase in
    said-flagged _ c.in_ok-lines.lines c.reply_of.ensures (subst (All IsPlain) (sym c.in_ok-lines.ensures) (All-cons IsPlain (DatabaseAt k.dbid k.scn) [] tt (All-nil IsPlain)))

pub returns-in_err-carry_out-clause-untouched : goal.returns-in_err-carry_out-clause-untouched
returns-in_err-carry_out-clause-untouched g c =
    on-err _ c.from_residual-in_err-carry_out.result (λ only. absurd (let both : true ≡ false = sym only ∙ ap only_tells c.in-CreateDatabase.is in cc))
