use Rattle.std.proofs.Common.{◌∙◌, ℕ, List, Some, ap, sym}
use Rattle.rm_lang_token.specs.declared.token.Token.{Token}
use Rattle.rm_tool.proofs.Coming.{step-comes}
use Rattle.rm_tool.proofs.Statements.{ok-three, ok-four, err-both, on-err, served-refused, served-run, served-step, cut-before, cut-step, cut-run}
use Rattle.rm_tool.proofs.session.serve.Goals as goal
use Rattle.rm_report.proofs.Plain.{refused-flagged}

pub returns-in_default-clause-served : goal.returns-in_default-clause-served
returns-in_default-clause-served g c = served-refused (sym c.in_ok-statement.ensures.value ∙ c.in_default.is) c.in_ok-refusal_reply.ensures

pub returns-in-Plain-clause-served : goal.returns-in-Plain-clause-served
returns-in-Plain-clause-served g c =
    let s : ℕ × List Token = (c.args.line, c.args.tokens.now) in
    let some = sym c.in_ok-statement.ensures.value ∙ c.in-Some.is ∙ ap Some c.in-Plain.is in
    let held = g.D.Store.held in
    let kept = g.C.Keeper.kept in
    let comes =
    step-comes c.step.result (held c.args.store.now) (kept c.args.keeper.now) c.args.site.now c.in-Plain.command c.now-answer.result (held c.step.new.store) (kept c.step.new.keeper) c.step.new.self
    c.step.ensures.comes c.step.ensures.answered c.step.ensures.quiet c.step.ensures.ids in
    ok-four _ _ _ _ _ (λ reply steps applied quiet came. served-step {s = s} c.now-answer.result c.now-answer.ensures.next some {v' = c.step.new.self} reply (record { coming = c.now-answer.ensures.later; often = c.now-answer.ensures.count }) steps applied quiet came)
    c.step.result c.step.ensures.step c.step.ensures.applied c.step.ensures.quiet comes

pub returns-in-Run-clause-served : goal.returns-in-Run-clause-served
returns-in-Run-clause-served g c =
    let s : ℕ × List Token = (c.args.line, c.args.tokens.now) in
    let some = sym c.in_ok-statement.ensures.value ∙ c.in-Some.is ∙ ap Some c.in-Run.is in
    ok-three _ _ _ _ (λ reply steps quiet comes. served-run {s = s} c.now-answer.result c.now-answer.ensures.next some {v' = c.serve_block.new.site} reply (record { coming = c.now-answer.ensures.later; often = c.now-answer.ensures.count }) steps quiet comes)
    c.serve_block.result c.serve_block.ensures.steps c.serve_block.ensures.quiet c.serve_block.ensures.comes

pub returns-in_err-statement-clause-cut : goal.returns-in_err-statement-clause-cut
returns-in_err-statement-clause-cut g c = on-err _ c.from_residual.result cut-before

pub returns-in_err-refusal_reply-clause-cut : goal.returns-in_err-refusal_reply-clause-cut
returns-in_err-refusal_reply-clause-cut g c = on-err _ c.from_residual-in_err-refusal_reply.result cut-before

pub returns-in-Plain-clause-cut : goal.returns-in-Plain-clause-cut
returns-in-Plain-clause-cut g c =
    let s : ℕ × List Token = (c.args.line, c.args.tokens.now) in
    let some = sym c.in_ok-statement.ensures.value ∙ c.in-Some.is ∙ ap Some c.in-Plain.is in
    err-both _ _ _ (cut-step {s = s} c.now-answer.result c.now-answer.ensures.next some (record { coming = c.now-answer.ensures.later; often = c.now-answer.ensures.count })) c.step.result c.step.ensures.stopped c.step.ensures.untouched

pub returns-in-Run-clause-cut : goal.returns-in-Run-clause-cut
returns-in-Run-clause-cut g c =
    let s : ℕ × List Token = (c.args.line, c.args.tokens.now) in
    let some = sym c.in_ok-statement.ensures.value ∙ c.in-Some.is ∙ ap Some c.in-Run.is in
    err-both _ _ _ (cut-run {s = s} c.now-answer.result c.now-answer.ensures.next some (record { coming = c.now-answer.ensures.later; often = c.now-answer.ensures.count })) c.serve_block.result c.serve_block.ensures.stopped c.serve_block.ensures.untouched

pub returns-in_default-clause-flagged : goal.returns-in_default-clause-flagged
returns-in_default-clause-flagged g c = refused-flagged _ _ c.in_ok-refusal_reply.ensures
