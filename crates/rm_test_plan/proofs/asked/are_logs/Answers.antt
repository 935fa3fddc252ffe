use Rattle.std.proofs.{Common.{ℕ, ◌∙◌, refl, subst}, lemmas.List.{get_or_default, Elements.{AllWithin-more}}}
use Rattle.rm_evidence.specs.Known.{FitsLog}
use Rattle.rm_redo.specs.declared.log_file.LogFile.{LogFile}
use Rattle.rm_test_plan.proofs.asked.are_logs.Goals as goal

pub loop-log-preserved : goal.loop-log-preserved
loop-log-preserved c =
    let fits : FitsLog c.args.tree.now c.loop-log-item.result.1 = c.if-not-does_log_fit.ensures refl in
    AllWithin-more (λ (x : ℕ × LogFile). FitsLog c.args.tree.now x.1) c.args.logs.now 0 c.loop-log.log-index c.loop-log.invariant
    (λ d. subst (λ (x : ℕ × LogFile). FitsLog c.args.tree.now x.1) (c.loop-log-item.is ∙ get_or_default c.args.logs.now c.loop-log.log-index c.loop-log-item.result d c.loop-log-test.true) fits)
