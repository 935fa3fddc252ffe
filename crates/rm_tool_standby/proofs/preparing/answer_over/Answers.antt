use Rattle.std.{specs.Prelude.{IfErr}, proofs.Common.{Result, subst}}
use Rattle.rm_base.specs.declared.refusal.Refusal.{Refusal}
use Rattle.rm_tool_standby.specs.{Refused.{RefusesTask, by_task}, declared.work.Work.{Work}}
use Rattle.rm_tool_standby.proofs.preparing.answer_over.Goals as goal

pub returns-clause-refused : goal.returns-clause-refused
returns-clause-refused g c =
    let held = g.D.Store.held c.args.from.now in
    let s = c.args.state.now in
    let found = c.in_ok-found.found in
    by_task s found c.in-Err.refusal c.in_ok-found.ensures.found
    (subst (λ (y : Result Work Refusal). IfErr y (RefusesTask held s found c.args.task)) c.in-Err.is c.in_ok-work.ensures.refused)
