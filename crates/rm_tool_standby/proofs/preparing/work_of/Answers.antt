use Rattle.std.proofs.{Common.{IfOk, Option, subst, sym}, lemmas.Result.{IfOk-weaker}}
use Rattle.rm_base.specs.Store.{Held}
use Rattle.rm_lang_words.specs.declared.standby.StandbyTask.{StandbyTask, TheVariants.{Dump}}
use Rattle.rm_tool_standby.specs.Prepared.{IsWork}
use Rattle.rm_tool_standby.proofs.preparing.work_of.Goals as goal

pub returns-in_ok-dump-in-Dump-clause-work : goal.returns-in_ok-dump-in-Dump-clause-work
returns-in_ok-dump-in-Dump-clause-work g c =
    let held = g.D.Store.held c.args.from.now in
    let s = c.args.state.now in
    let found = c.args.found.now in
    let is = c.in_ok-dump-in-Dump in
    subst (λ (t : StandbyTask). IfOk is.field-0 (IsWork held s found t)) (sym c.in-Dump.is)
    (IfOk-weaker is.field-0 (λ w. (from : Option Held) → IsWork from s found Dump w) (IsWork held s found Dump) (λ w work. work held) is.ensures.work)
