use Rattle.std.proofs.Common.{sym, subst}
use Rattle.rm_base.specs.declared.refusal.Refusal.{Refusal}
use Rattle.rm_lang_words.specs.declared.standby.StandbyTask.TheVariants.{Dump}
use Rattle.rm_tool_standby.{specs.Refused.{RefusesTask, dump}, proofs.Working.{dumped-work}}
use Rattle.rm_tool_standby.proofs.preparing.dump.Goals as goal

pub returns-in_default-clause-refused : goal.returns-in_default-clause-refused
returns-in_default-clause-refused c from = subst (λ (r : Refusal). RefusesTask from c.args.state.now c.args.found.now Dump r) (sym c.in_ok-no_standby.ensures) (dump c.in_default.is)

pub returns-clause-work : goal.returns-clause-work
returns-clause-work c from = dumped-work from c.args.state.now c.args.found.now c.in-Some.standby c.in_ok-lines.lines c.in-Some.is c.in_ok-lines.ensures
