use Rattle.std.{specs.Option.{option_copied}, proofs.Common.{Option, ap, subst, sym}}
use Rattle.rm_base.specs.declared.refusal.Refusal.TheVariants.{Rm02}
use Rattle.rm_machine.specs.declared.state.State.{State}
use Rattle.rm_tool_standby.specs.Refused.{RefusesBy, no_database}
use Rattle.rm_tool_standby.proofs.preparing.answer.Goals as goal

pub returns-in-None-clause-refused : goal.returns-in-None-clause-refused
returns-in-None-clause-refused g c =
    subst (λ (o : Option State). RefusesBy (g.D.Store.held c.args.from.now) (g.E.Store.held c.args.to.now) c.args.task o Rm02) (sym (ap option_copied c.in-None.is)) no_database
