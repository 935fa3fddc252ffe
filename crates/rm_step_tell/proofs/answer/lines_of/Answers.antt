use Rattle.std.proofs.{Common.{Option, List, All, IfOk, subst, sym}, lemmas.Result.{IfOk-weaker}}
use Rattle.rm_base.specs.Store.{Held}
use Rattle.rm_lang_statement.specs.declared.command.Command.{Command, TheVariants.{Dump, ListIncarnation}}
use Rattle.rm_machine.specs.Hands.{Tells}
use Rattle.rm_report.specs.{Reply.{IsPlain}, declared.line.Line.{Line}}
use Rattle.rm_step_tell.proofs.Dates.{dump-dated, list-dated}
use Rattle.rm_step_tell.proofs.answer.lines_of.Goals as goal

pub returns-in-Dump-clause-tells : goal.returns-in-Dump-clause-tells
returns-in-Dump-clause-tells c =
    subst (λ (x : Command). IfOk c.dump.result (λ lines. (held : Option Held) → Tells held c.args.state.now x lines)) (sym c.in-Dump.is) c.dump.ensures.tells

pub returns-in-Dump-clause-dates : goal.returns-in-Dump-clause-dates
returns-in-Dump-clause-dates c =
    IfOk-weaker c.dump.result (λ (lines : List Line). (held : Option Held) → Tells held c.args.state.now (Dump c.in-Dump.file c.in-Dump.block) lines) (All IsPlain)
    (λ lines tells. dump-dated c.in-Dump.file c.in-Dump.block c.args.state.now lines tells) c.dump.ensures.tells

pub returns-in-ListIncarnation-clause-tells : goal.returns-in-ListIncarnation-clause-tells
returns-in-ListIncarnation-clause-tells c =
    subst (λ (x : Command). IfOk c.list_incarnation.result (λ lines. (held : Option Held) → Tells held c.args.state.now x lines)) (sym c.in-ListIncarnation.is) c.list_incarnation.ensures.tells

pub returns-in-ListIncarnation-clause-dates : goal.returns-in-ListIncarnation-clause-dates
returns-in-ListIncarnation-clause-dates c =
    IfOk-weaker c.list_incarnation.result (λ (lines : List Line). (held : Option Held) → Tells held c.args.state.now ListIncarnation lines) (All IsPlain)
    (λ lines tells. list-dated c.args.state.now lines tells) c.list_incarnation.ensures.tells
