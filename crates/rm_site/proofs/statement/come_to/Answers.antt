use Rattle.std.proofs.Common.{◌∙◌, sym}
use Rattle.rm_machine_laws.proofs.DatedRefusals.{refusal-dated}
use Rattle.rm_site.proofs.statement.come_to.Goals as goal

pub returns-in-Some-clause-dates : goal.returns-in-Some-clause-dates
returns-in-Some-clause-dates g c =
    refusal-dated c.args.state.now c.requires.sound c.args.command.now c.in-Some.refusal (sym c.in-Some.is ∙ c.in_ok-refusal.ensures.value)
