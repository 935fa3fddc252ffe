use Rattle.std.proofs.Common.{subst, sym, take, All}
use Rattle.rm_report.specs.Reply.{IsPlain}
use Rattle.rm_machine.proofs.Skipped.{skipped-dated}
use Rattle.rm_machine.proofs.replies.skipped_lines.Goals as goal

pub returns-clause-dates : goal.returns-clause-dates
returns-clause-dates c = subst (All IsPlain) (sym c.loop-id.invariant) (skipped-dated (take c.loop-id.id-index c.args.skipped.now))
