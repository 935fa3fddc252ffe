use Rattle.std.proofs.Common.{length}
use Rattle.rm_report.specs.declared.line.Line.TheVariants.{Obsolete, ObsoleteCount}
use Rattle.rm_step_retain.proofs.Dates.{counted-dated}
use Rattle.rm_step_retain.proofs.reporting.report_obsolete.Goals as goal

pub returns-clause-dates : goal.returns-clause-dates
returns-clause-dates g c =
    let ids = c.deref.result.now in
    counted-dated Obsolete (ObsoleteCount (length ids)) (λ n. tt) tt ids c.in_ok-lines_of.field-0 c.in_ok-lines_of.ensures
