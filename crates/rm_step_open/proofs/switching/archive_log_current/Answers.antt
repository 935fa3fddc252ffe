use Rattle.std.proofs.Common.{◌∙◌, ◌++◌, true, List, ap}
use Rattle.rm_commit.specs.declared.commit.Object.{Object}
use Rattle.rm_machine.specs.Archive.{lines_from, puts_from}
use Rattle.rm_report.specs.declared.line.Line.{Line}
use Rattle.rm_step_open.proofs.Archiving.{hands_all}
use Rattle.rm_step_open.proofs.switching.archive_log_current.Goals as goal

pub returns-clause-hands : goal.returns-clause-hands
returns-clause-hands c =
    let s = c.args.state.now in
    let done = c.in_ok-archive_all.ensures in
    hands_all s c.archive_all.new.state _ done.after
    (done.lines ∙ ap (λ (xs : List Line). xs ++ lines_from true s 1 4) c.new-lines.ensures)
    (done.objects ∙ ap (λ (xs : List Object). xs ++ puts_from s 1 4) c.new-objects.ensures)
    c.new.ensures
