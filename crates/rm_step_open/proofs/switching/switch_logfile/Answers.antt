use Rattle.std.proofs.Common.{◌≡◌, ◌∙◌, ◌++◌, true, false, List, ap, rules}
use Rattle.rm_commit.specs.declared.commit.Object.{Object}
use Rattle.rm_machine.{specs.{Archive.{puts_by, thread_lines}, State.{is_no_thread}}, proofs.Threads.{thread-of}}
use Rattle.rm_report.specs.declared.line.Line.{Line}
use Rattle.rm_step_open.proofs.Archiving.{hands_switch}
use Rattle.rm_step_open.proofs.switching.switch_logfile.Goals as goal

pub returns-clause-hands : goal.returns-clause-hands
returns-clause-hands c =
    let s = c.args.state.now in
    let t = c.args.thread in
    let done = c.in_ok-archive_thread.ensures in
    let number : is_no_thread s t ≡ false = search rules in
    hands_switch s c.archive_thread.new.state t _ (thread-of s t number) done.after
    (done.lines ∙ ap (λ (xs : List Line). xs ++ thread_lines true s t) c.new-lines.ensures)
    (done.objects ∙ ap (λ (xs : List Object). xs ++ puts_by s t) c.new-objects.ensures)
    c.new.ensures
