use Rattle.std.proofs.Common.{◌+◌, ◌∙◌, ◌++◌, List, ap, drop, map}
use Rattle.rm_channel.specs.Jobs.{lists}
use Rattle.rm_machine.{specs.BackupOutcome.{write_lines}, proofs.ByThread.{told-next}}
use Rattle.rm_machine.proofs.writers.tell_writes.Goals as goal
use Rattle.rm_report.specs.declared.line.Line.{Line, TheVariants.{ThreadScn}}

pub loop-index-preserved : goal.loop-index-preserved
loop-index-preserved c =
    let k = c.loop-index.index in
    let v = c.index-scns-index.result in
    ap (λ (ls : List Line). ls ++ write_lines (1 + (k + 1)) (drop (k + 1) (lists c.args.scns.now)))
    (c.in_ok-tell_thread.ensures ∙ ap (λ xs. c.loop-index.lines ++ map (ThreadScn (k + 1)) xs) (c.as_slice.ensures.value ∙ ap (λ u. u.items) c.index-scns-index.is))
    ∙ told-next c.args.scns.now k v c.loop-index.lines (c.args.lines.now ++ write_lines 1 (lists c.args.scns.now)) c.loop-index-test.true c.loop-index.invariant
