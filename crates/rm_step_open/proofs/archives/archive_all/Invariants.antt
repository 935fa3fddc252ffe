use Rattle.std.proofs.Common.{◌-◌}
use Rattle.rm_step_open.proofs.Archiving.{Goes}
use Rattle.rm_step_open.proofs.archives.archive_all.Given as goal

abbrev pub invariant-loop-thread : goal.invariant-loop-thread
invariant-loop-thread l =
    Goes l.all (record { state = l.fn.state; lines = l.fn.lines; objects = l.fn.objects; edits = l.fn.edits.items })
    (record { state = l.state; lines = l.lines; objects = l.objects; edits = l.edits.items }) l.thread (5 - l.thread)
