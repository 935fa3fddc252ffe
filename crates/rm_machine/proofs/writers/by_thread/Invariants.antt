use Rattle.std.proofs.Common.{◌≡◌, take}
use Rattle.rm_machine.specs.Asked.{by_thread}
use Rattle.rm_machine.proofs.writers.by_thread.Given as goal

abbrev pub invariant-loop-write : goal.invariant-loop-write
invariant-loop-write l = l.jobs.items ≡ by_thread l.thread (take l.write-index l.writes)
