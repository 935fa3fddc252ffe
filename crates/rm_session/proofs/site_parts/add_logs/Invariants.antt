use Rattle.std.proofs.Common.{◌≡◌, ◌≤◌, ◌+◌, ◌-◌, drop}
use Rattle.rm_machine.specs.Saving.{log_parts}
use Rattle.rm_session.specs.Adding.{with_parts}
use Rattle.rm_session.proofs.site_parts.add_logs.Given as goal

abbrev pub invariant-loop-thread : goal.invariant-loop-thread
invariant-loop-thread l = record {
  rest : with_parts (log_parts l.state l.thread (drop (l.thread - 1) l.state.instance.logs.threads)) l.parts ≡ with_parts (log_parts l.state 1 l.state.instance.logs.threads) l.fn.parts;
  few : l.parts.next + 1 ≤ l.fn.parts.next + l.thread;
}
