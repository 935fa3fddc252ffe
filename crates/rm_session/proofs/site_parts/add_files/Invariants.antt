use Rattle.std.proofs.Common.{◌≡◌, ◌≤◌, ◌+◌, drop}
use Rattle.rm_machine.specs.Saving.{file_parts}
use Rattle.rm_session.specs.Adding.{with_parts}
use Rattle.rm_session.proofs.site_parts.add_files.Given as goal

abbrev pub invariant-loop-index : goal.invariant-loop-index
invariant-loop-index l = record {
  rest : with_parts (file_parts l.state (l.index + 1) (drop l.index l.state.instance.place)) l.parts ≡ with_parts (file_parts l.state 1 l.state.instance.place) l.fn.parts;
  few : l.parts.next ≤ l.fn.parts.next + l.index;
}
