use Rattle.std.proofs.Common.{◌≤◌, take}
use Rattle.rm_base.specs.Outside.{Appends}
use Rattle.rm_tool.specs.Drill.{parts_text}
use Rattle.rm_tool.proofs.drill.write_parts.Given as goal

abbrev pub invariant-loop-part : goal.invariant-loop-part
invariant-loop-part g l = record {
  written : Appends (g.K.Sink.contents l.fn.sink) (g.K.Sink.contents l.sink) (parts_text (take l.part-index l.parts));
  faults : g.K.Sink.faults l.fn.sink ≤ g.K.Sink.faults l.sink;
}
