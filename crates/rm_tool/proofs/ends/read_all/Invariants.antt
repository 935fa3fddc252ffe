use Rattle.std.proofs.Common.{◌≡◌, ◌≤◌, ◌+◌, ◌-◌, length}
use Rattle.rm_base.specs.Outside.{HasTaken}
use Rattle.rm_tool.specs.Ends.{Counted}
use Rattle.rm_tool.proofs.ends.read_all.Given as goal

abbrev pub invariant-reading : goal.invariant-reading
invariant-reading g l = record {
  taken : HasTaken (g.S.Source.left l.fn.source) (g.S.Source.left l.source) l.script.items;
  counted : Counted (g.S.Source.taken l.fn.source) → g.S.Source.taken l.source ≡ g.S.Source.taken l.fn.source + length l.script.items;
  within : length l.script.items ≤ 4194816;
  faults : g.S.Source.faults l.fn.source ≤ g.S.Source.faults l.source;
}

abbrev pub decreases-reading : goal.decreases-reading
decreases-reading g l = 4194305 - length l.script.items
