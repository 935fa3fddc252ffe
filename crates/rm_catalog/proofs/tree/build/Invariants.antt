use Rattle.std.proofs.Common.{◌≡◌, take}
use Rattle.rm_catalog.specs.Trees.{nodes, as_tree}
use Rattle.rm_catalog.proofs.tree.build.Given as goal

abbrev pub invariant-loop-row : goal.invariant-loop-row
invariant-loop-row l = l.tree ≡ as_tree (nodes (take l.row-index l.records))
