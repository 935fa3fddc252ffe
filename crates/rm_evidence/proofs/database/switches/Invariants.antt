use Rattle.std.proofs.Common.{◌≡◌, take}
use Rattle.rm_catalog.specs.Switches.{switches}
use Rattle.rm_evidence.proofs.database.switches.Given as goal

abbrev pub invariant-loop-row : goal.invariant-loop-row
invariant-loop-row l = l.found.items ≡ switches (take l.row-index l.catalog)
