use Rattle.std.proofs.Common.{◌≡◌, fold, take}
use Rattle.rm_catalog_typed.specs.Switches.{after_sequence}
use Rattle.rm_catalog_typed.proofs.switches.next_sequence.Given as goal

abbrev pub invariant-loop-switch : goal.invariant-loop-switch
invariant-loop-switch l = l.sequence ≡ fold (after_sequence l.inc l.thread) 1 (take l.switch-index l.switches)
