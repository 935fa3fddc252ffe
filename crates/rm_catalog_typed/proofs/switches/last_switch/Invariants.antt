use Rattle.std.proofs.Common.{◌≡◌, map, take}
use Rattle.rm_history.specs.Threads.{applies, last_switch}
use Rattle.rm_catalog_typed.specs.Switches.{switch_of}
use Rattle.rm_catalog_typed.proofs.switches.last_switch.Given as goal

abbrev pub invariant-loop-switch : goal.invariant-loop-switch
invariant-loop-switch l = l.last ≡ last_switch (applies l.tree l.m l.g l.thread) (map switch_of (take l.switch-index l.switches))
