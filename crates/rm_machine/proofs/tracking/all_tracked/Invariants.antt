use Rattle.std.proofs.Common.{◌≡◌, take}
use Rattle.rm_history.specs.Tree.{end_of}
use Rattle.rm_catalog_typed.specs.Worlds.{world_of}
use Rattle.rm_machine.specs.Tracked.{fresh_from}
use Rattle.rm_machine.proofs.tracking.all_tracked.Given as goal

abbrev pub invariant-loop-index : goal.invariant-loop-index
invariant-loop-index l =
    let of = l.catalog.ledger in
    l.tracker ≡ fresh_from (world_of of) of.base.current (end_of of.tree of.base.current) 1 (take l.index of.files)
