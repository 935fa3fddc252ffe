use Rattle.std.proofs.Common.{◌≡◌, filter, take}
use Rattle.rm_machine.specs.BlockRecover.{asks_for}
use Rattle.rm_step_repair.proofs.blocks.blocks_mended.Given as goal

abbrev pub invariant-loop-block : goal.invariant-loop-block
invariant-loop-block l = l.blocks.items ≡ filter (asks_for l.form) (take l.block-index l.state.instance.damaged)
