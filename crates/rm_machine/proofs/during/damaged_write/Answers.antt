use Rattle.std.{specs.Option.{option_map}, proofs.Common.{◌∙◌, Some, ap, sym}}
use Rattle.rm_machine.{specs.BackupRefusal.{block_of}, proofs.Refused.{damage-found, damage-more, write-fits}}
use Rattle.rm_machine.proofs.during.damaged_write.Goals as goal

pub block_of-requires : goal.block_of-requires
block_of-requires c = write-fits c.args.state.now c.args.writes.now c.loop-write.write-index _ c.loop-write-test.true c.requires.sound c.requires.there

pub loop-write-preserved : goal.loop-write-preserved
loop-write-preserved c =
    sym (damage-more c.args.state.now c.args.writes.now c.loop-write.write-index _ c.loop-write-test.true (sym c.is_damaged.ensures ∙ c.if-is_damaged.false)) ∙ c.loop-write.invariant

pub returns-then-is_damaged : goal.returns-then-is_damaged
returns-then-is_damaged c =
    let found = damage-found c.args.state.now c.args.writes.now c.loop-write.write-index _ c.loop-write-test.true (sym c.is_damaged.ensures ∙ c.if-is_damaged.true) in
    ap Some c.block_of.ensures ∙ ap (option_map block_of) (sym found ∙ c.loop-write.invariant)
