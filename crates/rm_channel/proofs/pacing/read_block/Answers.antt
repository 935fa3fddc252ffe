use Rattle.std.proofs.Common.{Some, None, Option, subst, IsSome}
use Rattle.rm_base.specs.declared.block.Row.{Row}
use Rattle.rm_live.specs.{Passes.{Adds}, declared.history.{Answer.TheVariants.{Found}, Call.TheVariants.{Read}}}
use Rattle.rm_channel.proofs.{Steps.{did-one}, There.{found-there}}
use Rattle.rm_channel.proofs.pacing.read_block.Goals as goal

abbrev no_row : Option Row
no_row = None

pub unreachable-requires : goal.unreachable-requires
unreachable-requires g c =
    let there = found-there c.args.pass.now c.read.new.pass c.args.file c.args.block c.read.result c.read.ensures.stays c.read.ensures.legal c.read.ensures.adds c.requires.there in
    let none : IsSome no_row = subst IsSome c.in-None.is there in
    cc

pub returns-clause-did : goal.returns-clause-did
returns-clause-did g c =
    did-one c.args.pass.now c.read.new.pass (Read c.args.file c.args.block) (Found (Some c.in-Some.row)) c.requires.some c.read.ensures.stays c.read.ensures.legal c.read.ensures.below
    (subst (λ (o : Option Row). Adds c.args.pass.now (Read c.args.file c.args.block) (Found o) c.read.new.pass.seen) c.in-Some.is c.read.ensures.adds)
