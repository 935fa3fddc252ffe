use Rattle.std.proofs.Common.{rules}
use Rattle.rm_channel.{specs.Jobs.{lists}, proofs.Sides.{side-none, side-step}}
use Rattle.rm_channel.proofs.copying.append_rows.Goals as goal

pub loop-k-init : goal.loop-k-init
loop-k-init c = (search rules, side-none (lists c.args.rows.now.items))

pub loop-k-preserved : goal.loop-k-preserved
loop-k-preserved c =
    let i = c.loop-k.invariant in (
      search rules,
      side-step c.loop-k.rows.items c.args.more.now (lists c.args.rows.now.items) c.loop-k.k c.index_mut-mine.result.now c.extend_from_slice.new.self c.index-more-k.result
          (search rules) c.loop-k-test.true c.index_mut-mine.ensures.value c.index-more-k.is (search rules) i.1,
    )
