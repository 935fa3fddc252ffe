use Rattle.std.proofs.Common.{◌≡◌, length, arith, rules, ap}
use Rattle.rm_base.specs.declared.block.Block.{Block}
use Rattle.rm_lanes.proofs.Equal.{mask_of-zero}
use Rattle.rm_lanes.proofs.blocks.same.Goals as goal

pub returns : goal.returns
returns c =
    let a : length c.args.a.now.0 ≡ 64 = search rules in
    let b : length c.args.b.now.0 ≡ 64 = search rules in
    let same = mask_of-zero 64 c.args.a.now.0 c.args.b.now.0 a b (omega arith) in
    ((λ t. search (rules, same.0 t)), (λ e. same.1 (ap (λ (x : Block). x.0) e)))
