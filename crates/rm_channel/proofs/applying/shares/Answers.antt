use Rattle.std.proofs.Common.{◌≡◌, List, ltb, subst, sym, rules}
use Rattle.std.proofs.lemmas.List.Sorted.{IsNonDecreasingBy-drop, IsNonDecreasingBy-take, IsPartitionPoint-from_clause, IsPartitionedBy-ltb}
use Rattle.rm_base.specs.declared.block.Part.{Part}
use Rattle.rm_channel.{specs.Applied.{Ascend, with_parts}, proofs.Puts.{cut-back, cut-front}}
use Rattle.rm_channel.proofs.applying.shares.Goals as goal

pub returns : goal.returns
returns c =
    let ps = c.args.parts.now in
    let m = c.args.middle in
    let n = c.partition_point-count.result in
    let ascend : Ascend ps = c.requires c.if-not-in_order.false in
    let point = IsPartitionPoint-from_clause (λ (p : Part). ltb p.block m) _ _ c.partition_point-count.ensures.partitioned (IsPartitionedBy-ltb (λ (p : Part). p.block) ps m ascend) (λ a r q k. search rules) in
    let front = sym c.split_at.ensures.front in
    let back = sym c.split_at.ensures.back in
    record {
      order = λ is. (subst Ascend front (IsNonDecreasingBy-take (λ (p : Part). p.block) n ps ascend), subst Ascend back (IsNonDecreasingBy-drop (λ (p : Part). p.block) n ps ascend));
      front = λ b rows le. subst (λ (low : List Part). with_parts low b rows ≡ with_parts ps b rows) front (cut-front m n ps point.1 b rows le);
      back = λ b rows le. subst (λ (high : List Part). with_parts high b rows ≡ with_parts ps b rows) back (cut-back m n ps point.0 b rows le);
    }
